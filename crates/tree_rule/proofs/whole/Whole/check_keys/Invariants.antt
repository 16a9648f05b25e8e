use Rattle.std.proofs.Common.{ℕ, ◌<◌}
use Rattle.tree_rule.specs.Rule.{Distinct}
use Rattle.tree_rule.proofs.whole.Whole.check_keys.Given as goal

abbrev pub invariant-loop-node : goal.invariant-loop-node
invariant-loop-node l = (j : ℕ) → j < l.node → Distinct l.self.sound.nodes.now l.self.sound.text.now j
