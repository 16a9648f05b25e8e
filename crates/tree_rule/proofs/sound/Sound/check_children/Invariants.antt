use Rattle.std.proofs.Common.{ℕ, ◌<◌}
use Rattle.tree_rule.specs.Refusals.{Holds}
use Rattle.tree_rule.proofs.sound.Sound.check_children.Given as goal

abbrev pub invariant-loop-node : goal.invariant-loop-node
invariant-loop-node l = (j : ℕ) → j < l.node → Holds l.self.nodes.now j
