use Rattle.std.proofs.Common.{ℕ, ◌<◌}
use Rattle.tree_rule.specs.Rule.{Right}
use Rattle.tree_rule.proofs.candidate.Candidate.check_nodes.Given as goal

abbrev pub invariant-loop-i : goal.invariant-loop-i
invariant-loop-i l = (j : ℕ) → j < l.i-counter → Right l.self.nodes.now l.self.text.now j
