use Rattle.std.proofs.Common.{◌≡◌, ℕ, List}
use Rattle.judging.specs.Judging.{FineBelow}
use Rattle.judging.proofs.judging.judge_all.Given as goal

-- the texts before this one are fine, and the engine's verdicts are what they were
abbrev pub invariant-loop-number : goal.invariant-loop-number
invariant-loop-number g l = FineBelow (g.E.Engine.verdict l.initial.engine) l.whole l.texts l.number-counter
    × ((t : List ℕ) → g.E.Engine.verdict l.engine t ≡ g.E.Engine.verdict l.initial.engine t)
