use Rattle.std.proofs.Common.{◌≡◌, ℕ, List, ◌++◌, drop}
use Rattle.judging.specs.Judging.{number_of}
use Rattle.judging.specs.Recording.{ThereBelow, entries_for}
use Rattle.judging.proofs.recording.take_all.Given as goal

-- what is taken down of the texts before this one, and then the entries of those that are left, are the entries of all;
-- and the engine's verdicts are what they were
abbrev pub invariant-loop-number : goal.invariant-loop-number
invariant-loop-number g l =
    let number = λ (t : List ℕ). number_of g.E.Fault.Numbered.numbered (g.E.Engine.verdict l.initial.engine t) in
    ThereBelow l.whole l.texts l.number
    × (l.entries.items ++ entries_for number l.whole (drop l.number l.texts) ≡ entries_for number l.whole l.texts)
    × ((t : List ℕ) → g.E.Engine.verdict l.engine t ≡ g.E.Engine.verdict l.initial.engine t)
