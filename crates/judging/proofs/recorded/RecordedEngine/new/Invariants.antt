use Rattle.judging.specs.Entries.{SoundBelow}
use Rattle.judging.proofs.recorded.RecordedEngine.new.Given as goal

-- the entries before this one are sound
abbrev pub invariant-loop-number : goal.invariant-loop-number
invariant-loop-number l = SoundBelow l.whole l.entries l.number
