use Rattle.judging.proofs.Agreement.{agreed}
use Rattle.judging.proofs.recording.record_verdicts.Goals as goal

pub returns-else-is_err-clause-agrees : goal.returns-else-is_err-clause-agrees
returns-else-is_err-clause-agrees g c =
    agreed g.E.Fault.Numbered.numbered (λ f. (g.met.E.Fault.Numbered.ranged f).1) (g.E.Engine.verdict c.args.engine.now)
    c.args.whole.now c.args.texts.now c.take_all-taken.result c.take_all-taken.new.entries.items c.take_all-taken.ensures.taken
