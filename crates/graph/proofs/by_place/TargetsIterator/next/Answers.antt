use Rattle.std.proofs.Common.{length, ap, arith, rules}
use Rattle.graph.proofs.Following.{step_read}
use Rattle.graph.proofs.by_place.TargetsIterator.next.Goals as goal

pub invariant_of-self : goal.invariant_of-self
invariant_of-self g c =
    record { counts = (step_read _ _ _ _ _ _ c.in_ok-number.number _ c.in_ok-to.to _ c.args.self.now.pairs.now.chained c.args.self.now.counts c.in_ok-number.was c.in_ok-to.ensures c.index.ensures).1 }

pub returns : goal.returns
returns g c =
    let read = step_read _ _ _ _ _ _ c.in_ok-number.number _ c.in_ok-to.to _ c.args.self.now.pairs.now.chained c.args.self.now.counts c.in_ok-number.was c.in_ok-to.ensures c.index.ensures in
    record { steps = read.0; goes = record { on = λ _. (search rules, search rules, omega (arith, ap length read.0)); keeps = search rules; rests = search rules } }
