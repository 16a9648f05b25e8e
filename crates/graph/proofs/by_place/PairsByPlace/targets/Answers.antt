use Rattle.graph.proofs.Following.{first_read}
use Rattle.graph.proofs.by_place.PairsByPlace.targets.Goals as goal

pub invariant_of-result : goal.invariant_of-result
invariant_of-result g c = record { counts = (first_read _ _ _ _ _ c.args.place _ c.args.self.now.chained c.requires c.index.ensures).1 }

pub returns : goal.returns
returns g c = (first_read _ _ _ _ _ c.args.place _ c.args.self.now.chained c.requires c.index.ensures).0
