use Rattle.std.proofs.Common.{◌∙◌}
use Rattle.graph.proofs.Lending.{lent_on, lent_same}
use Rattle.graph.proofs.Spreads.{spreading_begins, spreading_ends, spreading_more}
use Rattle.graph.proofs.marking.spread_all.Goals as goal

pub loop-place-init : goal.loop-place-init
loop-place-init g c = record {
  spreads = spreading_begins _ _ _ _ _ _ c.requires.long c.requires.lined c.requires.next;
  lent = lent_same _;
}

pub loop-place-preserved : goal.loop-place-preserved
loop-place-preserved g c = record {
  spreads = spreading_more _ _ _ _ _ _ _ c.in-Some.place _ _ _ c.loop-place.invariant.spreads c.in-Some.ensures.first (c.spread.ensures.next ∙ c.in-Some.ensures.next)
      (rw (c.pop.ensures.marks, c.pop.ensures.queue) at c.spread.ensures.grows) c.spread.new.front.marked c.spread.ensures.leads;
  lent = lent_on _ _ _ (lent_on _ _ _ c.loop-place.invariant.lent c.pop.ensures.lent) c.spread.ensures.lent;
}

pub returns-clause-marking : goal.returns-clause-marking
returns-clause-marking g c = rw c.pop.ensures.marks (spreading_ends _ _ _ _ _ _ _ c.requires.long c.loop-place.invariant.spreads c.in_default.ensures.first)
