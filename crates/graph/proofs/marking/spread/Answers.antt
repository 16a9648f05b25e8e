use Rattle.std.proofs.Common.{rules, refl, ◌∙◌}
use Rattle.graph.proofs.Following.{followed_inside, followed_more, followed_none}
use Rattle.graph.proofs.Lending.{lent_on, lent_same}
use Rattle.graph.proofs.marking.spread.Goals as goal

pub loop-to-init : goal.loop-to-init
loop-to-init g c = record {
  can = search rules;
  ends = search rules;
  followed = followed_none _ _ _ c.args.place _ _ _ (rw c.into_iter-to-iterator.ensures.into_iter_gives c.targets-to-items.ensures);
  next = refl;
  lent = lent_same _;
}

pub mark-requires : goal.mark-requires
mark-requires g c = followed_inside _ _ _ c.args.place _ _ _ _ _ c.in-Some.to _ c.requires.long c.loop-to.invariant.followed c.in-Some.ensures.steps

pub loop-to-preserved : goal.loop-to-preserved
loop-to-preserved g c = record {
  can = search rules;
  ends = search rules;
  followed = followed_more _ _ _ c.args.place _ _ _ _ _ c.in-Some.to _ _ _ c.loop-to.invariant.followed c.in-Some.ensures.steps c.requires.marked c.requires.long
      c.mark.ensures.marks c.mark.ensures.queue;
  next = c.mark.ensures.next ∙ c.loop-to.invariant.next;
  lent = lent_on _ _ _ c.loop-to.invariant.lent c.mark.ensures.lent;
}
