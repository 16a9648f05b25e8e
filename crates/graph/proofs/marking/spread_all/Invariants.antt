use Rattle.std.proofs.Common.{◌+◌, ◌-◌, not, count_by, vec_items, vec_len}
use Rattle.graph.specs.Lent.{SameLent}
use Rattle.graph.specs.Spreading.{Spreading}
use Rattle.graph.proofs.marking.spread_all.Given as goal

-- the places that were taken have spread their marks
abbrev pub invariant-loop-place : goal.invariant-loop-place
invariant-loop-place g l = record {
  spreads : Spreading (g.G.Graph.place_count l.pairs.graph.now) (g.G.Graph.pair_count l.pairs.graph.now) (g.G.Graph.pair_at l.pairs.graph.now)
      l.initial.front.marks.now l.front.marks.now (vec_items l.front.queue.now) l.front.next;
  lent : SameLent l.initial.front l.front;
}

-- the places that wait and those that are not marked
abbrev pub decreases-loop-place : goal.decreases-loop-place
decreases-loop-place g l = (vec_len l.front.queue.now + count_by not l.front.marks.now) - l.front.next
