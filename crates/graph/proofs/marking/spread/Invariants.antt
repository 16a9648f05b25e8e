use Rattle.std.proofs.Common.{◌≡◌, vec_items}
use Rattle.graph.specs.Lent.{SameLent}
use Rattle.graph.specs.Chains.{chain_targets}
use Rattle.graph.proofs.Following.{Followed}
use Rattle.graph.proofs.marking.spread.Given as goal

-- the marks of the targets so far, and those that the iterator has left
abbrev pub invariant-loop-to : goal.invariant-loop-to
invariant-loop-to g l =
    let it = l.to-iterator in record {
      can : (goal.iterator-loop-to g).can_next it;
      ends : (goal.iterator-loop-to g).is_finite it;
      followed : Followed (g.G.Graph.place_count l.pairs.graph.now) (g.G.Graph.pair_count l.pairs.graph.now) (g.G.Graph.pair_at l.pairs.graph.now) l.fn.place
          l.initial.front.marks.now (vec_items l.initial.front.queue.now) l.front.marks.now (vec_items l.front.queue.now)
          (chain_targets (g.G.Graph.place_count it.pairs.now.graph.now) (g.G.Graph.pair_at it.pairs.now.graph.now) it.next);
      next : l.front.next ≡ l.initial.front.next;
      lent : SameLent l.initial.front l.front;
    }
