use Rattle.std.proofs.Common.{vec_items, vec_capacity, ap, ◌∙◌}
use Rattle.graph.proofs.Lining.{lined_more_marked, lined_more_unmarked}
use Rattle.graph.proofs.frontier.Frontier.new.Goals as goal
use Rattle.graph.proofs.frontier.Frontier.new.Goals.{then-marked, else-marked}

pub loop-place-preserved : goal.loop-place-preserved
loop-place-preserved c =
    let marks = c.args.marks.now in
    let queue = vec_items c.loop-place.queue in
    let h = c.loop-place-test.true in
    elim c.if-marked.branch [
      | then-marked w ↦ record {
        lined = lined_more_marked marks c.loop-place.place queue h w.if-marked.true (ap vec_items w.queue-is ∙ w.push_reserved.ensures.items) c.loop-place.invariant.lined;
        room = ap vec_capacity w.queue-is ∙ w.push_reserved.ensures.capacity ∙ c.loop-place.invariant.room;
      }
      | else-marked w ↦ record {
        lined = lined_more_unmarked marks c.loop-place.place queue h w.if-marked.false (ap vec_items w.queue-is) c.loop-place.invariant.lined;
        room = ap vec_capacity w.queue-is ∙ c.loop-place.invariant.room;
      }
    ]
