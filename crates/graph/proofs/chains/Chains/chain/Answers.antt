use Rattle.std.proofs.Common.{arith}
use Rattle.graph.proofs.Chaining.{add_none, add_some}
use Rattle.graph.proofs.chains.Chains.chain.Goals as goal
use Rattle.graph.proofs.chains.Chains.chain.Goals.{in-Some, in-None}

pub loop-number-preserved : goal.loop-number-preserved
loop-number-preserved g c =
    let before = c.loop-number.invariant in
    elim c.match-pair_in_range.branch [
      | in-Some w ↦ rw w.self-is (record {
        chained = add_some _ _ c.loop-number.number _ _ _ w.in-Some.from _ w.index_mut.result.now w.replace-before.new.self _ before.chained w.in-Some.ensures
            w.index_mut.ensures.value w.replace-before.ensures.value w.replace-before.ensures.after (rw (w.self-is, w.before-is) at c.push_reserved.ensures.items);
        heads_room = before.heads_room;
        nexts_room = omega (arith, before.nexts_room, rw w.self-is at c.push_reserved.ensures.capacity);
      })
      | in-None w ↦ rw w.self-is (record {
        chained = add_none _ _ c.loop-number.number _ _ _ before.chained w.in-None.ensures (rw (w.self-is, w.before-is) at c.push_reserved.ensures.items);
        heads_room = before.heads_room;
        nexts_room = omega (arith, before.nexts_room, rw w.self-is at c.push_reserved.ensures.capacity);
      })
    ]
