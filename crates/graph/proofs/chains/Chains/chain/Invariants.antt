use Rattle.std.proofs.Common.{◌≤◌, vec_items, vec_capacity}
use Rattle.graph.specs.Chains.{Chained}
use Rattle.graph.proofs.chains.Chains.chain.Given as goal

-- the pairs so far are chained
abbrev pub invariant-loop-number : goal.invariant-loop-number
invariant-loop-number g l = record {
  chained : Chained l.places (g.G.Graph.pair_at l.graph) l.number (vec_items l.self.heads) (vec_items l.self.nexts);
  heads_room : vec_capacity l.initial.self.heads ≤ vec_capacity l.self.heads;
  nexts_room : vec_capacity l.initial.self.nexts ≤ vec_capacity l.self.nexts;
}
