use Rattle.std.proofs.Common.{◌≡◌, take, vec_items, vec_capacity}
use Rattle.graph.specs.Spreading.{Lined}
use Rattle.graph.proofs.frontier.Frontier.new.Given as goal

-- the marked places so far wait
abbrev pub invariant-loop-place : goal.invariant-loop-place
invariant-loop-place l = record {
  lined : Lined (take l.place l.marked-items) (vec_items l.queue);
  room : vec_capacity l.queue ≡ vec_capacity l.initial.queue;
}
