-- What a frontier is lent.
use Rattle.std.specs.Prelude.{◌≡◌, vec_capacity}
use Rattle.graph.specs.declared.frontier.Frontier.{Frontier}

-- the same marks and the same queue are lent as before, and the queue has as much room
pub record SameLent (old new : Frontier) : Type 0 where
  pub marks : new.marks.ghost_name ≡ old.marks.ghost_name
  pub queue : new.queue.ghost_name ≡ old.queue.ghost_name
  pub room : vec_capacity new.queue.now ≡ vec_capacity old.queue.now
