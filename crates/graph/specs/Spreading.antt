-- How far the marks have spread: every marked place stands in a queue, and those at its front have spread.
use Rattle.std.specs.Prelude.{◌≡◌, ℕ, ◌+◌, Bool, not, ◌⊎◌, List, ◌++◌, length, count_by, take, All, Contains, Option}
use Rattle.graph.specs.Reached.{Marked, Step, Reached}

-- the queue has the marked places and no other, each once
pub record Lined (marks : List Bool) (queue : List ℕ) : Type 0 where
  pub counted : length queue + count_by not marks ≡ length marks
  pub marked : All (Marked marks) queue
  pub waits : (k : ℕ) → Marked marks k → Contains queue k

-- every pair from i leads to a marked place
abbrev pub Spread : ℕ → ℕ → (ℕ → Option (ℕ × ℕ)) → List Bool → ℕ → Type 0
Spread n m E marks i = (k : ℕ) → Step n m E i k → Marked marks k

-- no mark is taken away, and the queue grows at its end; what was marked is reached, and joined the queue
pub record Grown (n m : ℕ) (E : ℕ → Option (ℕ × ℕ)) (marks : List Bool) (queue : List ℕ) (marks' : List Bool) (queue' : List ℕ) : Type 0 where
  pub long : length marks' ≡ length marks
  pub counted : length queue' + count_by not marks' ≡ length queue + count_by not marks
  pub marks_kept : (k : ℕ) → Marked marks k → Marked marks' k
  pub sound : (k : ℕ) → Marked marks' k → Reached n m E marks k
  pub joined : List ℕ
  pub queue_kept : queue' ≡ queue ++ joined
  pub waits : (k : ℕ) → Marked marks' k → Marked marks k ⊎ Contains joined k

-- so far nothing but reached places is marked, each of them is in the queue, and those before `next` have spread
pub record Spreading (n m : ℕ) (E : ℕ → Option (ℕ × ℕ)) (start marks : List Bool) (queue : List ℕ) (next : ℕ) : Type 0 where
  pub long : length marks ≡ n
  pub lined : Lined marks queue
  pub kept : (k : ℕ) → Marked start k → Marked marks k
  pub sound : (k : ℕ) → Marked marks k → Reached n m E start k
  pub spread : All (Spread n m E marks) (take next queue)
