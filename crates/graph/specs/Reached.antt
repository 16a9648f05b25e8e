-- Places that are reached by pairs. A graph has n places, m pairs, and E says which places a pair's number joins.
use Rattle.std.specs.Prelude.{◌≡◌, ℕ, ◌<◌, Bool, true, false, List, length, Some, Option, slice_index_or}

-- the place k is there, and is marked
abbrev pub Marked : List Bool → ℕ → Type 0
Marked marks k = slice_index_or marks k false ≡ true

-- some pair goes from i to k; one that names a place out of range counts for nothing
pub record Step (n m : ℕ) (E : ℕ → Option (ℕ × ℕ)) (i k : ℕ) : Type 0 where
  pub number : ℕ
  pub counted : number < m
  pub joins : E number ≡ Some (i, k)
  pub from_inside : i < n
  pub to_inside : k < n

-- marked at the start, or one pair on from a place that is reached
pub data Reached (n m : ℕ) (E : ℕ → Option (ℕ × ℕ)) (start : List Bool) : ℕ → Type 0 where
  given : {k : ℕ} → Marked start k → Reached n m E start k
  by : {i k : ℕ} → Step n m E i k → Reached n m E start i → Reached n m E start k

-- exactly the reached places are marked at the end
pub record Marking (n m : ℕ) (E : ℕ → Option (ℕ × ℕ)) (start end : List Bool) : Type 0 where
  pub long : length end ≡ length start
  pub sound : (k : ℕ) → Marked end k → Reached n m E start k
  pub whole : (k : ℕ) → Reached n m E start k → Marked end k
