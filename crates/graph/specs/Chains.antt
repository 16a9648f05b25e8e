-- The pairs from one place, chained from the last to the first.
use Rattle.std.specs.Prelude.{◌≡◌, ℕ, zero, suc, ◌<◌, Bool, true, false, cond, ◌&&◌, List, [], ◌∷◌, length, Some, None, Option, ◌==◌, nat_lt, is_some, slice_index_or}

-- a pair that names a place out of range counts as none
abbrev pub in_range : ℕ → Option (ℕ × ℕ) → Option (ℕ × ℕ)
in_range n None = None
in_range n (Some p) = cond (nat_lt p.0 n && nat_lt p.1 n) (Some p) None

abbrev pub goes_from : Option (ℕ × ℕ) → ℕ → Bool
goes_from None i = false
goes_from (Some p) i = p.0 == i

-- the last pair from i among those numbered below j
abbrev pub last_from : ℕ → (ℕ → Option (ℕ × ℕ)) → ℕ → ℕ → Option ℕ
last_from n E zero i = None
last_from n E (suc j) i = cond (goes_from (in_range n (E j)) i) (Some j) (last_from n E j i)

-- the pairs numbered below j are chained: `heads` has the last pair from each place, `nexts` for each pair the one before it from the same place
pub record Chained (n : ℕ) (E : ℕ → Option (ℕ × ℕ)) (j : ℕ) (heads nexts : List (Option ℕ)) : Type 0 where
  pub heads_long : length heads ≡ n
  pub nexts_long : length nexts ≡ j
  pub head : (i : ℕ) → i < n → slice_index_or heads i None ≡ last_from n E j i
  pub next : (k i : ℕ) → k < j → goes_from (in_range n (E k)) i ≡ true → slice_index_or nexts k None ≡ last_from n E k i

-- the place that a pair goes from, and the one that it goes to; of none it is 0
abbrev pub origin : Option (ℕ × ℕ) → ℕ
origin None = 0
origin (Some p) = p.0

abbrev pub target : Option (ℕ × ℕ) → ℕ
target None = 0
target (Some p) = p.1

-- where the pairs from i numbered below j go to, the last pair first
abbrev pub targets : ℕ → (ℕ → Option (ℕ × ℕ)) → ℕ → ℕ → List ℕ
targets n E zero i = []
targets n E (suc j) i = cond (goes_from (in_range n (E j)) i) (target (in_range n (E j)) ∷ targets n E j i) (targets n E j i)

-- where the pairs of a chain go to, by the number that it begins with
abbrev pub chain_targets : ℕ → (ℕ → Option (ℕ × ℕ)) → Option ℕ → List ℕ
chain_targets n E None = []
chain_targets n E (Some j) = targets n E (suc j) (origin (in_range n (E j)))

-- a chain begins with a pair that counts, if with any
abbrev pub counts : ℕ → ℕ → (ℕ → Option (ℕ × ℕ)) → Option ℕ → Bool
counts n m E None = true
counts n m E (Some j) = nat_lt j m && is_some (in_range n (E j))
