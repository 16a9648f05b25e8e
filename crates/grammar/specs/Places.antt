-- What stands at a place of a list.
use Rattle.std.specs.Prelude.{◌≡◌, ℕ, zero, suc, List, [], ◌∷◌, Some, None, Option}

-- x stands at place k
abbrev pub At : {A : Type 0} → List A → ℕ → A → Type 0
At [] k x = ⊥
At (y ∷ ys) zero x = y ≡ x
At (y ∷ ys) (suc k) x = At ys k x

-- what stands at place k, if anything does
abbrev pub element_at : {A : Type 0} → List A → ℕ → Option A
element_at [] k = None
element_at (x ∷ xs) zero = Some x
element_at (x ∷ xs) (suc k) = element_at xs k

-- x stands somewhere in the list
pub record In {A : Type 0} (xs : List A) (x : A) : Type 0 where
  pub place : ℕ
  pub there : At xs place x
