-- What `all` answers.
use Rattle.std.proofs.Common.{ℕ, ◌<◌, Bool, true, false, List, length, Decides, MatchBool, refl, arith}
use Rattle.std.specs.List.{AllByRecursion, AllWithin, HoldsAt}
use Rattle.std.proofs.ByRecursion.{all_from_every, every_from_all}
use Rattle.std.proofs.lemmas.Bool.{false≢true}

pub decides_all : (P : ℕ → Type 0) (xs : List ℕ) (r : Bool) →
    MatchBool r (AllWithin P xs 0 (length xs)) ((k : ℕ) × (k < length xs) × HoldsAt (λ x. P x → ⊥) xs k) → Decides r (AllByRecursion P xs)
decides_all P xs true m = (λ _. all_from_every P xs m, λ _. refl)
decides_all P xs false m =
    (λ e. absurd (false≢true e), λ all. absurd (m.2 0 (every_from_all P xs all m.0 0 (omega arith) m.1)))
