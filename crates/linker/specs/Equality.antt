-- Equality is decided on truth values and on optional values.
use Rattle.std.specs.Prelude.{◌≡◌, Bool, true, false, Some, None, Option, refl}
use Rattle.std.proofs.Common.{sym, ap, subst, true≢false}
use Rattle.std.proofs.lemmas.Bool.{false≢true}

abbrev pub bool_discrete : Discrete Bool
bool_discrete true true = yes refl
bool_discrete true false = no true≢false
bool_discrete false true = no false≢true
bool_discrete false false = yes refl

-- there is a value; by cases, so that two different cases are told apart by computing
abbrev pub Filled : {A : Type 0} → Option A → Type 0
Filled None = ⊥
Filled (Some a) = Unit {0}

abbrev pub content : {A : Type 0} → A → Option A → A
content d None = d
content d (Some a) = a

abbrev pub option_discrete : {A : Type 0} → Discrete A → Discrete (Option A)
option_discrete d None None = yes refl
option_discrete d None (Some b) = no (λ e. subst Filled (sym e) tt)
option_discrete d (Some a) None = no (λ e. subst Filled e tt)
option_discrete d (Some a) (Some b) = go (d a b)
  where
    go : Dec (a ≡ b) → Dec (Some a ≡ Some b)
    go (yes p) = yes (ap Some p)
    go (no h) = no (λ e. h (ap (content a) e))
