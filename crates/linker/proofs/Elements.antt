-- Elements by their number, and optional values.
use Rattle.std.proofs.Common.{◌≡◌, ℕ, zero, suc, List, [], ◌∷◌, Some, None, Option, sym, refl, ap, subst}
use Rattle.grammar.specs.Places.{At, element_at}
use Rattle.linker.specs.Equality.{Filled, content}
use Rattle.linker.specs.Graphs.{later, joining}

pub none_some : {A : Type 0} {x : A} → ¬ (None ≡ Some x)
none_some e = subst Filled (sym e) tt

pub some_same : {A : Type 0} (x y : A) → Some x ≡ Some y → x ≡ y
some_same x y e = ap (content x) e

pub element_there : {A : Type 0} (xs : List A) (k : ℕ) (x : A) → element_at xs k ≡ Some x → At xs k x
element_there [] k x e = none_some e
element_there (y ∷ xs) zero x e = some_same y x e
element_there (y ∷ xs) (suc k) x e = element_there xs k x e

pub element_found : {A : Type 0} (xs : List A) (k : ℕ) (x : A) → At xs k x → element_at xs k ≡ Some x
element_found [] k x a = absurd a
element_found (y ∷ xs) zero x a = ap Some a
element_found (y ∷ xs) (suc k) x a = element_found xs k x a

pub later_some : (o : Option ℕ) (k : ℕ) → later o ≡ Some k → (l : ℕ) × (k ≡ suc l) × (o ≡ Some l)
later_some None k e = absurd (none_some e)
later_some (Some l) k e = (l, sym (some_same (suc l) k e), refl)

pub joining_some : (o p : Option ℕ) (a b : ℕ) → joining o p ≡ Some (a, b) → (o ≡ Some a) × (p ≡ Some b)
joining_some None p a b e = absurd (none_some e)
joining_some (Some x) None a b e = absurd (none_some e)
joining_some (Some x) (Some y) a b e =
    let q = some_same {A = ℕ × ℕ} (x, y) (a, b) e in
    (ap (λ (z : ℕ × ℕ). Some z.0) q, ap (λ (z : ℕ × ℕ). Some z.1) q)
