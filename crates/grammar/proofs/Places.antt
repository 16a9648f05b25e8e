-- Laws of what stands at a place.
use Rattle.std.proofs.Common.{◌≡◌, ℕ, zero, suc, ◌+◌, ◌<◌, ◌⊎◌, List, [], ◌∷◌, ◌++◌, length, sym, refl, ◌∙◌, subst, inl, inr, arith}
use Rattle.grammar.specs.Places.{At, In}

-- one thing stands at a place
pub at_same : {A : Type 0} (xs : List A) (k : ℕ) (x y : A) → At xs k x → At xs k y → x ≡ y
at_same [] k x y a b = absurd a
at_same (z ∷ xs) zero x y a b = sym a ∙ b
at_same (z ∷ xs) (suc k) x y a b = at_same xs k x y a b

pub at_below : {A : Type 0} (xs : List A) (k : ℕ) (x : A) → At xs k x → k < length xs
at_below [] k x a = absurd a
at_below (z ∷ xs) zero x a = omega arith
at_below (z ∷ xs) (suc k) x a = let ih = at_below xs k x a in omega arith

pub at_there : {A : Type 0} (xs : List A) (k : ℕ) → k < length xs → (x : A) × At xs k x
at_there [] k h = absurd (omega arith)
at_there (z ∷ xs) zero h = (z, refl)
at_there (z ∷ xs) (suc k) h = at_there xs k (omega arith)

pub at_left : {A : Type 0} (xs ys : List A) (k : ℕ) (x : A) → At xs k x → At (xs ++ ys) k x
at_left [] ys k x a = absurd a
at_left (z ∷ xs) ys zero x a = a
at_left (z ∷ xs) ys (suc k) x a = at_left xs ys k x a

pub at_right : {A : Type 0} (xs ys : List A) (k : ℕ) (y : A) → At ys k y → At (xs ++ ys) (length xs + k) y
at_right [] ys k y a = let e : 0 + k ≡ k = omega arith in subst (λ l. At ys l y) (sym e) a
at_right (z ∷ xs) ys k y a =
    let e : suc (length xs) + k ≡ suc (length xs + k) = omega arith in
    subst (λ l. At (z ∷ (xs ++ ys)) l y) (sym e) (at_right xs ys k y a)

-- what stands in two lists joined stands in the first or in the second
pub at_either : {A : Type 0} (xs ys : List A) (k : ℕ) (z : A) → At (xs ++ ys) k z → At xs k z ⊎ ((l : ℕ) × (k ≡ length xs + l) × At ys l z)
at_either [] ys k z a = inr (k, omega arith, a)
at_either (x ∷ xs) ys zero z a = inl a
at_either (x ∷ xs) ys (suc k) z a = go (at_either xs ys k z a)
  where
    go : At xs k z ⊎ ((l : ℕ) × (k ≡ length xs + l) × At ys l z) →
        At xs k z ⊎ ((l : ℕ) × (suc k ≡ suc (length xs) + l) × At ys l z)
    go (inl b) = inl b
    go (inr b) = let e = b.1 in inr (b.0, omega arith, b.2)

pub in_left : {A : Type 0} (xs ys : List A) {x : A} → In xs x → In (xs ++ ys) x
in_left xs ys {x} i = record { place = i.place; there = at_left xs ys i.place x i.there }

pub in_right : {A : Type 0} (xs ys : List A) {y : A} → In ys y → In (xs ++ ys) y
in_right xs ys {y} i = record { place = length xs + i.place; there = at_right xs ys i.place y i.there }

pub in_either : {A : Type 0} (xs ys : List A) {z : A} → In (xs ++ ys) z → In xs z ⊎ In ys z
in_either xs ys {z} i = go (at_either xs ys i.place z i.there)
  where
    go : At xs i.place z ⊎ ((l : ℕ) × (i.place ≡ length xs + l) × At ys l z) → In xs z ⊎ In ys z
    go (inl a) = inl (record { place = i.place; there = a })
    go (inr b) = inr (record { place = b.0; there = b.2 })
