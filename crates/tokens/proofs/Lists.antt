-- Laws of lists that the shelf lacks.
use Rattle.std.proofs.Common.{◌≡◌, ℕ, zero, suc, min, List, [], ◌∷◌, ◌++◌, length, take, drop, sym, refl, ap, ◌∙◌, ⊎_elim, arith}
use Rattle.std.proofs.lemmas.List.{drop_all}
use Rattle.std.proofs.lemmas.Bool.{cases_lt}

pub drop_least : {A : Type 0} (n m : ℕ) (xs : List A) → m ≡ min n (length xs) → drop m xs ≡ drop n xs
drop_least n m xs e = ⊎_elim
    (λ h. ap (λ (k : ℕ). drop k xs) (omega (arith, e)))
    (λ h. drop_all m xs (omega (arith, e)) ∙ sym (drop_all n xs h))
    (cases_lt n (length xs))

-- the first n elements, and what is left behind as many
pub take_drop_taken : {A : Type 0} (n : ℕ) (xs : List A) → take n xs ++ drop (length (take n xs)) xs ≡ xs
take_drop_taken zero xs = refl
take_drop_taken (suc n) [] = refl
take_drop_taken {A = A} (suc n) (x ∷ xs) = ap (λ (ys : List A). x ∷ ys) (take_drop_taken n xs)
