-- Laws of cutting a text into pieces.
use Rattle.std.proofs.Common.{◌≡◌, ℕ, zero, suc, ◌≤◌, List, [], ◌∷◌, ◌++◌, length, refl, ap, ◌∙◌, arith, length-drop}
use Rattle.std.specs.List.{flat_map}
use Rattle.tokens.specs.Cut.{cut_within, cut, past_front, Honest}

-- more bytes allowed than there are make no difference
enough : {A : Type 0} (front : List ℕ → A) (spelled : A → List ℕ) (n m : ℕ) (bs : List ℕ) → length bs ≤ n → length bs ≤ m →
    cut_within front spelled n bs ≡ cut_within front spelled m bs
enough front spelled zero zero bs h k = refl
enough front spelled zero (suc m) [] h k = refl
enough front spelled zero (suc m) (b ∷ bs) h k = absurd (omega arith)
enough front spelled (suc n) zero [] h k = refl
enough front spelled (suc n) zero (b ∷ bs) h k = absurd (omega arith)
enough front spelled (suc n) (suc m) [] h k = refl
enough {A = A} front spelled (suc n) (suc m) (b ∷ bs) h k =
    ap (λ (ps : List A). front (b ∷ bs) ∷ ps)
    (enough front spelled n m (past_front front spelled b bs)
    (simp length-drop (omega arith)) (simp length-drop (omega arith)))

pub cut_nil : {A : Type 0} (front : List ℕ → A) (spelled : A → List ℕ) → cut front spelled [] ≡ []
unfolding cut
cut_nil front spelled = refl

pub cut_cons : {A : Type 0} (front : List ℕ → A) (spelled : A → List ℕ) (b : ℕ) (bs : List ℕ) →
    cut front spelled (b ∷ bs) ≡ front (b ∷ bs) ∷ cut front spelled (past_front front spelled b bs)
unfolding cut
cut_cons {A = A} front spelled b bs =
    ap (λ (ps : List A). front (b ∷ bs) ∷ ps)
    (enough front spelled (length bs) (length (past_front front spelled b bs)) (past_front front spelled b bs)
    (simp length-drop (omega arith)) (omega arith))

joined_within : {A : Type 0} (front : List ℕ → A) (spelled : A → List ℕ) → Honest front spelled → (n : ℕ) (bs : List ℕ) → length bs ≤ n →
    flat_map spelled (cut_within front spelled n bs) ≡ bs
joined_within front spelled honest zero [] h = refl
joined_within front spelled honest zero (b ∷ bs) h = absurd (omega arith)
joined_within front spelled honest (suc n) [] h = refl
joined_within front spelled honest (suc n) (b ∷ bs) h =
    ap (λ (xs : List ℕ). spelled (front (b ∷ bs)) ++ xs)
    (joined_within front spelled honest n (past_front front spelled b bs) (simp length-drop (omega arith)))
    ∙ honest b bs

-- the pieces joined are the text
pub cut_joined : {A : Type 0} (front : List ℕ → A) (spelled : A → List ℕ) → Honest front spelled → (bs : List ℕ) →
    flat_map spelled (cut front spelled bs) ≡ bs
unfolding cut
cut_joined front spelled honest bs = joined_within front spelled honest (length bs) bs (omega arith)
