-- What holds of every piece of a text that is cut.
use Rattle.std.proofs.Common.{◌≡◌, ℕ, zero, suc, pred, List, [], ◌∷◌, ◌++◌, length, drop, refl, ap, ◌∙◌}
use Rattle.std.specs.List.{flat_map, AllByRecursion}
use Rattle.tokens.specs.Cut.{cut_within, cut, past_front}

each_within : {A : Type 0} (front : List ℕ → A) (spelled : A → List ℕ) (P : List ℕ → Type 0) (Q : A → Type 0) →
    ((n : ℕ) (bs : List ℕ) → P bs → P (drop n bs)) → ((b : ℕ) (bs : List ℕ) → P (b ∷ bs) → Q (front (b ∷ bs))) →
    (n : ℕ) (bs : List ℕ) → P bs → AllByRecursion Q (cut_within front spelled n bs)
each_within front spelled P Q rest here zero bs p = tt
each_within front spelled P Q rest here (suc n) [] p = tt
each_within front spelled P Q rest here (suc n) (b ∷ bs) p = (
  here b bs p,
  each_within front spelled P Q rest here n (past_front front spelled b bs) (rest (suc (pred (length (spelled (front (b ∷ bs)))))) (b ∷ bs) p),
)

-- P passes on to what is left of a text, and where it holds the piece at the front is a Q: then every piece is
pub each_cut : {A : Type 0} (front : List ℕ → A) (spelled : A → List ℕ) (P : List ℕ → Type 0) (Q : A → Type 0) →
    ((n : ℕ) (bs : List ℕ) → P bs → P (drop n bs)) → ((b : ℕ) (bs : List ℕ) → P (b ∷ bs) → Q (front (b ∷ bs))) →
    (bs : List ℕ) → P bs → AllByRecursion Q (cut front spelled bs)
unfolding cut
each_cut front spelled P Q rest here bs p = each_within front spelled P Q rest here (length bs) bs p

pub joined_same : {A : Type 0} (f g : A → List ℕ) (xs : List A) → AllByRecursion (λ x. f x ≡ g x) xs → flat_map f xs ≡ flat_map g xs
joined_same f g [] e = refl
joined_same f g (x ∷ xs) e = ap (λ (ys : List ℕ). ys ++ flat_map f xs) e.0 ∙ ap (λ (ys : List ℕ). g x ++ ys) (joined_same f g xs e.1)
