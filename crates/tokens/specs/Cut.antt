-- Cutting a text into pieces. `front` says which piece stands at the front of a text that is not empty,
-- and `spelled` which bytes a piece takes; a piece takes at least one byte.
use Rattle.std.specs.Prelude.{◌≡◌, ℕ, zero, suc, pred, List, [], ◌∷◌, ◌++◌, length, drop}

-- what is left of b ∷ bs behind its first piece
abbrev pub past_front : {A : Type 0} → (List ℕ → A) → (A → List ℕ) → ℕ → List ℕ → List ℕ
past_front front spelled b bs = drop (pred (length (spelled (front (b ∷ bs))))) bs

-- the pieces of a text of at most n bytes
abbrev pub cut_within : {A : Type 0} → (List ℕ → A) → (A → List ℕ) → ℕ → List ℕ → List A
cut_within front spelled zero bs = []
cut_within front spelled (suc n) [] = []
cut_within front spelled (suc n) (b ∷ bs) = front (b ∷ bs) ∷ cut_within front spelled n (past_front front spelled b bs)

unfoldable pub cut : {A : Type 0} → (List ℕ → A) → (A → List ℕ) → List ℕ → List A
cut front spelled bs = cut_within front spelled (length bs) bs

-- the bytes of the piece at the front are those that stand there
abbrev pub Honest : {A : Type 0} → (List ℕ → A) → (A → List ℕ) → Type 0
Honest front spelled = (b : ℕ) (bs : List ℕ) → spelled (front (b ∷ bs)) ++ past_front front spelled b bs ≡ b ∷ bs
