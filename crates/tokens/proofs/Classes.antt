-- Laws of the walk through a class: one byte on, the byte that closes it, the end of the text.
use Rattle.std.proofs.Common.{◌≡◌, ℕ, suc, ◌+◌, ◌<◌, Bool, true, false, cond, List, [], ◌∷◌, length, get_or, take, drop, refl, ◌∙◌}
use Rattle.std.proofs.lemmas.List.{at_drop_more}
use Rattle.std.proofs.lemmas.Bool.{cond-true, cond-false}
use Rattle.tokens.specs.declared.class.ClassWalker.{ClassWalker}
use Rattle.tokens.specs.Classes.{stepped, closes}
use Rattle.tokens.specs.Tokens.{class_length, newline_in, closed_in}

pub length_closed : (w : ClassWalker) (bs : List ℕ) (i : ℕ) → i < length bs → closes w (get_or bs i 0) ≡ true → class_length w (drop i bs) ≡ 1
length_closed w bs i h shut =
    at_drop_more (class_length w) bs i 0 h
    ∙ cond-true (closes w (get_or bs i 0)) 1 (suc (class_length (stepped w (get_or bs i 0)) (drop (i + 1) bs))) shut

-- a class tells of its newline by its own bytes
pub newline_taken : (w : ClassWalker) (bs : List ℕ) → newline_in w (take (class_length w bs) bs) ≡ newline_in w bs
newline_taken w [] = refl
newline_taken w (b ∷ bs) = go (closes w b) refl (newline_taken (stepped w b) bs) where
  go : (t : Bool) → closes w b ≡ t → newline_in (stepped w b) (take (class_length (stepped w b) bs) bs) ≡ newline_in (stepped w b) bs →
      newline_in w (take (cond t 1 (suc (class_length (stepped w b) bs))) (b ∷ bs)) ≡ cond t w.newline (newline_in (stepped w b) bs)
  go true e _ = cond-true (closes w b) w.newline (newline_in (stepped w b) []) e
  go false e rest = cond-false (closes w b) w.newline (newline_in (stepped w b) (take (class_length (stepped w b) bs) bs)) e ∙ rest

-- a class tells by its own bytes whether it is closed
pub closed_taken : (w : ClassWalker) (bs : List ℕ) → closed_in w (take (class_length w bs) bs) ≡ closed_in w bs
closed_taken w [] = refl
closed_taken w (b ∷ bs) = go (closes w b) refl (closed_taken (stepped w b) bs) where
  go : (t : Bool) → closes w b ≡ t → closed_in (stepped w b) (take (class_length (stepped w b) bs) bs) ≡ closed_in (stepped w b) bs →
      closed_in w (take (cond t 1 (suc (class_length (stepped w b) bs))) (b ∷ bs)) ≡ cond t true (closed_in (stepped w b) bs)
  go true e _ = cond-true (closes w b) true (closed_in (stepped w b) []) e
  go false e rest = cond-false (closes w b) true (closed_in (stepped w b) (take (class_length (stepped w b) bs) bs)) e ∙ rest
