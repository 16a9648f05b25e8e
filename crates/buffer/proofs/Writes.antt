-- Writing a text piece by piece: what is written, and then what is left, is the whole.
use Rattle.std.proofs.Common.{◌≡◌, ℕ, ◌+◌, ◌<◌, ◌≤◌, List, ◌++◌, length, take, Some, Err, Result, sym, subst, ap, ◌∙◌, arith, length-append}
use Rattle.buffer.specs.Appends.{Appended, WroteNext}
use Rattle.std.proofs.lemmas.List.{take-append-le, take_at}

pub record Writing {A : Type 0} (before whole items left : List A) : Type 0 where
  -- what stood in the buffer is still there
  pub kept : length before ≤ length items
  pub same : items ++ left ≡ before ++ whole

pub refused : {A : Type 0} (before whole items left items' left' piece : List A) (n : ℕ) → Writing before whole items left →
    left ≡ piece ++ left' → 65536 < length items + length piece → n ≡ length before → items' ≡ take n items →
    (65536 < length before + length whole) × (items' ≡ before)
refused before whole items left items' left' piece n w l over nb i = (
  omega (arith, over, simp length-append at (ap length l), simp length-append at (ap length w.same)),
  i ∙ sym (take-append-le n items left (omega (arith, nb, w.kept))) ∙ ap (take n) w.same ∙ take_at before whole n (sym nb),
)

-- the same where the next piece is read and written by one call
pub refused_next : {A V E : Type 0} (before whole items left left' after items' : List A) (size size' n : ℕ) (r : Result V E) (e : E) →
    Writing before whole items left → WroteNext left left' size size' (Some r) items after → r ≡ Err e → n ≡ length before → items' ≡ take n after →
    (65536 < length before + length whole) × (items' ≡ before)
refused_next before whole items left left' after items' size size' n r e w next is nb i =
    let over = subst (λ x. Appended items next.1 x after) is next.3 in
    refused before whole items left items' left' next.1 n w next.2 over.0 nb (i ∙ ap (take n) over.1)
