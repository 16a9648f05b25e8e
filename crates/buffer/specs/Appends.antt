-- What a call does to a buffer that it writes to.
use Rattle.std.specs.Fmt.{decimal}
use Rattle.std.specs.Prelude.{◌≡◌, ℕ, ◌+◌, ◌<◌, ◌≤◌, List, [], ◌++◌, length, Some, None, Option, Ok, Err, codes, Result}

-- what a buffer holds, never more than its limit
pub record Held (A : Type 0) : Type 0 where
  pub items : List A
  pub within : length items ≤ 65536

-- `text` stands behind what was there; or there is no room for all of it, and nothing is changed
abbrev pub Appended : {A V E : Type 0} → List A → List A → Result V E → List A → Type 0
Appended before text (Ok v) after = (length before + length text ≤ 65536) × (after ≡ before ++ text)
Appended before text (Err e) after = (65536 < length before + length text) × (after ≡ before)

-- What writing the next piece does, where `left` stood to be written before it and `left'` after it: the piece is the front of what was left.
abbrev pub WroteNext : {A V E : Type 0} → List A → List A → ℕ → ℕ → Option (Result V E) → List A → List A → Type 0
WroteNext left left' size size' None before after = (left ≡ []) × (after ≡ before)
WroteNext {A} left left' size size' (Some written) before after = (size' < size) × (piece : List A) × (left ≡ piece ++ left') × Appended before piece written after

-- in words
abbrev pub too_long_text : List ℕ
too_long_text = codes "more than the " ++ decimal 65536 ++ codes " items that a buffer holds"
