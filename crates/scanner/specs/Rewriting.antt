-- What a loader makes of a pattern: properties in the place of POSIX brackets, and then the treatment of newlines.
use Rattle.std.specs.Prelude.{◌≡◌, ℕ, ◌+◌, ◌<◌, ◌≤◌, Bool, cond, ◌⊎◌, List, ◌++◌, length, Ok, Err, Result}
use Rattle.newlines.specs.Newlines.{for_newlines, for_no_newlines}
use Rattle.tokens.specs.Posix.{with_properties}

abbrev pub rewritten : Bool → List ℕ → List ℕ
rewritten newlines bs = cond newlines (for_newlines (with_properties bs)) (for_no_newlines (with_properties bs))

-- The rewritten text stands behind what was there; or the text between the two steps, or the buffer, would be too long, and nothing is changed.
abbrev pub Rewritten : {V E : Type 0} → Bool → List ℕ → List ℕ → Result V E → List ℕ → Type 0
Rewritten newlines bs before (Ok v) after =
    (length (with_properties bs) ≤ 65536) × (length before + length (rewritten newlines bs) ≤ 65536) × (after ≡ before ++ rewritten newlines bs)
Rewritten newlines bs before (Err e) after =
    ((65536 < length (with_properties bs)) ⊎ (65536 < length before + length (rewritten newlines bs))) × (after ≡ before)
