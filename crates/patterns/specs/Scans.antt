-- What the program says of one pattern.
use Rattle.std.specs.Prelude.{◌≡◌, ℕ, ◌<◌, true, false, ◌⊎◌, List, length, Ok, Err, codes, Result, IsUtf8}
use Rattle.backrefs.specs.Backrefs.{has_backref}
use Rattle.groups.specs.Captures.{consuming_captures}
use Rattle.tokens.specs.Posix.{with_properties}
use Rattle.scanner.specs.Rewriting.{rewritten}
use Rattle.patterns.specs.declared.scan.Features.{Features}
use Rattle.patterns.specs.declared.scan.Refusal.{Refusal}
use Rattle.patterns.specs.declared.scan.Refusal.TheVariants.{TooLong, NotUtf8}

-- one of the texts, or the list of captures, is over the limit
abbrev pub Over : List ℕ → Type 0
Over bs = (65536 < length (with_properties bs)) ⊎ ((65536 < length (rewritten true bs)) ⊎ ((65536 < length (rewritten false bs)) ⊎ (65536 < length (consuming_captures bs))))

abbrev pub Scanned : List ℕ → Result Features Refusal → (newlines no_newlines captures : List ℕ) → Type 0
Scanned bs (Ok features) newlines no_newlines captures =
    IsUtf8 bs × (newlines ≡ rewritten true bs) × (no_newlines ≡ rewritten false bs) × (captures ≡ consuming_captures bs) × (features.backrefs ≡ has_backref bs)
Scanned bs (Err TooLong) newlines no_newlines captures = IsUtf8 bs × Over bs
Scanned bs (Err NotUtf8) newlines no_newlines captures = IsUtf8 bs → ⊥

-- in words
abbrev pub refusal_text : Refusal → List ℕ
refusal_text TooLong = codes "too long"
refusal_text NotUtf8 = codes "not UTF-8"
