-- What the entries of a record may be.
use Rattle.std.specs.Prelude.{◌≡◌, ℕ, ◌<◌, true, List, length, ◌≢◌, slice_index_or}
use Rattle.judging.specs.declared.recorded.Entry.{Entry}
use Rattle.judging.specs.Ranges.{lies, nowhere}

abbrev pub blank : Entry
blank = record { text = nowhere; verdict = 0 }

-- an entry that a record may have
abbrev pub Sound : List ℕ → Entry → Type 0
Sound whole e = (lies (length whole) e.text ≡ true) × (e.verdict ≢ 255)

abbrev pub SoundBelow : List ℕ → List Entry → ℕ → Type 0
SoundBelow whole es n = (k : ℕ) → k < n → Sound whole (slice_index_or es k blank)
