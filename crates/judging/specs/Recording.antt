-- Taking down the verdicts of an engine, of which `number` gives the fault number of each text, or 0.
use Rattle.std.specs.Prelude.{◌≡◌, ℕ, ◌<◌, false, cond, List, [], ◌∷◌, ◌++◌, length, Ok, Err, codes, Result, ◌==◌, slice_index_or}
use Rattle.std.specs.Fmt.{decimal}
use Rattle.std.specs.List.{flat_map}
use Rattle.judging.specs.declared.range.TextRange.{TextRange}
use Rattle.judging.specs.declared.recorded.Entry.{Entry}
use Rattle.judging.specs.declared.recording.Untaken.{Untaken}
use Rattle.judging.specs.declared.recording.Untaken.TheVariants.{Outside, TooMany}
use Rattle.judging.specs.Entries.{SoundBelow}
use Rattle.judging.specs.Judging.{There, number_of}
use Rattle.judging.specs.Ranges.{lies, text_at, nowhere}
use Rattle.judging.specs.Records.{recorded, recorded_number}

-- the entry for a text; none for the fault 255, which a text without an entry has
abbrev pub entry_for : ℕ → TextRange → List Entry
entry_for n r = cond (n == 255) [] (record { text = r; verdict = n } ∷ [])

abbrev pub entries_for : (List ℕ → ℕ) → List ℕ → List TextRange → List Entry
entries_for number whole texts = flat_map (λ r. entry_for (number (text_at whole r)) r) texts

abbrev pub ThereBelow : List ℕ → List TextRange → ℕ → Type 0
ThereBelow whole texts n = (k : ℕ) → k < n → There whole texts k

-- the entries are those of the texts in their order; or a text does not lie in the whole, or they are too many, and there are none
abbrev pub TakenDown : {V : Type 0} → (List ℕ → ℕ) → List ℕ → List TextRange → Result V Untaken → List Entry → Type 0
TakenDown number whole texts (Ok _) es = ThereBelow whole texts (length texts) × (es ≡ entries_for number whole texts)
TakenDown number whole texts (Err (Outside n)) es =
    (n < length texts) × ThereBelow whole texts n × (lies (length whole) (slice_index_or texts n nowhere) ≡ false) × (es ≡ [])
TakenDown number whole texts (Err TooMany) es = (65536 < length (entries_for number whole texts)) × (es ≡ [])

-- the entries, but none of them where a verdict could not be taken down
abbrev pub only_taken : {V : Type 0} → Result V Untaken → List Entry → List Entry
only_taken (Ok _) es = es
only_taken (Err _) es = []

-- a record can be made of these entries, and on each of the texts it has the number that the engine has
abbrev pub Agreed : {V E : Type 0} → (List ℕ → ℕ) → List ℕ → List TextRange → Result V E → List Entry → Type 0
Agreed number whole texts (Ok _) es = SoundBelow whole es (length es)
    × ((k : ℕ) → k < length texts → number_of recorded_number (recorded whole es (text_at whole (slice_index_or texts k nowhere))) ≡ number (text_at whole (slice_index_or texts k nowhere)))
Agreed number whole texts (Err _) es = Unit {0}

-- in words
abbrev pub untaken_text : Untaken → List ℕ
untaken_text (Outside n) = codes "text " ++ decimal n ++ codes " does not lie in the whole"
untaken_text TooMany = codes "there are too many entries"
