-- What holds of any engine, given its verdict on each text.
use Rattle.std.specs.Prelude.{◌≡◌, ℕ, ◌<◌, true, false, List, ◌++◌, length, Some, None, Ok, Err, codes, Option, Result, slice_index_or}
use Rattle.std.specs.Fmt.{decimal}
use Rattle.std.specs.Option.{option_map}
use Rattle.judging.specs.declared.judging.Refused.{Refused}
use Rattle.judging.specs.declared.judging.Refused.TheVariants.{Outside, Faulty}
use Rattle.judging.specs.declared.range.TextRange.{TextRange}
use Rattle.judging.specs.Ranges.{lies, text_at, nowhere}

-- the number of a verdict: that of its fault, or 0
abbrev pub number_of : {F : Type 0} → (F → ℕ) → Option F → ℕ
number_of number None = 0
number_of number (Some f) = number f

-- the k-th of the texts lies in the whole
abbrev pub There : List ℕ → List TextRange → ℕ → Type 0
There whole texts k = lies (length whole) (slice_index_or texts k nowhere) ≡ true

-- the first n of the texts lie in the whole and are fine
abbrev pub FineBelow : {F : Type 0} → (List ℕ → Option F) → List ℕ → List TextRange → ℕ → Type 0
FineBelow v whole texts n = (k : ℕ) → k < n → There whole texts k × (v (text_at whole (slice_index_or texts k nowhere)) ≡ None)

-- all texts are fine; or this one is the first that is not, and that is its fault
abbrev pub Judged : {F V : Type 0} → (List ℕ → Option F) → List ℕ → List TextRange → Result V (Refused F) → Type 0
Judged v whole texts (Ok _) = FineBelow v whole texts (length texts)
Judged v whole texts (Err (Outside n)) = (n < length texts) × FineBelow v whole texts n × (lies (length whole) (slice_index_or texts n nowhere) ≡ false)
Judged v whole texts (Err (Faulty n f)) =
    (n < length texts) × FineBelow v whole texts n × There whole texts n × (v (text_at whole (slice_index_or texts n nowhere)) ≡ Some f)

-- the refusal in words, with the fault in its own, if it has some
abbrev pub refused_text : {F : Type 0} → (F → Option (List ℕ)) → Refused F → Option (List ℕ)
refused_text output (Outside n) = Some (codes "text " ++ decimal n ++ codes " does not lie in the whole")
refused_text output (Faulty n f) = option_map (λ text. codes "text " ++ decimal n ++ codes ": " ++ text) (output f)
