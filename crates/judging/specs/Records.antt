-- Recorded verdicts.
use Rattle.std.specs.Prelude.{◌≡◌, ℕ, zero, suc, ◌<◌, ◌≤◌, Bool, true, false, cond, List, [], ◌∷◌, ◌++◌, length, get_or, Some, None, Ok, Err, codes, Option, Result, nat_lt}
use Rattle.std.proofs.Math.Nat.{zero-lt-suc}
use Rattle.std.specs.Int.NonZero.{non_zero_u8_get}
use Rattle.std.specs.Fmt.{decimal}
use Rattle.std.specs.Str.{bytes_eq}
use Rattle.judging.specs.declared.range.TextRange.{TextRange}
use Rattle.judging.specs.declared.recorded.Entry.{Entry}
use Rattle.judging.specs.declared.recorded.RecordedEngine.{RecordedEngine}
use Rattle.judging.specs.declared.recorded.RecordedFault.{RecordedFault}
use Rattle.judging.specs.declared.recorded.RecordRefusal.{RecordRefusal}
use Rattle.judging.specs.declared.recorded.RecordRefusal.TheVariants.{Outside, NoVerdict}
use Rattle.judging.specs.Entries.{blank, SoundBelow}
use Rattle.judging.specs.Judging.{number_of}
use Rattle.judging.specs.Ranges.{lies, text_at}

-- the number of a fault of the record; a number that no fault has counts as unrecorded
abbrev pub recorded_number : RecordedFault → ℕ
recorded_number f = cond (nat_lt 255 (non_zero_u8_get f.number)) 255 (non_zero_u8_get f.number)

-- the fault in words
abbrev pub recorded_text : RecordedFault → List ℕ
recorded_text f = codes "the fault of number " ++ decimal (non_zero_u8_get f.number)

-- the fault of the number n + 1, so that it is none of the number 0
abbrev pub fault_after : ℕ → RecordedFault
fault_after n = record { number = record { value = suc n; ok = zero-lt-suc n } }

-- the fault of a text that is not recorded: its number is 255
abbrev pub unrecorded : RecordedFault
unrecorded = fault_after 254

-- what an entry's number says: 0 that the text is fine
abbrev pub fault_of : ℕ → Option RecordedFault
fault_of zero = None
fault_of (suc n) = Some (fault_after n)

-- this text stands in the whole at the range
abbrev pub is_text : List ℕ → List ℕ → TextRange → Bool
is_text whole t r = cond (lies (length whole) r) (bytes_eq (text_at whole r) t) false

-- the first entry of a text decides
abbrev pub recorded : List ℕ → List Entry → List ℕ → Option RecordedFault
recorded whole [] t = Some unrecorded
recorded whole (e ∷ es) t = cond (is_text whole t e.text) (fault_of e.verdict) (recorded whole es t)

-- the record of these entries, which are all sound; or the first entry that is not, and why
abbrev pub Made : List ℕ → List Entry → Result RecordedEngine RecordRefusal → Type 0
Made whole es (Ok m) = (m.whole.now ≡ whole) × (m.entries.now ≡ es) × SoundBelow whole es (length es)
Made whole es (Err (Outside n)) = (n < length es) × SoundBelow whole es n × (lies (length whole) (get_or es n blank).text ≡ false)
Made whole es (Err (NoVerdict n)) =
    (n < length es) × SoundBelow whole es n × (lies (length whole) (get_or es n blank).text ≡ true) × ((get_or es n blank).verdict ≡ 255)

-- the refusal in words
abbrev pub refusal_text : RecordRefusal → List ℕ
refusal_text (Outside n) = codes "the text of entry " ++ decimal n ++ codes " does not lie in the whole"
refusal_text (NoVerdict n) = codes "entry " ++ decimal n ++ codes " has no verdict"

-- What holds of records, in other words than those of the function.
pub record RecordLaws : Type 0 where
  -- the first entry of a text decides
  pub decides : (whole : List ℕ) (es : List Entry) (t : List ℕ) (k : ℕ) → k < length es → is_text whole t (get_or es k blank).text ≡ true →
      ((j : ℕ) → j < k → is_text whole t (get_or es j blank).text ≡ false) → recorded whole es t ≡ fault_of (get_or es k blank).verdict
  -- a text without an entry has the fault 255
  pub missing : (whole : List ℕ) (es : List Entry) (t : List ℕ) → ((j : ℕ) → j < length es → is_text whole t (get_or es j blank).text ≡ false) →
      recorded whole es t ≡ Some unrecorded
  -- what an entry's number says has that number
  pub numbers : (n : ℕ) → n ≤ 255 → number_of recorded_number (fault_of n) ≡ n
