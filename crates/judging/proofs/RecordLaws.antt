-- Laws of recorded verdicts.
use Rattle.std.proofs.Common.{◌≡◌, ℕ, zero, suc, ◌<◌, ◌≤◌, ltb, true, false, List, [], ◌∷◌, length, get_or, None, Some, Option, Bool, cond, refl, ◌∙◌, arith}
use Rattle.std.specs.List.{find}
use Rattle.std.proofs.lemmas.Bool.{cond-true, cond-false, le-ltb}
use Rattle.judging.specs.declared.recorded.Entry.{Entry}
use Rattle.judging.specs.declared.recorded.RecordedFault.{RecordedFault}
use Rattle.judging.specs.Entries.{blank}
use Rattle.judging.specs.Judging.{number_of}
use Rattle.judging.specs.Records.{RecordLaws, recorded, recorded_number, fault_of, is_text, unrecorded}

pub decides : (whole : List ℕ) (es : List Entry) (t : List ℕ) (k : ℕ) → k < length es → is_text whole t (get_or es k blank).text ≡ true →
    ((j : ℕ) → j < k → is_text whole t (get_or es j blank).text ≡ false) → recorded whole es t ≡ fault_of (get_or es k blank).verdict
decides whole [] t k h e b = absurd (omega arith)
decides whole (x ∷ es) t zero h e b = cond-true (is_text whole t x.text) (fault_of x.verdict) (recorded whole es t) e
decides whole (x ∷ es) t (suc k) h e b =
    cond-false (is_text whole t x.text) (fault_of x.verdict) (recorded whole es t) (b 0 (omega arith))
    ∙ decides whole es t k (omega arith) e (λ j l. b (suc j) (omega arith))

pub missing : (whole : List ℕ) (es : List Entry) (t : List ℕ) → ((j : ℕ) → j < length es → is_text whole t (get_or es j blank).text ≡ false) →
    recorded whole es t ≡ Some unrecorded
missing whole [] t b = refl
missing whole (x ∷ es) t b =
    cond-false (is_text whole t x.text) (fault_of x.verdict) (recorded whole es t) (b 0 (omega arith))
    ∙ missing whole es t (λ j l. b (suc j) (omega arith))

-- what an entry says is read back
pub read_back : (n : ℕ) → n ≤ 255 → number_of recorded_number (fault_of n) ≡ n
read_back zero h = refl
read_back (suc n) h = cond-false (ltb 255 (suc n)) 255 (suc n) (le-ltb 255 (suc n) h)

pub record_laws : RecordLaws
record_laws = record { decides = decides; missing = missing; numbers = read_back }

-- what the entry that was found says, or that there is none
abbrev pub said : Option Entry → Option RecordedFault
said None = Some unrecorded
said (Some e) = fault_of e.verdict

pub found_first : (whole : List ℕ) (es : List Entry) (t : List ℕ) → recorded whole es t ≡ said (find (λ e. is_text whole t e.text) es)
found_first whole [] t = refl
found_first whole (x ∷ es) t = go (is_text whole t x.text) (found_first whole es t) where
  go : (s : Bool) → recorded whole es t ≡ said (find (λ e. is_text whole t e.text) es) →
      cond s (fault_of x.verdict) (recorded whole es t) ≡ said (cond s (Some x) (find (λ e. is_text whole t e.text) es))
  go true rest = refl
  go false rest = rest
