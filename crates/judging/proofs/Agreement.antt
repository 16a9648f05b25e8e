-- A record of an engine's verdicts agrees with the engine.
use Rattle.std.proofs.Common.{◌≡◌, ℕ, zero, suc, ◌<◌, ◌≤◌, Bool, true, false, cond, eqb, ◌⊎◌, List, [], ◌∷◌, ◌++◌, length, get_or, Some, None, Ok, Err, Option, Result, sym, refl, ap, ◌∙◌, subst, inl, inr, ⊎_elim, arith}
use Rattle.std.specs.Str.{bytes_eq}
use Rattle.std.proofs.lemmas.Slice.Eq.{bytes_eq-Decides}
use Rattle.std.proofs.lemmas.Bool.{cond-true, cond-false, eq-eqb, ne_eqb, cases_eq}
use borrow.Author.Tests.{clash}
use Rattle.judging.specs.declared.range.TextRange.{TextRange}
use Rattle.judging.specs.declared.recorded.Entry.{Entry}
use Rattle.judging.specs.declared.recording.Untaken.{Untaken}
use Rattle.judging.specs.Entries.{SoundBelow}
use Rattle.judging.specs.Judging.{There, number_of}
use Rattle.judging.specs.Ranges.{lies, text_at, nowhere}
use Rattle.judging.specs.Recording.{entries_for, only_taken, Agreed, TakenDown, ThereBelow}
use Rattle.judging.proofs.RecordLaws.{read_back}
use Rattle.judging.specs.Records.{recorded, recorded_number, fault_of, is_text}

-- the number of the record's verdict on a text
abbrev numbers : List ℕ → List Entry → List ℕ → ℕ
numbers whole es t = number_of recorded_number (recorded whole es t)

-- the text at a range is that text
text_is : (whole t : List ℕ) (r : TextRange) → is_text whole t r ≡ true → text_at whole r ≡ t
text_is whole t r e = go (lies (length whole) r) e where
  go : (s : Bool) → cond s (bytes_eq (text_at whole r) t) false ≡ true → text_at whole r ≡ t
  go true f = (bytes_eq-Decides (text_at whole r) t).0 f
  go false f = absurd (clash f)

text_there : (whole : List ℕ) (r : TextRange) → lies (length whole) r ≡ true → is_text whole (text_at whole r) r ≡ true
text_there whole r e = cond-true (lies (length whole) r) _ false e ∙ (bytes_eq-Decides (text_at whole r) (text_at whole r)).1 refl

-- the record has the engine's number, or has not the text and says 255
abbrev Told : (List ℕ → ℕ) → List ℕ → List TextRange → List ℕ → Type 0
Told number whole texts t = (numbers whole (entries_for number whole texts) t ≡ number t)
    ⊎ ((numbers whole (entries_for number whole texts) t ≡ 255) × ((k : ℕ) → k < length texts → is_text whole t (get_or texts k nowhere) ≡ false))

told : (number : List ℕ → ℕ) → ((t : List ℕ) → number t ≤ 255) → (whole : List ℕ) (texts : List TextRange) (t : List ℕ) → Told number whole texts t
told number bound whole [] t = inr (refl, λ k h. absurd (omega arith))
told number bound whole (r ∷ texts) t = go (is_text whole t r) refl (cases_eq n 255) (told number bound whole texts t) where
  n : ℕ
  n = number (text_at whole r)

  rest : List Entry
  rest = entries_for number whole texts

  skipped : n ≡ 255 → entries_for number whole (r ∷ texts) ≡ rest
  skipped z = ap (λ (es : List Entry). es ++ rest) (cond-true (eqb n 255) [] (record { text = r; verdict = n } ∷ []) (eq-eqb n 255 z))

  written : (n ≡ 255 → ⊥) → entries_for number whole (r ∷ texts) ≡ record { text = r; verdict = n } ∷ rest
  written z = ap (λ (es : List Entry). es ++ rest) (cond-false (eqb n 255) [] (record { text = r; verdict = n } ∷ []) (ne_eqb n 255 z))

  none_more : is_text whole t r ≡ false → ((k : ℕ) → k < length texts → is_text whole t (get_or texts k nowhere) ≡ false) →
      (k : ℕ) → k < suc (length texts) → is_text whole t (get_or (r ∷ texts) k nowhere) ≡ false
  none_more e f zero h = e
  none_more e f (suc k) h = f k (omega arith)

  -- the first entry is of another text, or there is none for this one
  passed : numbers whole (entries_for number whole (r ∷ texts)) t ≡ numbers whole rest t → is_text whole t r ≡ false → Told number whole texts t → Told number whole (r ∷ texts) t
  passed same e (inl f) = inl (same ∙ f)
  passed same e (inr w) = inr (same ∙ w.0, none_more e w.1)

  go : (s : Bool) → is_text whole t r ≡ s → (n ≡ 255) ⊎ (n ≡ 255 → ⊥) → Told number whole texts t → Told number whole (r ∷ texts) t
  go true e (inl z) (inl f) = inl (ap (λ (es : List Entry). numbers whole es t) (skipped z) ∙ f)
  go true e (inl z) (inr w) =
      inl (ap (λ (es : List Entry). numbers whole es t) (skipped z) ∙ w.0 ∙ sym z ∙ ap number (text_is whole t r e))
  go true e (inr z) w =
      inl (ap (λ (es : List Entry). numbers whole es t) (written z)
      ∙ ap (number_of recorded_number) (cond-true (is_text whole t r) (fault_of n) (recorded whole rest t) e)
      ∙ read_back n (bound (text_at whole r)) ∙ ap number (text_is whole t r e))
  go false e (inl z) w = passed (ap (λ (es : List Entry). numbers whole es t) (skipped z)) e w
  go false e (inr z) w =
      passed (ap (λ (es : List Entry). numbers whole es t) (written z)
      ∙ ap (number_of recorded_number) (cond-false (is_text whole t r) (fault_of n) (recorded whole rest t) e)) e w

pub agree : (number : List ℕ → ℕ) → ((t : List ℕ) → number t ≤ 255) → (whole : List ℕ) (texts : List TextRange) (k : ℕ) → k < length texts → There whole texts k →
    numbers whole (entries_for number whole texts) (text_at whole (get_or texts k nowhere)) ≡ number (text_at whole (get_or texts k nowhere))
agree number bound whole texts k h there = ⊎_elim
    (λ e. e)
    (λ w. absurd (clash (sym (w.1 k h) ∙ text_there whole (get_or texts k nowhere) there)))
    (told number bound whole texts (text_at whole (get_or texts k nowhere)))

pub number_bound : {F : Type 0} (number : F → ℕ) → ((f : F) → number f ≤ 255) → (o : Option F) → number_of number o ≤ 255
number_bound number bound None = omega arith
number_bound number bound (Some f) = bound f

-- a record can be made of the entries
pub sound_entries : (number : List ℕ → ℕ) (whole : List ℕ) (texts : List TextRange) → ThereBelow whole texts (length texts) →
    SoundBelow whole (entries_for number whole texts) (length (entries_for number whole texts))
sound_entries number whole [] there = λ k h. absurd (omega arith)
sound_entries number whole (r ∷ texts) there =
    go (cases_eq (number (text_at whole r)) 255) (sound_entries number whole texts (λ k h. there (suc k) (omega arith))) where
      n : ℕ
      n = number (text_at whole r)

      rest : List Entry
      rest = entries_for number whole texts

      more : (n ≡ 255 → ⊥) → SoundBelow whole rest (length rest) → SoundBelow whole (record { text = r; verdict = n } ∷ rest) (suc (length rest))
      more z below zero h = (there 0 (omega arith), z)
      more z below (suc k) h = below k (omega arith)

      go : (n ≡ 255) ⊎ (n ≡ 255 → ⊥) → SoundBelow whole rest (length rest) →
          SoundBelow whole (entries_for number whole (r ∷ texts)) (length (entries_for number whole (r ∷ texts)))
      go (inl z) below =
          subst (λ (es : List Entry). SoundBelow whole (es ++ rest) (length (es ++ rest)))
          (sym (cond-true (eqb n 255) [] (record { text = r; verdict = n } ∷ []) (eq-eqb n 255 z))) below
      go (inr z) below =
          subst (λ (es : List Entry). SoundBelow whole (es ++ rest) (length (es ++ rest)))
          (sym (cond-false (eqb n 255) [] (record { text = r; verdict = n } ∷ []) (ne_eqb n 255 z))) (more z below)

-- so what is taken down agrees
pub agreed : {F V : Type 0} (number : F → ℕ) → ((f : F) → number f ≤ 255) → (v : List ℕ → Option F) (whole : List ℕ) (texts : List TextRange) (r : Result V Untaken) (es : List Entry) →
    TakenDown (λ t. number_of number (v t)) whole texts r (only_taken r es) → Agreed (λ t. number_of number (v t)) whole texts r es
agreed number bound v whole texts (Ok _) es taken =
    let of = λ (t : List ℕ). number_of number (v t) in (
      subst (λ (xs : List Entry). SoundBelow whole xs (length xs)) (sym taken.1) (sound_entries of whole texts taken.0),
      λ k h. ap (λ (xs : List Entry). numbers whole xs (text_at whole (get_or texts k nowhere))) taken.1
          ∙ agree of (λ t. number_bound number bound (v t)) whole texts k h (taken.0 k h),
    )
agreed number bound v whole texts (Err _) es taken = tt
