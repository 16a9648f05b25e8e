-- Blanks may stand before everything that is read.
use Rattle.std.proofs.Common.{◌≡◌, ℕ, ◌+◌, Bool, true, false, cond, List, [], ◌∷◌, length, drop, sym, refl, ap, ◌∙◌, subst, arith}
use Rattle.std.specs.List.{prefix_len}
use Rattle.std.proofs.lemmas.List.{drop-drop, nil_from_length}
use Rattle.flow.specs.Scalars.{is_blank}
use Rattle.flow.specs.Flow.{is_blanks}

-- what a blank may stand before, all blanks may stand before
pub behind_blanks : (P : List ℕ → Type 0) → ((b : ℕ) (bs : List ℕ) → is_blank b ≡ true → P bs → P (b ∷ bs)) → (bs : List ℕ) →
    P (drop (prefix_len is_blank bs) bs) → P bs
behind_blanks P more [] p = p
behind_blanks P more (b ∷ bs) p = go (is_blank b) refl (behind_blanks P more bs) p
  where
    go : (t : Bool) → is_blank b ≡ t → (P (drop (prefix_len is_blank bs) bs) → P bs) → P (drop (cond t (1 + prefix_len is_blank bs) 0) (b ∷ bs)) → P (b ∷ bs)
    go true e rest p = more b bs e (rest (subst P (sym (drop-drop (prefix_len is_blank bs) 1 (b ∷ bs))) p))
    go false e rest p = p

blank_first : (b : ℕ) (bs : List ℕ) → is_blank b ≡ true → is_blanks bs ≡ true → is_blanks (b ∷ bs) ≡ true
blank_first b bs e f = grind (arith, e, f)

pub all_blanks : (input : List ℕ) (place end : ℕ) → end ≡ place + prefix_len is_blank (drop place input) → length (drop end input) ≡ 0 →
    is_blanks (drop place input) ≡ true
all_blanks input place end e none =
    behind_blanks (λ xs. is_blanks xs ≡ true) blank_first (drop place input)
    (ap is_blanks (drop-drop (prefix_len is_blank (drop place input)) place input ∙ ap (λ n. drop n input) (sym e) ∙ nil_from_length (drop end input) none))
