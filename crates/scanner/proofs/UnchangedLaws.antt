-- Patterns that a rewriting leaves as they are.
use Rattle.std.proofs.Common.{◌≡◌, ℕ, pred, ◌+◌, ◌<◌, min, Bool, true, false, cond, eqb, List, [], ◌∷◌, ◌++◌, length, get_or, take, drop, Some, Option, sym, refl, ap, ◌∙◌, subst, ⊎_elim, arith, length-drop, length-take}
use Rattle.std.specs.List.{flat_map, AllByRecursion}
use Rattle.std.proofs.lemmas.List.{get_or-drop, get_or-take}
use Rattle.std.proofs.lemmas.Bool.{cond-false, cond_both, ne_eqb, cases_eq, and_left, or_from}
use borrow.Author.Tests.{clash}
use Rattle.tokens.specs.declared.class.ClassState.{ClassState}
use Rattle.tokens.specs.declared.class.ClassState.TheVariants.{Start, Negated, Inside, Escaped}
use Rattle.tokens.specs.declared.class.ClassWalker.{ClassWalker}
use Rattle.tokens.specs.declared.posix.PosixClass.{PosixClass}
use Rattle.tokens.specs.declared.posix.PosixClass.TheVariants.{Alpha, Alnum, Lower, Upper, Digit}
use Rattle.tokens.specs.Classes.{opened, bare, from, stepped, closes}
use Rattle.tokens.specs.Cut.{Honest}
use Rattle.scanner.specs.Laws.{Without, Apart, NewlinesUnchanged, NoNewlinesUnchanged, PropertiesUnchanged}
use Rattle.newlines.specs.Newlines.{Piece, optional, token, optional_newline, spelled_piece, first_piece, pieces, with_newline, token_without, without_newline, without_newlines}
use Rattle.tokens.specs.Posix.{bracket_of, bracket_at, spelled_member, first_member, members, with_property, token_with_properties, is_escaped}
use Rattle.tokens.specs.Starts.{starts}
use Rattle.tokens.specs.Tokens.{spelled, first, tokens, class_length, newline_in}
use Rattle.tokens.proofs.Classes.{newline_taken}
use Rattle.tokens.proofs.Cut.{cut_joined}
use Rattle.tokens.proofs.CutEach.{each_cut, joined_same}
use Rattle.newlines.proofs.Pieces.{pieces_joined}
use Rattle.tokens.proofs.PosixLaws.{bracket_split, still_bare}
use Rattle.scanner.proofs.Fronts.{token_cases, member_cases}
use Rattle.tokens.proofs.Starts.{starts_split}
use Rattle.tokens.proofs.Tokens.{tokens_joined}

without_drop : (b n : ℕ) (bs : List ℕ) → Without b bs → Without b (drop n bs)
without_drop b n bs w k h e = w (n + k) (omega (arith, simp length-drop at h)) (sym (get_or-drop n bs k 0) ∙ e)

apart_drop : (a b n : ℕ) (bs : List ℕ) → Apart a b bs → Apart a b (drop n bs)
apart_drop a b n bs w k h e f =
    let same : n + k + 1 ≡ n + (k + 1) = omega arith in
    w (n + k) (omega (arith, simp length-drop at h)) (sym (get_or-drop n bs k 0) ∙ e) (ap (λ (m : ℕ). get_or bs m 0) same ∙ sym (get_or-drop n bs (k + 1) 0) ∙ f)

apart_take : (a b n : ℕ) (bs : List ℕ) → Apart a b bs → Apart a b (take n bs)
apart_take a b n bs w k h e f =
    let l : k + 1 < min n (length bs) = simp length-take at h in
    w k (omega arith) (sym (get_or-take n bs k 0 (omega arith)) ∙ e) (sym (get_or-take n bs (k + 1) 0 (omega arith)) ∙ f)

-- a token that is not `$` stays
newline_kept : (b : ℕ) (bs : List ℕ) → Without 36 (b ∷ bs) → with_newline (first (b ∷ bs)) ≡ spelled (first (b ∷ bs))
newline_kept b bs w =
    token_cases (λ t. with_newline t ≡ spelled t) b bs (λ _ _ _ _. refl) refl (λ _. refl) (λ _. refl)
    (cond-false (eqb b 36) _ (b ∷ []) (ne_eqb b 36 (w 0 (omega arith))))

pub newlines_unchanged : NewlinesUnchanged
newlines_unchanged bs w =
    joined_same with_newline spelled (tokens bs) (each_cut first spelled (Without 36) (λ t. with_newline t ≡ spelled t) (without_drop 36) newline_kept bs w)
    ∙ tokens_joined bs

-- Only an escaped `n` makes a class match a newline.
bare_newline : (w : ClassWalker) (b : ℕ) → w.newline ≡ false → (bare w b).newline ≡ false
bare_newline w b e =
    cond_both (eqb b 92) _ _ (λ (v : ClassWalker). v.newline ≡ false) (λ _. e)
    (λ _. cond_both (eqb b 91) _ _ (λ (v : ClassWalker). v.newline ≡ false) (λ _. e) (λ _. e))

still_none : (s : ClassState) (w : ClassWalker) (b : ℕ) → w.newline ≡ false → (is_escaped s ≡ true → b ≡ 110 → ⊥) → (from s w b).newline ≡ false
still_none Start w b e n = cond_both (eqb b 94) _ _ (λ (v : ClassWalker). v.newline ≡ false) (λ _. e) (λ _. bare_newline w b e)
still_none Negated w b e n = bare_newline w b e
still_none Inside w b e n = cond_both (eqb b 93) _ _ (λ (v : ClassWalker). v.newline ≡ false) (λ _. e) (λ _. bare_newline w b e)
still_none Escaped w b e n = or_from w.newline _ e (and_left (eqb b 110) _ (ne_eqb b 110 (n refl)))

escaped_by : (s : ClassState) (w : ClassWalker) (b : ℕ) → is_escaped (from s w b).state ≡ true → b ≡ 92
escaped_by Escaped w b e = absurd (clash e)
escaped_by Start w b e = ⊎_elim (λ is. is) (λ ne. absurd (clash (sym (still_bare Start w b refl ne) ∙ e))) (cases_eq b 92)
escaped_by Negated w b e = ⊎_elim (λ is. is) (λ ne. absurd (clash (sym (still_bare Negated w b refl ne) ∙ e))) (cases_eq b 92)
escaped_by Inside w b e = ⊎_elim (λ is. is) (λ ne. absurd (clash (sym (still_bare Inside w b refl ne) ∙ e))) (cases_eq b 92)

newline_free : (w : ClassWalker) (bs : List ℕ) → w.newline ≡ false → Apart 92 110 bs →
    (is_escaped w.state ≡ true → 0 < length bs → get_or bs 0 0 ≡ 110 → ⊥) → newline_in w bs ≡ false
newline_free w [] e a n = e
newline_free w (b ∷ bs) e a n =
    cond_both (closes w b) w.newline (newline_in (stepped w b) bs) (λ (t : Bool). t ≡ false) (λ _. e)
    (λ _. newline_free (stepped w b) bs (still_none w.state w b e (λ s. n s (omega arith))) (apart_drop 92 110 1 (b ∷ bs) a)
    (λ s l. a 0 (omega arith) (escaped_by w.state w b s)))

-- a token stays where no `\n` stands
token_kept : (b : ℕ) (bs : List ℕ) → Apart 92 110 (b ∷ bs) → (next : Option ℕ) → token_without (first (b ∷ bs)) next ≡ spelled (first (b ∷ bs))
token_kept b bs a next =
    token_cases (λ t. token_without t next ≡ spelled t) b bs
    (λ c cs is e. cond-false _ _ _ (and_left (eqb c 110) _ (ne_eqb c 110 (subst (λ ys. Apart 92 110 (b ∷ ys)) e a 0 (omega arith) is)))) refl
    (λ _. cond-false _ _ _ (and_left _ _ (newline_taken opened bs ∙ newline_free opened bs refl (apart_drop 92 110 1 (b ∷ bs) a) (λ s. absurd (clash s)))))
    (λ _. refl) refl

piece_kept : (b : ℕ) (bs : List ℕ) → Apart 92 110 (b ∷ bs) → (next : Option ℕ) → without_newline (first_piece (b ∷ bs)) next ≡ spelled_piece (first_piece (b ∷ bs))
unfolding first_piece
piece_kept b bs a next = go (starts optional_newline (b ∷ bs)) refl where
  shape : Bool → Piece
  shape t = cond t optional (token (first (b ∷ bs)))

  go : (t : Bool) → starts optional_newline (b ∷ bs) ≡ t → without_newline (shape t) next ≡ spelled_piece (shape t)
  go true e = absurd (subst (Apart 92 110) (starts_split optional_newline (b ∷ bs) e) a 3 (omega arith) refl refl)
  go false e = token_kept b bs a next

without_same : (ps : List Piece) → AllByRecursion (λ p. (next : Option ℕ) → without_newline p next ≡ spelled_piece p) ps → without_newlines ps ≡ flat_map spelled_piece ps
without_same [] e = refl
without_same (p ∷ ps) e =
    ap (λ (xs : List ℕ). xs ++ without_newlines ps) (e.0 _) ∙ ap (λ (xs : List ℕ). spelled_piece p ++ xs) (without_same ps e.1)

pub no_newlines_unchanged : NoNewlinesUnchanged
no_newlines_unchanged bs a =
    without_same (pieces bs)
    (each_cut first_piece spelled_piece (Apart 92 110) (λ p. (next : Option ℕ) → without_newline p next ≡ spelled_piece p) (apart_drop 92 110) piece_kept bs a)
    ∙ pieces_joined bs

-- The members of a class, joined, are the class.
honest_bracket : (p : PosixClass) (b : ℕ) (bs : List ℕ) → bracket_at (b ∷ bs) ≡ Some p → bracket_of p ++ drop (pred (length (bracket_of p))) bs ≡ b ∷ bs
honest_bracket Alpha b bs e = sym (bracket_split (b ∷ bs) Alpha e)
honest_bracket Alnum b bs e = sym (bracket_split (b ∷ bs) Alnum e)
honest_bracket Lower b bs e = sym (bracket_split (b ∷ bs) Lower e)
honest_bracket Upper b bs e = sym (bracket_split (b ∷ bs) Upper e)
honest_bracket Digit b bs e = sym (bracket_split (b ∷ bs) Digit e)

pub honest_member : Honest first_member spelled_member
honest_member b bs =
    member_cases (λ m. spelled_member m ++ drop (pred (length (spelled_member m))) bs ≡ b ∷ bs) b bs
    (λ c cs is e. ap (λ ys. 92 ∷ c ∷ drop 1 ys) e ∙ ap (λ x. x ∷ c ∷ cs) (sym is) ∙ ap (λ ys. b ∷ ys) (sym e)) (λ p. honest_bracket p b bs) refl

pub members_joined : (bs : List ℕ) → flat_map spelled_member (members bs) ≡ bs
members_joined = cut_joined first_member spelled_member honest_member

-- a bracket begins with `[:`
no_bracket : (p : PosixClass) (bs : List ℕ) → Apart 91 58 (bracket_of p ++ bs) → ⊥
no_bracket Alpha bs a = a 0 (omega arith) refl refl
no_bracket Alnum bs a = a 0 (omega arith) refl refl
no_bracket Lower bs a = a 0 (omega arith) refl refl
no_bracket Upper bs a = a 0 (omega arith) refl refl
no_bracket Digit bs a = a 0 (omega arith) refl refl

member_kept : (b : ℕ) (bs : List ℕ) → Apart 91 58 (b ∷ bs) → with_property (first_member (b ∷ bs)) ≡ spelled_member (first_member (b ∷ bs))
member_kept b bs a =
    member_cases (λ m. with_property m ≡ spelled_member m) b bs (λ _ _ _ _. refl)
    (λ p e. absurd (no_bracket p (drop 9 (b ∷ bs)) (subst (Apart 91 58) (bracket_split (b ∷ bs) p e) a))) refl

members_kept : (bs : List ℕ) → Apart 91 58 bs → flat_map with_property (members bs) ≡ bs
members_kept bs a =
    joined_same with_property spelled_member (members bs)
    (each_cut first_member spelled_member (Apart 91 58) (λ m. with_property m ≡ spelled_member m) (apart_drop 91 58) member_kept bs a)
    ∙ members_joined bs

property_kept : (b : ℕ) (bs : List ℕ) → Apart 91 58 (b ∷ bs) → token_with_properties (first (b ∷ bs)) ≡ spelled (first (b ∷ bs))
property_kept b bs a =
    token_cases (λ t. token_with_properties t ≡ spelled t) b bs (λ _ _ _ _. refl) refl
    (λ _. ap (λ (xs : List ℕ). b ∷ xs) (members_kept (take (class_length opened bs) bs) (apart_take 91 58 (class_length opened bs) bs (apart_drop 91 58 1 (b ∷ bs) a))))
    (λ _. refl) refl

pub properties_unchanged : PropertiesUnchanged
properties_unchanged bs a =
    joined_same token_with_properties spelled (tokens bs)
    (each_cut first spelled (Apart 91 58) (λ t. token_with_properties t ≡ spelled t) (apart_drop 91 58) property_kept bs a)
    ∙ tokens_joined bs
