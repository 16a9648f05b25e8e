-- A rewriting leaves the bytes of a comment as they are.
use Rattle.std.proofs.Common.{◌≡◌, ℕ, true, false, List, [], ◌∷◌, ◌++◌, take, Some, None, sym, refl, ap, ◌∙◌, subst, ⊎_elim}
use Rattle.std.specs.List.{flat_map, AllByRecursion}
use Rattle.std.proofs.lemmas.List.{append_assoc}
use Rattle.std.proofs.lemmas.Bool.{cases_eq, cond_both}
use Rattle.std.proofs.lemmas.Grind.{flat_map-append}
use Rattle.scanner.proofs.Fronts.{token_cases}
use borrow.Author.Tests.{clash}
use Rattle.tokens.specs.Cursor.{front}
use Rattle.scanner.specs.Laws.{NewlinesKeepComments, NoNewlinesKeepComments, PropertiesKeepComments}
use Rattle.newlines.specs.Newlines.{Piece, optional, token, optional_newline, spelled_piece, first_piece, pieces, with_newline, without_newline, without_newlines}
use Rattle.tokens.specs.Posix.{token_with_properties}
use Rattle.tokens.specs.Starts.{starts}
use Rattle.tokens.specs.Tokens.{escape, final, class, comment, plain, opens_comment, comment_length}
use Rattle.tokens.proofs.CutEach.{each_cut}
use Rattle.tokens.proofs.Tokens.{none_some, commented, not_comment}

pub newlines_keep_comments : NewlinesKeepComments
newlines_keep_comments bs cs ts us e = ap (flat_map with_newline) e ∙ flat_map-append with_newline ts (comment cs ∷ us)

pub properties_keep_comments : PropertiesKeepComments
properties_keep_comments bs cs ts us e = ap (flat_map token_with_properties) e ∙ flat_map-append token_with_properties ts (comment cs ∷ us)

-- A comment begins with a `(`, which is no repeat for the piece before it.
abbrev Opens : Piece → Type 0
Opens optional = Unit {0}
Opens (token (escape b)) = Unit {0}
Opens (token final) = Unit {0}
Opens (token (class bs)) = Unit {0}
Opens (token (comment bs)) = front bs ≡ Some 40
Opens (token (plain b)) = Unit {0}

comment_opens : (b : ℕ) (bs : List ℕ) → opens_comment (b ∷ bs) ≡ true → front (take (comment_length false (b ∷ bs)) (b ∷ bs)) ≡ Some 40
comment_opens b bs e =
    ap (λ (n : ℕ). front (take n (b ∷ bs))) (commented b bs).1
    ∙ ⊎_elim (λ (is : b ≡ 40). ap Some is) (λ ne. absurd (clash (sym (not_comment (b ∷ bs) b refl ne) ∙ e))) (cases_eq b 40)

piece_opens : (b : ℕ) (bs : List ℕ) → Unit {0} → Opens (first_piece (b ∷ bs))
unfolding first_piece
piece_opens b bs _ =
    cond_both (starts optional_newline (b ∷ bs)) _ _ Opens (λ _. tt)
    (λ _. token_cases (λ t. Opens (token t)) b bs (λ _ _ _ _. tt) tt (λ _. tt) (comment_opens b bs) tt)

in_middle : {A : Type 0} (Q : A → Type 0) (xs : List A) (y : A) (zs : List A) → AllByRecursion Q (xs ++ y ∷ zs) → Q y
in_middle Q [] y zs a = a.0
in_middle Q (x ∷ xs) y zs a = in_middle Q xs y zs a.1

front_append : (b : ℕ) (xs ys : List ℕ) → front xs ≡ Some b → front (xs ++ ys) ≡ Some b
front_append b [] ys e = none_some b e
front_append b (x ∷ xs) ys e = e

before_opening : (p : Piece) (xs ys : List ℕ) → front ys ≡ Some 40 → without_newline p (front (xs ++ ys)) ≡ without_newline p (front xs)
before_opening p (x ∷ xs) ys e = refl
before_opening p [] ys e = ap (without_newline p) e ∙ go p where
  go : (p : Piece) → without_newline p (Some 40) ≡ without_newline p None
  go optional = refl
  go (token (escape b)) = refl
  go (token final) = refl
  go (token (class bs)) = refl
  go (token (comment bs)) = refl
  go (token (plain b)) = refl

without_append : (ps qs : List Piece) → front (flat_map spelled_piece qs) ≡ Some 40 → without_newlines (ps ++ qs) ≡ without_newlines ps ++ without_newlines qs
without_append [] qs e = refl
without_append (p ∷ ps) qs e =
    ap (λ (xs : List ℕ). without_newline p (front xs) ++ without_newlines (ps ++ qs)) (flat_map-append spelled_piece ps qs)
    ∙ ap (λ (xs : List ℕ). xs ++ without_newlines (ps ++ qs)) (before_opening p (flat_map spelled_piece ps) (flat_map spelled_piece qs) e)
    ∙ ap (λ (xs : List ℕ). without_newline p (front (flat_map spelled_piece ps)) ++ xs) (without_append ps qs e)
    ∙ sym (append_assoc (without_newline p (front (flat_map spelled_piece ps))) (without_newlines ps) (without_newlines qs))

pub no_newlines_keep_comments : NoNewlinesKeepComments
no_newlines_keep_comments bs cs ps qs e =
    let all : AllByRecursion Opens (pieces bs) = each_cut first_piece spelled_piece (λ _. Unit {0}) Opens (λ _ _ _. tt) piece_opens bs tt in
    let begins : front cs ≡ Some 40 = in_middle Opens ps (token (comment cs)) qs (subst (AllByRecursion Opens) e all) in
    ap without_newlines e ∙ without_append ps (token (comment cs) ∷ qs) (front_append 40 cs (flat_map spelled_piece qs) begins)
