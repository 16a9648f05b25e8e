-- Laws of the pieces that are read where a pattern is rewritten for lines without a newline.
use Rattle.std.proofs.Common.{◌≡◌, ℕ, pred, ◌<◌, Bool, true, false, cond, List, [], ◌∷◌, ◌++◌, length, drop, sym, refl, ap, ◌∙◌, arith, length-drop}
use Rattle.std.specs.List.{flat_map}
use Rattle.std.proofs.lemmas.Bool.{cond-true, cond-false}
use borrow.Author.Tests.{clash}
use Rattle.tokens.specs.declared.parser.Token.{Token as Read}
use Rattle.tokens.specs.Cursor.{front}
use Rattle.tokens.specs.Cut.{Honest}
use Rattle.tokens.specs.Starts.{starts}
use Rattle.tokens.specs.Reads.{meant, Taken}
use Rattle.tokens.specs.Tokens.{first}
use Rattle.newlines.specs.Newlines.{Piece, optional, token, optional_newline, spelled_piece, first_piece, pieces, without_newline, without_newlines, for_no_newlines}
use Rattle.tokens.proofs.Cut.{cut_nil, cut_cons, cut_joined}
use Rattle.tokens.proofs.Starts.{starts_split}
use Rattle.tokens.proofs.Tokens.{honest_first, taken_first}

pub honest_piece : Honest first_piece spelled_piece
unfolding first_piece
honest_piece b bs = go (starts optional_newline (b ∷ bs)) refl where
  shape : Bool → Piece
  shape t = cond t optional (token (first (b ∷ bs)))

  go : (t : Bool) → starts optional_newline (b ∷ bs) ≡ t → spelled_piece (shape t) ++ drop (pred (length (spelled_piece (shape t)))) bs ≡ b ∷ bs
  go true e = sym (starts_split optional_newline (b ∷ bs) e)
  go false e = honest_first b bs

pub pieces_joined : (bs : List ℕ) → flat_map spelled_piece (pieces bs) ≡ bs
pieces_joined = cut_joined first_piece spelled_piece honest_piece

pub no_pieces : (bs : List ℕ) → bs ≡ [] → pieces bs ≡ []
no_pieces bs e = ap pieces e ∙ cut_nil first_piece spelled_piece

-- the piece at the front, and those of what it leaves
pieces_step : (x : ℕ) (xs ys : List ℕ) (p : Piece) → first_piece (x ∷ xs) ≡ p → ys ≡ drop (pred (length (spelled_piece p))) xs → pieces (x ∷ xs) ≡ p ∷ pieces ys
pieces_step x xs ys p is left =
    cut_cons first_piece spelled_piece x xs
    ∙ ap (λ q. q ∷ pieces (drop (pred (length (spelled_piece q))) xs)) is ∙ ap (λ zs. p ∷ pieces zs) (sym left)

-- what the piece at the front adds, by the byte that is seen behind it
written : (xs ys : List ℕ) (p : Piece) → pieces xs ≡ p ∷ pieces ys → for_no_newlines xs ≡ without_newline p (front ys) ++ for_no_newlines ys
written xs ys p heads = ap without_newlines heads ∙ ap (λ next. without_newline p next ++ for_no_newlines ys) (ap front (pieces_joined ys))

-- Behind `(?:\n)?`,
pub past_optional : (xs ys : List ℕ) → starts optional_newline xs ≡ true → ys ≡ drop 7 xs →
    (length ys < length xs) × (for_no_newlines xs ≡ without_newline optional (front ys) ++ for_no_newlines ys)
unfolding first_piece
past_optional [] ys e l = absurd (clash e)
past_optional (x ∷ xs) ys e l =
    (omega (arith, simp length-drop at (ap length l)), written (x ∷ xs) ys optional (pieces_step x xs ys optional (cond-true (starts optional_newline (x ∷ xs)) _ _ e) l))

-- and behind any other token.
pub past_other : (t : Read) (xs ys : List ℕ) → starts optional_newline xs ≡ false → Taken t xs ys →
    for_no_newlines xs ≡ without_newline (token (meant t)) (front ys) ++ for_no_newlines ys
unfolding first_piece
past_other t [] ys e w = absurd (omega (arith, w.shorter))
past_other t (x ∷ xs) ys e w =
    let is = taken_first t x xs ys w in
    written (x ∷ xs) ys (token (meant t))
    (pieces_step x xs ys (token (meant t)) (cond-false (starts optional_newline (x ∷ xs)) _ _ e ∙ ap token is.0)
    (is.1 ∙ ap (λ q. drop (pred (length (spelled_piece (token q)))) xs) is.0))
