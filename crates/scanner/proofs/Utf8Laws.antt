-- A rewritten pattern is UTF-8 if the pattern is.
use Rattle.std.proofs.Common.{◌≡◌, ℕ, suc, pred, Bool, true, false, cond, not, ◌&&◌, eqb, ◌⊎◌, List, [], ◌∷◌, ◌++◌, length, take, drop, codes, Option, sym, refl, ap, subst, inl, inr, arith, length-take}
use Rattle.std.specs.List.{flat_map}
use Rattle.std.proofs.lemmas.List.{append_assoc}
use Rattle.std.proofs.lemmas.Bool.{eqb-true, and_parts, cond_both}
use Rattle.scanner.proofs.Fronts.{token_cases}
use borrow.Author.Tests.{clash}
use Rattle.tokens.specs.declared.class.ClassState.{ClassState}
use Rattle.tokens.specs.declared.class.ClassState.TheVariants.{Start, Negated, Inside, Escaped}
use Rattle.tokens.specs.declared.class.ClassWalker.{ClassWalker}
use Rattle.tokens.specs.declared.posix.PosixClass.{PosixClass}
use Rattle.tokens.specs.declared.posix.PosixClass.TheVariants.{Alpha, Alnum, Lower, Upper, Digit}
use Rattle.tokens.specs.Classes.{opened, stepped, closes, inside}
use Rattle.tokens.specs.Cut.{past_front}
use Rattle.scanner.specs.Laws.{NewlinesUtf8, NoNewlinesUtf8, PropertiesUtf8}
use Rattle.newlines.specs.Newlines.{Piece, optional, token, optional_newline, spelled_piece, first_piece, with_newline, for_newlines, is, repeats, without_newline, without_newlines, for_no_newlines}
use Rattle.tokens.specs.Posix.{Member, escaped, bracket, single, bracket_of, property_of, spelled_member, members, with_property, token_with_properties, with_properties}
use Rattle.tokens.specs.Starts.{starts}
use Rattle.tokens.specs.Tokens.{Token, escape, final, class, comment, plain, spelled, tokens, class_length, has_newline}
use Rattle.scanner.proofs.Edits.{Edit, ascii_append, utf8_edited, Edits, edits_same, edits_ascii, edits_append, edits_joined, edits_whole, edit_cut}
use Rattle.tokens.proofs.Lists.{drop_least}
use Rattle.newlines.proofs.Pieces.{honest_piece}
use Rattle.tokens.proofs.Tokens.{tokens_joined}
use Rattle.scanner.proofs.UnchangedLaws.{members_joined}

-- a rewriting of each token by itself
tokens_edited : (piece : Token → List ℕ) → ((t : Token) → Edits (spelled t) (piece t)) → (bs : List ℕ) → Edit bs (flat_map piece (tokens bs))
tokens_edited piece each bs =
    edits_whole bs (flat_map piece (tokens bs))
    (subst (λ (xs : List ℕ). Edits xs (flat_map piece (tokens bs))) (tokens_joined bs) (edits_joined spelled piece each (tokens bs)))

newline_edits : (t : Token) → Edits (spelled t) (with_newline t)
newline_edits (escape b) = edits_same (spelled (escape b))
newline_edits final = edits_same (spelled final)
newline_edits (class bs) = edits_same bs
newline_edits (comment bs) = edits_same bs
newline_edits (plain b) = go (eqb b 36) refl where
  go : (t : Bool) → eqb b 36 ≡ t → Edits (b ∷ []) (cond t (codes "(?m:$)") (b ∷ []))
  go true e = subst (λ (x : ℕ). Edits (x ∷ []) (codes "(?m:$)")) (sym (eqb-true b 36 e)) (edits_ascii (36 ∷ []) (codes "(?m:$)") (omega arith) refl refl)
  go false e = edits_same (b ∷ [])

pub newlines_utf8 : NewlinesUtf8
newlines_utf8 bs u = utf8_edited bs (for_newlines bs) u (tokens_edited with_newline newline_edits bs)

member_edits : (m : Member) → Edits (spelled_member m) (with_property m)
member_edits (escaped b) = edits_same (spelled_member (escaped b))
member_edits (bracket p) = go p where
  go : (p : PosixClass) → Edits (bracket_of p) (property_of p)
  go Alpha = edits_ascii (bracket_of Alpha) (property_of Alpha) (omega arith) refl refl
  go Alnum = edits_ascii (bracket_of Alnum) (property_of Alnum) (omega arith) refl refl
  go Lower = edits_ascii (bracket_of Lower) (property_of Lower) (omega arith) refl refl
  go Upper = edits_ascii (bracket_of Upper) (property_of Upper) (omega arith) refl refl
  go Digit = edits_ascii (bracket_of Digit) (property_of Digit) (omega arith) refl refl
member_edits (single b) = edits_same (spelled_member (single b))

members_edited : (bs : List ℕ) → Edits bs (flat_map with_property (members bs))
members_edited bs =
    subst (λ (xs : List ℕ). Edits xs (flat_map with_property (members bs))) (members_joined bs) (edits_joined spelled_member with_property member_edits (members bs))

property_edits : (t : Token) → Edits (spelled t) (token_with_properties t)
property_edits (escape b) = edits_same (spelled (escape b))
property_edits final = edits_same (spelled final)
property_edits (class []) = edits_same []
property_edits (class (b ∷ bs)) = edits_append (b ∷ []) (b ∷ []) bs (flat_map with_property (members bs)) (edits_same (b ∷ [])) (members_edited bs)
property_edits (comment bs) = edits_same bs
property_edits (plain b) = edits_same (spelled (plain b))

pub properties_utf8 : PropertiesUtf8
properties_utf8 bs u = utf8_edited bs (with_properties bs) u (tokens_edited token_with_properties property_edits bs)

-- A class ends with a `]`, or nothing stands behind it.
abbrev Ends : List ℕ → List ℕ → Type 0
Ends xs rest = ((vs : List ℕ) × (xs ≡ vs ++ 93 ∷ [])) ⊎ (rest ≡ [])

closing_byte : (s : ClassState) (b : ℕ) (t : Bool) → inside s && (eqb b 93 && t) ≡ true → b ≡ 93
closing_byte Start b t e = absurd (clash e)
closing_byte Negated b t e = absurd (clash e)
closing_byte Inside b t e = eqb-true b 93 (and_parts (eqb b 93) t e).0
closing_byte Escaped b t e = absurd (clash e)

class_ends : (w : ClassWalker) (bs : List ℕ) → Ends (take (class_length w bs) bs) (drop (class_length w bs) bs)
class_ends w [] = inr refl
class_ends w (b ∷ bs) = go (closes w b) refl (class_ends (stepped w b) bs) where
  go : (t : Bool) → closes w b ≡ t → Ends (take (class_length (stepped w b) bs) bs) (drop (class_length (stepped w b) bs) bs) →
      Ends (take (cond t 1 (suc (class_length (stepped w b) bs))) (b ∷ bs)) (drop (cond t 1 (suc (class_length (stepped w b) bs))) (b ∷ bs))
  go true e more = inl ([], ap (λ (x : ℕ). x ∷ []) (closing_byte w.state b _ e))
  go false e (inl more) = inl (b ∷ more.0, ap (λ (xs : List ℕ). b ∷ xs) more.1)
  go false e (inr more) = inr more

-- What a class has behind its `[` stays, and `|$)` may follow it.
ends_edited : (xs rest ys : List ℕ) → Ends xs rest → Edit rest ys → Edit (xs ++ rest) ((xs ++ codes "|$)") ++ ys)
ends_edited xs rest ys (inl closed) e =
    subst (λ (l : List ℕ). Edit (l ++ rest) ((l ++ codes "|$)") ++ ys)) (sym closed.1)
    (subst (λ (l : List ℕ). Edit ((closed.0 ++ 93 ∷ []) ++ rest) (l ++ ys)) (sym (append_assoc closed.0 (93 ∷ []) (codes "|$)")))
    (edits_append closed.0 closed.0 (93 ∷ []) (codes "]|$)") (edits_same closed.0) (edits_ascii (93 ∷ []) (codes "]|$)") (omega arith) refl refl) rest ys e))
ends_edited xs rest ys (inr none) e =
    subst (λ (l : List ℕ). Edit (xs ++ rest) l) (sym (append_assoc xs (codes "|$)") ys))
    (edits_same xs rest (codes "|$)" ++ ys)
    (subst (λ (l : List ℕ). Edit l (codes "|$)" ++ ys)) (sym none) (ascii_append (codes "|$)") ys refl (subst (λ (l : List ℕ). Edit l ys) none e))))

-- what a piece is, at the front of a text that goes on with `rest`
abbrev Fits : Piece → List ℕ → Type 0
Fits optional rest = Unit {0}
Fits (token (escape b)) rest = Unit {0}
Fits (token final) rest = Unit {0}
Fits (token (class bs)) rest = (xs : List ℕ) × (bs ≡ 91 ∷ xs) × Ends xs rest
Fits (token (comment bs)) rest = Unit {0}
Fits (token (plain b)) rest = Unit {0}

piece_edited : (p : Piece) (next : Option ℕ) (rest ys : List ℕ) → Fits p rest → Edit rest ys → Edit (spelled_piece p ++ rest) (without_newline p next ++ ys)
piece_edited optional next rest ys f e = edits_ascii optional_newline (codes "(?:$|)") (omega arith) refl refl rest ys e
piece_edited (token (escape b)) next rest ys f e = go (eqb b 110 && not (repeats next)) refl where
  go : (t : Bool) → (eqb b 110 && not (repeats next)) ≡ t → Edit (92 ∷ b ∷ rest) (cond t (codes "$") (92 ∷ b ∷ []) ++ ys)
  go true is =
      subst (λ (x : ℕ). Edit (92 ∷ x ∷ rest) (codes "$" ++ ys)) (sym (eqb-true b 110 (and_parts (eqb b 110) (not (repeats next)) is).0))
      (edits_ascii (92 ∷ 110 ∷ []) (codes "$") (omega arith) refl refl rest ys e)
  go false is = edits_same (92 ∷ b ∷ []) rest ys e
piece_edited (token final) next rest ys f e = edits_same (92 ∷ []) rest ys e
piece_edited (token (class bs)) next rest ys f e = go (has_newline bs && not (is 63 next)) where
  around : Edit (bs ++ rest) ((codes "(?:" ++ (bs ++ codes "|$)")) ++ ys)
  around =
      subst (λ (l : List ℕ). Edit (l ++ rest) ((codes "(?:" ++ (l ++ codes "|$)")) ++ ys)) (sym f.1)
      (edits_ascii (91 ∷ []) (codes "(?:[") (omega arith) refl refl (f.0 ++ rest) ((f.0 ++ codes "|$)") ++ ys) (ends_edited f.0 rest ys f.2 e))

  go : (t : Bool) → Edit (bs ++ rest) (cond t (codes "(?:" ++ (bs ++ codes "|$)")) bs ++ ys)
  go true = around
  go false = edits_same bs rest ys e
piece_edited (token (comment bs)) next rest ys f e = edits_same bs rest ys e
piece_edited (token (plain b)) next rest ys f e = edits_same (b ∷ []) rest ys e

piece_fits : (b : ℕ) (bs : List ℕ) → Fits (first_piece (b ∷ bs)) (past_front first_piece spelled_piece b bs)
unfolding first_piece
piece_fits b bs =
    cond_both (starts optional_newline (b ∷ bs)) _ _ (λ p. Fits p (drop (pred (length (spelled_piece p))) bs)) (λ _. tt)
    (λ _. token_cases (λ t. Fits (token t) (drop (pred (length (spelled t))) bs)) b bs (λ _ _ _ _. tt) tt opened_class (λ _. tt) tt) where
      n : ℕ
      n = class_length opened bs

      opened_class : b ≡ 91 → Fits (token (class (b ∷ take n bs))) (drop (length (take n bs)) bs)
      opened_class e = (
        take n bs,
        ap (λ (x : ℕ). x ∷ take n bs) e,
        subst (Ends (take n bs)) (sym (drop_least n (length (take n bs)) bs (length-take n bs))) (class_ends opened bs),
      )

pub no_newlines_utf8 : NoNewlinesUtf8
no_newlines_utf8 bs u =
    utf8_edited bs (for_no_newlines bs) u
    (edit_cut first_piece spelled_piece without_newlines refl
    (λ b xs ps e. subst (λ (l : List ℕ). Edit l (without_newlines (first_piece (b ∷ xs) ∷ ps))) (honest_piece b xs)
    (piece_edited (first_piece (b ∷ xs)) _ (past_front first_piece spelled_piece b xs) (without_newlines ps) (piece_fits b xs) e))
    bs)
