-- What becomes of a pattern for lines that end with a newline, and for lines that do not.
use Rattle.std.specs.Prelude.{ℕ, Bool, false, cond, not, ◌&&◌, ◌||◌, List, [], ◌∷◌, ◌++◌, Some, None, codes, Option, ◌==◌}
use Rattle.std.specs.List.{flat_map}
use Rattle.tokens.specs.Cursor.{front}
use Rattle.tokens.specs.Cut.{cut}
use Rattle.tokens.specs.Starts.{starts}
use Rattle.tokens.specs.Tokens.{Token, escape, final, class, comment, plain, spelled, first, tokens, has_newline}

-- With a newline at the end of each line, a `$` stands for the end of a line and not of the text.
abbrev pub with_newline : Token → List ℕ
with_newline (escape b) = spelled (escape b)
with_newline final = spelled final
with_newline (class bs) = spelled (class bs)
with_newline (comment bs) = spelled (comment bs)
with_newline (plain b) = cond (b == 36) (codes "(?m:$)") (spelled (plain b))

abbrev pub for_newlines : List ℕ → List ℕ
for_newlines bs = flat_map with_newline (tokens bs)

-- Without newlines, `(?:\n)?` is read as one piece where a group opens.
pub data Piece : Type 0 where
  optional : Piece
  token : Token → Piece

-- (?:\n)?
abbrev pub optional_newline : List ℕ
optional_newline = 40 ∷ 63 ∷ 58 ∷ 92 ∷ 110 ∷ 41 ∷ 63 ∷ []

abbrev pub spelled_piece : Piece → List ℕ
spelled_piece optional = optional_newline
spelled_piece (token t) = spelled t

unfoldable pub first_piece : List ℕ → Piece
first_piece bs = cond (starts optional_newline bs) optional (token (first bs))

abbrev pub pieces : List ℕ → List Piece
pieces = cut first_piece spelled_piece

abbrev pub is : ℕ → Option ℕ → Bool
is b None = false
is b (Some c) = c == b

-- one of the operators that repeat what stands before them
abbrev pub repeats : Option ℕ → Bool
repeats next = is 63 next || (is 43 next || is 42 next)

-- `\n` becomes `$` unless a repeat follows; a class that matches a newline matches the end of the line too unless a `?` follows.
-- `next` is the byte behind the token.
abbrev pub token_without : Token → Option ℕ → List ℕ
token_without (escape b) next = cond (b == 110 && not (repeats next)) (codes "$") (spelled (escape b))
token_without final next = spelled final
token_without (class bs) next = cond (has_newline bs && not (is 63 next)) (codes "(?:" ++ (bs ++ codes "|$)")) (spelled (class bs))
token_without (comment bs) next = spelled (comment bs)
token_without (plain b) next = spelled (plain b)

abbrev pub without_newline : Piece → Option ℕ → List ℕ
without_newline optional next = codes "(?:$|)"
without_newline (token t) next = token_without t next

abbrev pub without_newlines : List Piece → List ℕ
without_newlines [] = []
without_newlines (p ∷ ps) = without_newline p (front (flat_map spelled_piece ps)) ++ without_newlines ps

abbrev pub for_no_newlines : List ℕ → List ℕ
for_no_newlines bs = without_newlines (pieces bs)
