-- The tokens of a pattern: an escape, a class, a comment, a backslash at the very end, any other byte.
use Rattle.std.specs.Prelude.{ℕ, suc, Bool, true, false, cond, not, ◌&&◌, List, [], ◌∷◌, take, ◌==◌}
use Rattle.tokens.specs.declared.class.ClassWalker.{ClassWalker}
use Rattle.tokens.specs.Classes.{opened, stepped, closes}
use Rattle.tokens.specs.Cut.{cut}

pub data Token : Type 0 where
  -- a backslash and the byte that it escapes
  escape : ℕ → Token
  -- a backslash that ends the text
  final : Token
  -- from a `[` to the `]` that closes it, or to the end of the text
  class : List ℕ → Token
  -- from a `(?#` to the first `)` that is not escaped, or to the end of the text
  comment : List ℕ → Token
  plain : ℕ → Token

abbrev pub spelled : Token → List ℕ
spelled (escape b) = 92 ∷ b ∷ []
spelled final = 92 ∷ []
spelled (class bs) = bs
spelled (comment bs) = bs
spelled (plain b) = b ∷ []

-- how many of the bytes behind a `[` belong to the class
abbrev pub class_length : ClassWalker → List ℕ → ℕ
class_length w [] = 0
class_length w (b ∷ bs) = cond (closes w b) 1 (suc (class_length (stepped w b) bs))

-- a class that is not negated has a `\n` of its own, not in a bracket inside it: here for the bytes behind its `[`
abbrev pub newline_in : ClassWalker → List ℕ → Bool
newline_in w [] = w.newline
newline_in w (b ∷ bs) = cond (closes w b) w.newline (newline_in (stepped w b) bs)

-- the same of the text of a class
abbrev pub has_newline : List ℕ → Bool
has_newline [] = false
has_newline (b ∷ bs) = newline_in opened bs

-- a `]` closes the class: here for the bytes behind its `[`
abbrev pub closed_in : ClassWalker → List ℕ → Bool
closed_in w [] = false
closed_in w (b ∷ bs) = cond (closes w b) true (closed_in (stepped w b) bs)

-- the same of the text of a class
abbrev pub is_closed : List ℕ → Bool
is_closed [] = false
is_closed (b ∷ bs) = closed_in opened bs

-- how many of the bytes belong to a comment, up to its `)`; the flag says whether the next byte is escaped
abbrev pub comment_length : Bool → List ℕ → ℕ
comment_length escaped [] = 0
comment_length true (b ∷ bs) = suc (comment_length false bs)
comment_length false (b ∷ bs) = cond (b == 41) 1 (suc (comment_length (b == 92) bs))

-- `(?#` stands here
abbrev pub opens_comment : List ℕ → Bool
opens_comment [] = false
opens_comment (b ∷ []) = false
opens_comment (b ∷ c ∷ []) = false
opens_comment (b ∷ c ∷ d ∷ bs) = b == 40 && (c == 63 && d == 35)

-- a `(` stands here that opens a group
abbrev pub opens_group : List ℕ → Bool
opens_group [] = false
opens_group (b ∷ bs) = b == 40 && not (opens_comment (b ∷ bs))

abbrev pub escaping : List ℕ → Token
escaping [] = final
escaping (b ∷ bs) = escape b

-- the token at the front of a text
unfoldable pub first : List ℕ → Token
first [] = final
first (b ∷ bs) = cond (b == 92) (escaping bs)
    (cond (b == 91) (class (b ∷ take (class_length opened bs) bs))
    (cond (opens_comment (b ∷ bs)) (comment (take (comment_length false (b ∷ bs)) (b ∷ bs))) (plain b)))

abbrev pub tokens : List ℕ → List Token
tokens = cut first spelled
