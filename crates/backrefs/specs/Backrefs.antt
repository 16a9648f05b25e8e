-- Backreferences in a pattern, and the texts that are put in for them.
use Rattle.std.specs.Prelude.{ℕ, ◌+◌, ◌-◌, Bool, false, cond, ◌&&◌, ◌||◌, List, [], ◌∷◌, ◌++◌, Some, None, codes, Option, ◌==◌, nat_le, nat_lt}
use Rattle.std.specs.List.{flat_map, list_any}
use Rattle.tokens.specs.Cut.{cut}

-- A pattern by its escapes alone: a backslash and the byte that it escapes, or a single byte.
pub data Pair : Type 0 where
  escaped : ℕ → Pair
  single : ℕ → Pair

abbrev pub spelled_pair : Pair → List ℕ
spelled_pair (escaped b) = 92 ∷ b ∷ []
spelled_pair (single b) = b ∷ []

abbrev pub escaped_or : List ℕ → ℕ → Pair
escaped_or [] b = single b
escaped_or (c ∷ bs) b = escaped c

unfoldable pub first_pair : List ℕ → Pair
first_pair [] = single 0
first_pair (b ∷ bs) = cond (b == 92) (escaped_or bs b) (single b)

abbrev pub pairs : List ℕ → List Pair
pairs = cut first_pair spelled_pair

abbrev pub digit : ℕ → Bool
digit b = nat_le 48 b && nat_le b 57

-- a backslash that no backslash escapes, before a digit
abbrev pub is_backref : Pair → Bool
is_backref (escaped b) = digit b
is_backref (single b) = false

abbrev pub any_backref : List Pair → Bool
any_backref = list_any is_backref

abbrev pub has_backref : List ℕ → Bool
has_backref bs = any_backref (pairs bs)

abbrev pub text_of : Option (List ℕ) → List ℕ
text_of None = []
text_of (Some bs) = bs

-- what stands in the place of a pair, where `part` gives the text for each digit
abbrev pub put : (ℕ → Option (List ℕ)) → Pair → List ℕ
put part (escaped b) = cond (digit b) (text_of (part (b - 48))) (spelled_pair (escaped b))
put part (single b) = spelled_pair (single b)

abbrev pub substituted : (ℕ → Option (List ℕ)) → List ℕ → List ℕ
substituted part bs = flat_map (put part) (pairs bs)

-- `<placeholder_d>`
abbrev pub placeholder : ℕ → Option (List ℕ)
placeholder d = cond (nat_lt d 10) (Some (codes "<placeholder_" ++ ((48 + d) ∷ codes ">"))) None

abbrev pub one_of : List ℕ → ℕ → Bool
one_of [] b = false
one_of (m ∷ ms) b = b == m || one_of ms b

-- the bytes that mean something else than themselves in a pattern; 92 is the backslash
abbrev pub is_meta : ℕ → Bool
is_meta b = one_of (92 ∷ codes ".+*?()|[]{}^$#&-~") b

-- a byte that matches itself
abbrev pub literal : ℕ → List ℕ
literal b = cond (is_meta b) (92 ∷ b ∷ []) (b ∷ [])

abbrev pub literally : List ℕ → List ℕ
literally bs = flat_map literal bs
