-- Texts and names: a text is its bytes.
use Rattle.std.specs.Prelude.{ℕ, Bool, true, false, cond, ◌&&◌, List, [], ◌∷◌, codes, ◌==◌, nat_lt}

abbrev pub Text : Type 0
Text = List ℕ

-- strict byte order
abbrev pub before : Text → Text → Bool
before [] [] = false
before [] (b ∷ bs) = true
before (a ∷ xs) [] = false
before (a ∷ xs) (b ∷ bs) = cond (nat_lt a b) true (a == b && before xs bs)

-- the context that a grammar begins with
abbrev pub main : Text
main = codes "main"

-- the context whose patterns are put before those of others
abbrev pub prototype : Text
prototype = codes "prototype"
