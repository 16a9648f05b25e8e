use Rattle.std.specs.Prelude.{ℕ, List, [], ◌∷◌, Some, None, Option}

-- the byte at the front of a text
abbrev pub front : List ℕ → Option ℕ
front [] = None
front (b ∷ bs) = Some b
