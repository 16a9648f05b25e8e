-- The walk through a character class: what one byte does to it, and where the class ends.
use Rattle.std.specs.Prelude.{ℕ, ◌+◌, ◌-◌, Bool, true, false, cond, not, ◌&&◌, ◌||◌, ◌==◌}
use Rattle.tokens.specs.declared.class.ClassState.{ClassState}
use Rattle.tokens.specs.declared.class.ClassState.TheVariants.{Start, Negated, Inside, Escaped}
use Rattle.tokens.specs.declared.class.ClassWalker.{ClassWalker}

abbrev pub opened : ClassWalker
opened = record { state = Start; negated = false; depth = 0; newline = false }

-- a byte that is not escaped: a backslash escapes the next, `[` opens a bracket inside the class
abbrev pub bare : ClassWalker → ℕ → ClassWalker
bare w b = cond (b == 92) (record { state = Escaped; negated = w.negated; depth = w.depth; newline = w.newline })
    (cond (b == 91) (record { state = Inside; negated = w.negated; depth = w.depth + 1; newline = w.newline })
    (record { state = Inside; negated = w.negated; depth = w.depth; newline = w.newline }))

-- the walk behind the byte b
abbrev pub from : ClassState → ClassWalker → ℕ → ClassWalker
from Start w b = cond (b == 94) (record { state = Negated; negated = true; depth = w.depth; newline = w.newline }) (bare w b)
from Negated w b = bare w b
from Inside w b = cond (b == 93) (record { state = Inside; negated = w.negated; depth = w.depth - 1; newline = w.newline }) (bare w b)
from Escaped w b =
    record { state = Inside; negated = w.negated; depth = w.depth; newline = w.newline || (b == 110 && (not w.negated && w.depth == 0)) }

abbrev pub stepped : ClassWalker → ℕ → ClassWalker
stepped w b = from w.state w b

abbrev pub inside : ClassState → Bool
inside Start = false
inside Negated = false
inside Inside = true
inside Escaped = false

-- a `]` closes the class where no bracket inside it is open; right behind `[` or `[^` it is a member
abbrev pub closes : ClassWalker → ℕ → Bool
closes w b = inside w.state && (b == 93 && w.depth == 0)
