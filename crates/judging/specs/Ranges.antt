-- Texts that lie in another text.
use Rattle.std.specs.Prelude.{ℕ, ◌-◌, Bool, ◌&&◌, List, take, drop, nat_le}
use Rattle.judging.specs.declared.range.TextRange.{TextRange}

-- the range lies in a text of n bytes
abbrev pub lies : ℕ → TextRange → Bool
lies n r = nat_le r.start n && nat_le r.length (n - r.start)

-- the bytes of a range
abbrev pub text_at : List ℕ → TextRange → List ℕ
text_at whole r = take r.length (drop r.start whole)

abbrev pub nowhere : TextRange
nowhere = record { start = 0; length = 0 }
