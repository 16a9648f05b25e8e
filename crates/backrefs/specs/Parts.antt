-- Parts of a line.
use Rattle.std.specs.Fmt.{decimal}
use Rattle.std.specs.Prelude.{◌≡◌, ℕ, ◌-◌, ◌<◌, Bool, true, cond, ◌&&◌, List, ◌++◌, length, take, drop, Some, None, codes, Option, nat_le, slice_index_or}
use Rattle.backrefs.specs.Backrefs.{literally}
use Rattle.backrefs.specs.declared.parts.OutsideLine.{OutsideLine}
use Rattle.backrefs.specs.declared.span.Span.{Span}

-- a part, if there is one, lies in a line of n bytes
abbrev pub inside : ℕ → Option Span → Bool
inside n None = true
inside n (Some s) = nat_le s.start s.end && nat_le s.end n

abbrev pub AllInside : List ℕ → List (Option Span) → Type 0
AllInside line parts = (k : ℕ) → k < length parts → inside (length line) (slice_index_or parts k None) ≡ true

-- the bytes of a part
abbrev pub bytes_at : List ℕ → Span → List ℕ
bytes_at line s = take (s.end - s.start) (drop s.start line)

-- what is put in for a part: its bytes, so that they match themselves
abbrev pub part_text : List ℕ → Option Span → Option (List ℕ)
part_text line None = None
part_text line (Some s) = cond (inside (length line) (Some s)) (Some (literally (bytes_at line s))) None

abbrev pub part_of : List ℕ → List (Option Span) → ℕ → Option (List ℕ)
part_of line parts d = part_text line (slice_index_or parts d None)

-- in words
abbrev pub outside_text : OutsideLine → List ℕ
outside_text e = codes "part " ++ decimal e.part ++ codes " does not lie in the line"
