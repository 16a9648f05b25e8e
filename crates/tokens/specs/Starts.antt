-- A text that begins with another.
use Rattle.std.specs.Prelude.{ℕ, Bool, List, length, take}
use Rattle.std.specs.Str.{bytes_eq}

abbrev pub starts : List ℕ → List ℕ → Bool
starts prefix bs = bytes_eq prefix (take (length prefix) bs)
