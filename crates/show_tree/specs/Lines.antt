-- Lines of the input and of what is shown.
use Rattle.std.specs.Prelude.{◌≡◌, ℕ, ◌-◌, ◌<◌, ◌≤◌, Bool, ◌&&◌, ◌||◌, List, [], ◌∷◌, ◌++◌, length, take, drop, codes, ◌==◌, slice_index}
use Rattle.std.specs.List.{AllByRecursion}
use Rattle.std.specs.Str.{bytes_eq}

abbrev pub is_line_feed : ℕ → Bool
is_line_feed b = b == 10

-- a line begins at this place
abbrev pub is_line_start : List ℕ → ℕ → Bool
is_line_start input p = p == 0 || slice_index input (p - 1) == 10

-- a line that begins with `---` begins at this place
abbrev pub is_mark : List ℕ → ℕ → Bool
is_mark input p = is_line_start input p && bytes_eq (codes "---") (take 3 (drop p input))

-- of the ends of the nodes around this one, the last are gone that lie before it
pub record Forgot (node : ℕ) (before after : List ℕ) : Type 0 where
  pub gone : List ℕ
  pub whole : before ≡ after ++ gone
  pub ended : AllByRecursion (λ e. e ≤ node) gone
  pub around : 0 < length after → node < slice_index after (length after - 1)

-- the depth of a node is the number of ends that are left; its own is put behind them
pub record Deepened (node end depth : ℕ) (before after : List ℕ) : Type 0 where
  pub left : List ℕ
  pub forgot : Forgot node before left
  pub deep : depth ≡ length left
  pub pushed : after ≡ left ++ end ∷ []
