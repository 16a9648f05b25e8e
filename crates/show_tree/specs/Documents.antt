-- How an input is cut into documents.
use Rattle.std.specs.Prelude.{◌≡◌, ℕ, ◌+◌, ◌<◌, ◌≤◌, true, false, List, length, min, Option, MatchOption}
use Rattle.show_tree.specs.declared.documents.Document.{Document}
use Rattle.show_tree.specs.declared.documents.Documents.{Documents}
use Rattle.show_tree.specs.Lines.{is_mark}

-- a document that begins here ends at the next mark, or at the end of the input
pub record EndsAt (input : List ℕ) (from end : ℕ) : Type 0 where
  pub order : from ≤ end
  pub within : end ≤ length input
  pub mark : end < length input → is_mark input end ≡ true
  pub first : (k : ℕ) → from ≤ k → k < end → is_mark input k ≡ false

-- the next document begins where the rest does, and the rest then begins behind its mark
pub record Cuts (rest : Documents) (found : Document) (left : Documents) : Type 0 where
  pub same : found.input ≡ rest.input
  pub here : found.from ≡ rest.from
  pub ends : EndsAt rest.input.now rest.from found.end
  pub kept : left.input ≡ rest.input
  pub behind : left.from ≡ min (found.end + 3) (length rest.input.now)

abbrev pub CutsNext : Documents → Option Document → Documents → Type 0
CutsNext rest found left = MatchOption found (length rest.input.now ≤ rest.from) (λ d. Cuts rest d left)
