-- What a step of the reader reads.
use Rattle.std.specs.Prelude.{◌≡◌, ℕ, ◌<◌, Bool, List}
use Rattle.tree_rule.specs.declared.node.RawNode.{RawNode}
use Rattle.flow.specs.declared.arrays.Arrays.{Arrays}
use Rattle.flow.specs.declared.cursor.Cursor.{Cursor}
use Rattle.flow.specs.Flow.{Items}
use Rattle.flow.specs.Places.{Read}
use Rattle.flow.specs.Steps.{ending_here}

-- from one cursor to a later one stands what K says, in the input of the first, and its nodes and text were added
pub record Reads (K : ℕ → ℕ → List ℕ → List ℕ → List RawNode → List ℕ → Type 0) (from to : Cursor) (before after : Arrays) : Type 0 where
  pub onward : from.place < to.place
  pub read : Read K from.input.now from.place to.place before.nodes.items after.nodes.items before.text.items after.text.items

-- the same of what a list or map holds, up to its end, and its node then ends behind what was added
pub record ReadsGroup (m : Bool) (node : ℕ) (from to : Cursor) (before after : Arrays) : Type 0 where
  pub onward : from.place < to.place
  pub held : List RawNode
  pub read : Read (Items m) from.input.now from.place to.place before.nodes.items held before.text.items after.text.items
  pub ended : after.nodes.items ≡ ending_here node held
