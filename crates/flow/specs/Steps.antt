-- Where the small steps of the reader lead: over blanks, over a byte, to the end of a list or map.
use Rattle.std.specs.Prelude.{◌≡◌, ◌≢◌, ℕ, ◌+◌, ◌<◌, Bool, true, false, List, length, drop, slice_index, slice_set}
use Rattle.std.specs.List.{prefix_len}
use Rattle.tree_rule.specs.declared.node.RawNode.{RawNode}
use Rattle.tree_rule.specs.Nodes.{raw, at}
use Rattle.flow.specs.Scalars.{is_blank}

-- node i ends behind the last node
abbrev pub ending_here : ℕ → List RawNode → List RawNode
ending_here i ns = slice_set ns i (raw (at ns i).kind (length ns) (at ns i).place (at ns i).length (at ns i).number)

-- the place behind the blanks that stand here
abbrev pub past_blanks : List ℕ → ℕ → ℕ
past_blanks input place = place + prefix_len is_blank (drop place input)

-- behind the blanks that stand here is this byte, and the end behind it
abbrev pub Behind : ℕ → List ℕ → ℕ → ℕ → Type 0
Behind b input place end =
    (past_blanks input place < length input) × (slice_index input (past_blanks input place) ≡ b) × (end ≡ past_blanks input place + 1)

-- whether behind the blanks is this byte; else the end lies before another one
abbrev pub IsEnd : Bool → ℕ → List ℕ → ℕ → ℕ → Type 0
IsEnd true b input place end = Behind b input place end
IsEnd false b input place end = (end ≡ past_blanks input place) × (end < length input) × (slice_index input end ≢ b)
