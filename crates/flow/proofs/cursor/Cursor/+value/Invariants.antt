use Rattle.std.proofs.Common.{◌≡◌, ◌+◌, ◌-◌, ◌*◌, length}
use Rattle.flow.specs.Content.{is_map}
use Rattle.flow.proofs.Groups.{Begun}
use Rattle.flow.proofs.Stopping.{StopsBehind}
use Rattle.flow.proofs.cursor.Cursor.+value.Given as goal

-- each list or map that opens takes one from the depth, and each other call takes one from the rank
abbrev pub decreases-read_value : goal.decreases-read_value
decreases-read_value l = 4 * l.depth.left

abbrev pub decreases-read_entry : goal.decreases-read_entry
decreases-read_entry l = 4 * l.depth.left + 1

abbrev pub decreases-read_item : goal.decreases-read_item
decreases-read_item l = 4 * l.depth.left + 2

abbrev pub decreases-read_items : goal.decreases-read_items
decreases-read_items l = 4 * l.depth.left + 3

abbrev pub invariant-read_items-loop-self : goal.invariant-read_items-loop-self
invariant-read_items-loop-self l = record {
  input : l.self.input ≡ l.fn.self.input;
  begun : Begun (is_map l.fn.group) l.fn.self.input.now l.fn.self.place l.self.place l.fn.arrays.nodes.items l.arrays.nodes.items l.fn.arrays.text.items l.arrays.text.items;
  stops : StopsBehind l.fn.self.input.now (is_map l.fn.group) l.fn.depth.left l.fn.self.place l.self.place;
}

abbrev pub decreases-read_items-loop-self : goal.decreases-read_items-loop-self
decreases-read_items-loop-self l = length l.self.input.now - l.self.place
