use Rattle.std.proofs.Common.{◌≡◌, ◌-◌, ◌≤◌, length}
use Rattle.flow.proofs.Pieces.{InsideSoFar}
use Rattle.flow.specs.Stops.{Within}
use Rattle.flow.proofs.cursor.Cursor.read_bytes.Given as goal

-- what was written and what the rest will be are the string
abbrev pub invariant-loop-byte : goal.invariant-loop-byte
invariant-loop-byte l = record {
  input : l.self.input ≡ l.initial.self.input;
  onward : l.initial.self.place ≤ l.self.place;
  nodes : l.arrays.nodes ≡ l.initial.arrays.nodes;
  text : InsideSoFar l.initial.self.input.now l.initial.self.place l.self.place l.initial.arrays.text.items l.arrays.text.items;
  within : Within l.initial.self.input.now l.initial.self.place l.self.place;
}

abbrev pub decreases-loop-byte : goal.decreases-loop-byte
decreases-loop-byte l = length l.self.input.now - l.self.place
