use Rattle.std.proofs.Common.{◌≡◌, ◌≤◌, take, count_by}
use Rattle.show_tree.specs.Lines.{is_line_feed}
use Rattle.show_tree.proofs.documents.line_feeds.Given as goal

abbrev pub invariant-loop-byte : goal.invariant-loop-byte
invariant-loop-byte l = (l.count ≡ count_by is_line_feed (take l.byte-index l.bytes)) × (l.count ≤ l.byte-index)
