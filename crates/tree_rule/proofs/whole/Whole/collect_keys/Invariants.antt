use Rattle.std.proofs.Common.{◌≡◌, ℕ, ◌<◌, ◌++◌, length, map, vec_items}
use Rattle.std.specs.List.{AllByRecursion}
use Rattle.tree_rule.specs.Nodes.{from, entries_of, keys}
use Rattle.tree_rule.proofs.whole.Whole.collect_keys.Given as goal

-- the keys so far and those of the entries that are left are all keys
abbrev pub invariant-loop-key : goal.invariant-loop-key
invariant-loop-key l =
    let it = l.key-iterator.children in
    let left = entries_of (from it.nodes.now it.end it.next) in
    AllByRecursion (λ (p : ℕ × ℕ). p.0 < length l.self.sound.nodes.now) left
    × (vec_items l.work.keys ++ map (λ (p : ℕ × ℕ). p.0) left ≡ keys l.self.sound.nodes.now l.map)
