use Rattle.std.proofs.Common.{◌<◌, length}
use Rattle.std.specs.List.{AllByRecursion}
use Rattle.tree_rule.specs.Rule.{Apart, Equal}
use Rattle.tree_rule.proofs.sound.Sound.is_apart.Given as goal

-- no two keys are equal exactly if no two of those that are left are
abbrev pub invariant-loop-key : goal.invariant-loop-key
invariant-loop-key l =
    AllByRecursion (λ k. k < length l.self.nodes.now) l.left
    × (Apart (Equal l.self.nodes.now l.self.text.now) l.keys → Apart (Equal l.self.nodes.now l.self.text.now) l.left)
    × (Apart (Equal l.self.nodes.now l.self.text.now) l.left → Apart (Equal l.self.nodes.now l.self.text.now) l.keys)

abbrev pub decreases-loop-key : goal.decreases-loop-key
decreases-loop-key l = length l.left
