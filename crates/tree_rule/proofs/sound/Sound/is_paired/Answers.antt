use Rattle.std.proofs.Common.{inl, arith, rules}
use Rattle.std.proofs.lemmas.Iterator.Consumers.{YieldsList-from_first, count_from_yields_List}
use Rattle.tree_rule.specs.Nodes.{from, children}
use Rattle.tree_rule.specs.declared.children.Children.{Children}
use Rattle.tree_rule.proofs.Turns.{in_turn_even}
use Rattle.tree_rule.proofs.Walks.{from_length}
use Rattle.tree_rule.proofs.sound.Sound.is_paired.Goals as goal

pub count-requires-clause-fits : goal.count-requires-clause-fits
count-requires-clause-fits c =
    let s = c.children.result in inl (omega (arith, from_length s.nodes.now s.end s.next, s.within))

pub returns-else-not-is : goal.returns-else-not-is
returns-else-not-is c =
    let ns = c.args.self.now.nodes.now in
    let n = count_from_yields_List c.children.result c.count.result c.count.ensures.ran
    (YieldsList-from_first (λ x. x) (λ (s : Children). from s.nodes.now s.end s.next) (children ns c.args.i) (cc)) in
    let t = in_turn_even (children ns c.args.i) in
    let d = rw (← n) at t in
    (λ e _. d.0 e, λ p. d.1 (p (search rules)))
