use Rattle.std.proofs.Common.{ℕ, ◌<◌, ◌≤◌, length, sym, subst, rules}
use Rattle.std.proofs.ByRecursion.{All-get_or}
use Rattle.std.proofs.lemmas.Iterator.{cases_from_all}
use Rattle.std.proofs.lemmas.Iterator.Adapters.{serves_from_places}
use Rattle.std.proofs.lemmas.Iterator.Consumers.{YieldsList-from_first}
use borrow.Author.Tests.{tests}
use Rattle.tree_rule.specs.Nodes.{at, from, children}
use Rattle.tree_rule.specs.declared.children.Children.{Children}
use Rattle.tree_rule.proofs.Alls.{decides_all}
use Rattle.tree_rule.proofs.Walks.{children_within}
use Rattle.tree_rule.proofs.sound.Sound.is_filled.Goals as goal

pub all-requires-clause-callable : goal.all-requires-clause-callable
all-requires-clause-callable c =
    let ns = c.args.self.now.nodes.now in
    let all = children_within ns c.args.i (λ k h. (c.args.self.now.right k h).ends) c.requires in
    serves_from_places (YieldsList-from_first (λ x. x) (λ (s : Children). from s.nodes.now s.end s.next) (children ns c.args.i) (cc))
    (λ x q k. search rules)
    (λ x k h is.
    let within : x < length ns = subst (λ (j : ℕ). j < length ns) (sym is) (All-get_or (λ j. j < length ns) (children ns c.args.i) k x h all) in
    search rules)

pub returns : goal.returns
returns c =
    let ns = c.args.self.now.nodes.now in
    let e = (at ns c.args.i).end in
    decides_all (λ k. (at ns k).end ≤ e) (children ns c.args.i) c.all.result
    (cases_from_all c.all.new.self _ _ (λ k. (at ns k).end ≤ e) (λ k. (at ns k).end ≤ e → ⊥) c.all.ensures.ran
    (YieldsList-from_first (λ x. x) (λ (s : Children). from s.nodes.now s.end s.next) (children ns c.args.i) (cc))
    (λ x q k. search (rules, tests)) (λ x q k. search (rules, tests)))
