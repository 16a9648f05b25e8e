use Rattle.std.proofs.Common.{ℕ, ◌<◌, length, sym, subst, rules}
use Rattle.std.proofs.ByRecursion.{All-get_or}
use Rattle.std.proofs.lemmas.Iterator.{YieldsList-from_slice, cases_from_all}
use Rattle.std.proofs.lemmas.Iterator.Adapters.{serves_from_places}
use borrow.Author.Tests.{tests}
use Rattle.tree_rule.specs.Rule.{Equal}
use Rattle.tree_rule.proofs.Alls.{decides_all}
use Rattle.tree_rule.proofs.sound.Sound.is_new.Goals as goal

pub all-requires-clause-callable : goal.all-requires-clause-callable
all-requires-clause-callable c =
    let P : ℕ → Type 0 = λ k. k < length c.args.self.now.nodes.now in
    serves_from_places (YieldsList-from_slice c.args.later.now (cc)) (λ x q k. search rules)
    (λ x k h is.
    let within : P x.now = subst P (sym is) (All-get_or P c.args.later.now k x.now h c.requires.later_in_bounds) in
    search rules)

pub returns : goal.returns
returns c =
    let E : ℕ → Type 0 = Equal c.args.self.now.nodes.now c.args.self.now.text.now c.args.key in
    decides_all (λ l. E l → ⊥) c.args.later.now c.all.result
    (cases_from_all c.all.new.self _ _ (λ l. E l → ⊥) (λ l. (E l → ⊥) → ⊥) c.all.ensures.ran
    (YieldsList-from_slice c.args.later.now (cc))
    (λ x q k. search (rules, tests)) (λ x q k. search (rules, tests)))
