use Rattle.std.proofs.Common.{◌≡◌, ℕ, ◌<◌, true, false, eqb, List, length, Some, None, Option, Bor, MatchOption, sym, ◌∙◌, rules}
use Rattle.std.specs.List.{AllWithin, HoldsAt}
use Rattle.std.specs.Option.{option_eq}
use Rattle.std.proofs.lemmas.Iterator.{first_from_find, YieldsList-from_slice}
use borrow.Author.Tests.{tests}
use Rattle.groups.specs.Captures.{name_ends}
use Rattle.groups.proofs.Marks.{stops, never_closed, closed_where}
use Rattle.groups.proofs.captures.name_ends.Goals as goal

-- what is found, and whether it closes the name
found : (close : Bor ℕ) (bs : List ℕ) (r : Option (Bor ℕ)) →
    MatchOption r (AllWithin (λ b. stops close.now b ≡ false) bs 0 (length bs))
    (λ x. (stops close.now x.now ≡ true) × (i : ℕ) × (i < length bs) × HoldsAt (λ y. y ≡ x.now) bs i × AllWithin (λ b. stops close.now b ≡ false) bs 0 i) →
    option_eq (λ x y. eqb x.now y.now) r (Some close) ≡ name_ends close.now bs
found close bs None all = sym (never_closed close.now bs all)
found close bs (Some x) f = sym (closed_where close.now x.now bs f.1 f.0 f.2 f.3 f.4)

pub returns : goal.returns
returns c =
    c.eq.ensures
    ∙ found _ c.args.text.now c.find-end.result
    (first_from_find _ _ _ (λ b. stops c.args.close b ≡ true) (λ b. stops c.args.close b ≡ false) c.find-end.ensures.ran (YieldsList-from_slice c.args.text.now cc)
    (λ x q k. search (rules, tests)) (λ x q k. search (rules, tests)))
