use Rattle.std.proofs.Common.{rules, tests, refl}
use Rattle.std.proofs.lemmas.Iterator.Consumers.{YieldsList-from_first}
use Rattle.std.proofs.lemmas.Iterator.Search.{any_from_yields_List}
use Rattle.backrefs.specs.Backrefs.{is_backref, pairs}
use Rattle.backrefs.specs.Pairs.{meant_pair}
use Rattle.backrefs.proofs.backrefs.has_backrefs.Goals as goal

pub returns : goal.returns
returns c =
    any_from_yields_List is_backref c.any.new.self _ _ c.any.ensures.ran
    (YieldsList-from_first meant_pair (λ s. pairs s.0.now) _ refl) (λ x b q k. search (rules, tests))
