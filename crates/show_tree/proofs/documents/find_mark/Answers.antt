use Rattle.std.proofs.Common.{◌≡◌, true, false, rules}
use Rattle.std.proofs.lemmas.Iterator.{first_from_Range}
use Rattle.show_tree.specs.Lines.{is_mark}
use Rattle.show_tree.proofs.documents.find_mark.Goals as goal

pub returns : goal.returns
returns c =
    first_from_Range _ _ _ c.find.result (λ k. is_mark c.args.input.now k ≡ true) (λ k. is_mark c.args.input.now k ≡ false) c.find.ensures.ran
    (λ x q k. search rules) (λ x q k. search rules)
