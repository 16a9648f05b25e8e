use Rattle.std.proofs.Common.{sym, ap, ◌∙◌}
use Rattle.std.proofs.lemmas.List.{take_rest}
use Rattle.flow.specs.Scalars.{code_unit, taking}
use Rattle.flow.proofs.Pieces.{character_pair}
use Rattle.flow.proofs.scalars.unicode_escape.Goals as goal

pub returns-in_err-second-clause-is : goal.returns-in_err-second-clause-is
returns-in_err-second-clause-is c =
    c.from_residual-in_err-second.ensures
    ∙ sym (character_pair c.args.bytes.now _ _ (sym c.code_unit.ensures.is ∙ c.in_ok-first.was) c.in_default.ensures.value
    (sym (ap code_unit (take_rest c.args.bytes.now 6)) ∙ sym c.code_unit-2.ensures.is ∙ c.in_err-second.was))

pub returns-in_err-pair-clause-is : goal.returns-in_err-pair-clause-is
returns-in_err-pair-clause-is c =
    c.from_residual-in_err-pair.ensures ∙ ap (taking 12) (sym c.in_err-pair.was ∙ c.pair.ensures)
    ∙ sym (character_pair c.args.bytes.now _ _ (sym c.code_unit.ensures.is ∙ c.in_ok-first.was) c.in_default.ensures.value
    (sym (ap code_unit (take_rest c.args.bytes.now 6)) ∙ sym c.code_unit-2.ensures.is ∙ c.in_ok-second.was))

pub returns-clause-is : goal.returns-clause-is
returns-clause-is c =
    ap (taking 12) (sym c.in_ok-pair.was ∙ c.pair.ensures)
    ∙ sym (character_pair c.args.bytes.now _ _ (sym c.code_unit.ensures.is ∙ c.in_ok-first.was) c.in_default.ensures.value
    (sym (ap code_unit (take_rest c.args.bytes.now 6)) ∙ sym c.code_unit-2.ensures.is ∙ c.in_ok-second.was))
