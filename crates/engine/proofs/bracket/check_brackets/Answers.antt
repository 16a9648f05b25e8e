use Rattle.std.proofs.Common.{◌≡◌, Some, sym, ap, ◌∙◌, arith, rules}
use Rattle.std.specs.Result.{result_err}
use Rattle.tokens.specs.Reads.{meant}
use Rattle.engine.specs.declared.bracket.BracketFault.TheVariants.{Unopened}
use Rattle.engine.specs.Brackets.{fault_from}
use Rattle.engine.specs.Units.{units}
use Rattle.engine.proofs.BracketLaws.{fault_on, fault_stuck, fault_end, depth_bound}
use Rattle.engine.proofs.Units.{no_units}
use Rattle.engine.proofs.bracket.check_brackets.Goals as goal

pub returns-in_err-open-clause-fault : goal.returns-in_err-open-clause-fault
returns-in_err-open-clause-fault c =
    let d = c.loop-unit.open.depth in
    let e = c.loop-unit.open.ending in
    let said : result_err c.from_residual.result ≡ Some Unopened = search rules in
    said ∙ sym (fault_stuck d e (meant c.in-Some.unit) (units c.next.new.self.parser.rest.now) c.in_err-open.ensures.0)
    ∙ ap (fault_from d e) (sym c.in-Some.ensures.steps.heads) ∙ c.loop-unit.invariant.1

pub loop-unit-preserved : goal.loop-unit-preserved
loop-unit-preserved c =
    let d = c.loop-unit.open.depth in
    let e = c.loop-unit.open.ending in
    let u = meant c.in-Some.unit in
    let after = c.in_ok-open.open in
    let us = units c.next.new.self.parser.rest.now in
    let on = c.in_ok-open.ensures.0 in (
      omega (arith, c.in-Some.ensures.steps.shorter, depth_bound d after.depth u on, c.loop-unit.invariant.0),
      ap (λ f. fault_from after.depth f us) c.in_ok-open.ensures.1
          ∙ sym (fault_on d after.depth e u us on) ∙ ap (fault_from d e) (sym c.in-Some.ensures.steps.heads) ∙ c.loop-unit.invariant.1,
    )

pub returns-clause-fault : goal.returns-clause-fault
returns-clause-fault c =
    let d = c.loop-unit.open.depth in
    let e = c.loop-unit.open.ending in
    c.answer.ensures ∙ sym (fault_end d e) ∙ ap (fault_from d e) (sym (no_units _ c.in-None.ensures.steps.0)) ∙ c.loop-unit.invariant.1
