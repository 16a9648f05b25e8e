use Rattle.std.proofs.Common.{◌≡◌, sym, ap, drop, ◌∙◌, Some, None, arith}
use Rattle.std.specs.Option.{is_some}
use Rattle.std.proofs.lemmas.Bool.{cond-true, cond-false}
use Rattle.std.proofs.lemmas.Grind.{common_steps}
use Rattle.tokens.specs.Posix.{bracket_here}
use Rattle.tokens.proofs.PosixLaws.{none_found, none_begins, run_on}
use Rattle.tokens.proofs.posix.run_in_class.Goals as goal
use Rattle.tokens.proofs.posix.run_in_class.Goals.{else-byte-eq91-via-then-byte-eq91+else-is_some, else-byte-eq91-via-else-byte-eq91}

pub returns-then-step-clause-stays : goal.returns-then-step-clause-stays
returns-then-step-clause-stays c =
    let xs = c.args.text.now in
    let n = c.loop-before.before in
    let v = c.loop-before.walker in
    let none : bracket_here v (drop n xs) ≡ None =
    elim c.else-byte-eq91.branch [
      | else-byte-eq91-via-then-byte-eq91+else-is_some w ↦ none_found v xs n (ap is_some (sym w.bracket_here.ensures) ∙ sym w.is_some.ensures ∙ w.if-is_some.false)
      | else-byte-eq91-via-else-byte-eq91 w ↦ none_begins v xs n c.loop-before-test.true w.if-byte-eq91.false
    ] in
    run_on c.args.walker v xs n None c.loop-before-test.true none (cond-true _ _ _ (sym c.step.ensures.closing ∙ c.if-step.true)) c.loop-before.invariant.stays

pub loop-before-preserved : goal.loop-before-preserved
loop-before-preserved c =
    let xs = c.args.text.now in
    let n = c.loop-before.before in
    let v = c.loop-before.walker in
    let none : bracket_here v (drop n xs) ≡ None =
    elim c.else-byte-eq91.branch [
      | else-byte-eq91-via-then-byte-eq91+else-is_some w ↦ none_found v xs n (ap is_some (sym w.bracket_here.ensures) ∙ sym w.is_some.ensures ∙ w.if-is_some.false)
      | else-byte-eq91-via-else-byte-eq91 w ↦ none_begins v xs n c.loop-before-test.true w.if-byte-eq91.false
    ] in
    record {
      fresh = λ e. absurd (omega (arith, e));
      shallow = grind (arith, common_steps);
      stays = run_on c.args.walker v xs n (Some c.step.new.self) c.loop-before-test.true none
          (cond-false _ _ _ (sym c.step.ensures.closing ∙ c.if-step.false) ∙ ap Some (sym c.step.ensures.after)) c.loop-before.invariant.stays;
    }
