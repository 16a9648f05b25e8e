use Rattle.std.proofs.Common.{◌≡◌, ℕ, ◌<◌, List, ◌++◌, length, take, drop, sym, ap, ◌∙◌, Some, refl, subst, arith, length-drop}
use Rattle.std.proofs.lemmas.Bool.{eqb-true, eqb-false}
use Rattle.std.proofs.lemmas.List.{nil_from_length}
use Rattle.tokens.specs.Posix.{bracket_here, left_from}
use Rattle.tokens.proofs.PosixLaws.{past_a_bracket, past_the_end}
use Rattle.tokens.proofs.posix.WithProperties.write_inside.Goals as goal

pub returns-then-is_empty : goal.returns-then-is_empty
returns-then-is_empty c =
    let xs = c.args.self.now.parser.rest.now in
    let none = sym c.rest-text.ensures ∙ nil_from_length c.rest-text.result.now (eqb-true _ 0 (sym c.is_empty.ensures ∙ c.if-is_empty.true)) in
    (ap (λ k. left_from k xs) c.requires ∙ past_the_end c.args.walker xs none, refl)

pub returns-in-Some : goal.returns-in-Some
returns-in-Some c =
    let xs = c.args.self.now.parser.rest.now in
    let past = past_a_bracket c.args.walker c.pass_bracket.new.self xs c.advance.new.self.rest.now c.in-Some.bracket (ap (bracket_here c.args.walker) (sym c.rest-text.ensures) ∙ sym c.in-Some.ensures) c.pass_bracket.ensures
    c.advance.ensures.left in (
      past.0,
      c.properties.result.now,
      ap (λ k. left_from k xs) c.requires ∙ past.1 ∙ ap (λ us. us ++ left_from (Some c.pass_bracket.new.self) c.advance.new.self.rest.now) (sym c.properties.ensures),
      c.extend.ensures,
    )

pub returns : goal.returns
returns c =
    let xs = c.args.self.now.parser.rest.now in
    let ys = c.advance-2.new.self.rest.now in
    let run = c.run_in_class-run.result in
    let told = c.run_in_class-run.ensures in
    let some : 0 < length c.rest-text.result.now = (let filled = eqb-false _ 0 (sym c.is_empty.ensures ∙ c.if-is_empty.false) in omega (arith, filled)) in
    let stays : left_from (Some c.args.walker) xs ≡ take run.length xs ++ left_from run.behind (drop run.length xs) =
    subst (λ (zs : List ℕ). left_from (Some c.args.walker) zs ≡ take run.length zs ++ left_from run.behind (drop run.length zs)) c.rest-text.ensures told.stays in (
      omega (arith, told.goes_on (sym c.in_default.ensures) some, told.within, ap length c.rest-text.ensures, ap length c.advance-2.ensures.left, length-drop run.length xs),
      c.advance-2.result.now,
      ap (λ k. left_from k xs) c.requires ∙ stays
          ∙ ap (λ us. us ++ left_from run.behind (drop run.length xs)) (sym c.advance-2.ensures.taken) ∙ ap (λ zs. c.advance-2.result.now ++ left_from run.behind zs) (sym c.advance-2.ensures.left),
      c.extend-2.ensures,
    )
