use Rattle.std.proofs.Common.{length, drop, sym, ap, ◌∙◌}
use Rattle.std.proofs.lemmas.Bool.{eqb-true}
use Rattle.flow.proofs.Blanks.{all_blanks}
use Rattle.flow.proofs.cursor.Cursor.read_end.Goals as goal

pub returns-clause-is : goal.returns-clause-is
returns-clause-is c =
    all_blanks c.args.self.now.input.now c.args.self.now.place c.skip_blanks.new.self.place c.skip_blanks.ensures.place
    (ap (λ bs. length (drop c.skip_blanks.new.self.place bs.now)) (sym c.skip_blanks.ensures.input) ∙ ap length (sym c.rest.ensures)
    ∙ eqb-true _ _ (sym c.is_empty.ensures ∙ c.if-not-is_empty.false))
