use Rattle.std.proofs.Common.{◌++◌, sym, ap, refl, subst, ◌∙◌, codes}
use Rattle.tokens.specs.Reads.{meant, Taken}
use Rattle.newlines.specs.Newlines.{token_without, without_newlines, for_no_newlines}
use Rattle.newlines.proofs.Pieces.{no_pieces, past_optional, past_other}
use Rattle.newlines.proofs.newlines.ForNoNewlinesPiecesU8.write_next.Goals as goal

pub returns-then-eat : goal.returns-then-eat
returns-then-eat c =
    let past = past_optional _ _ (sym c.if-eat.ensures.found) c.if-eat.ensures.left in
    (past.0, codes "(?:$|)", past.1, c.extend.ensures)

pub returns-in_err-token : goal.returns-in_err-token
returns-in_err-token c =
    rw c.from_residual.ensures (ap without_newlines (no_pieces _ (sym c.if-eat.ensures.left ∙ c.in_err-token.ensures.0)), refl)

pub returns : goal.returns
returns c =
    let xs = c.args.self.now.0.rest.now in
    let ys = c.token.new.self.rest.now in
    let token = c.in_ok-token.token in
    let taken = subst (λ us. Taken token us ys) c.if-eat.ensures.left c.in_ok-token.ensures in (
      taken.shorter,
      token_without (meant token) c.peek.result,
      past_other token xs ys (sym c.if-eat.ensures.found) taken ∙ ap (λ next. token_without (meant token) next ++ for_no_newlines ys) (sym c.peek.ensures),
      c.write_for_no_newlines.ensures,
    )
