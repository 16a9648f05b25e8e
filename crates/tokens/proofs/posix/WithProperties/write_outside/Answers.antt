use Rattle.std.proofs.Common.{◌≡◌, ◌-◌, ◌++◌, length, take, drop, sym, ap, ◌∙◌, Some, refl, subst}
use Rattle.std.specs.List.{flat_map}
use Rattle.tokens.specs.Classes.{opened}
use Rattle.tokens.specs.Cursor.{front}
use Rattle.tokens.specs.Reads.{meant}
use Rattle.tokens.specs.Tokens.{spelled}
use Rattle.tokens.specs.Posix.{WroteFrom, left_from, token_with_properties}
use Rattle.tokens.proofs.PosixLaws.{behind_first, past_an_opened_run, past_a_token}
use Rattle.tokens.proofs.Tokens.{front_none, no_tokens}
use Rattle.tokens.proofs.posix.WithProperties.write_outside.Goals as goal

pub returns-in_err-peek : goal.returns-in_err-peek
returns-in_err-peek c =
    let xs = c.args.self.now.parser.rest.now in
    subst (λ r. WroteFrom c.args.self.now.class xs c.args.self.now.class xs r c.args.out.now.items c.args.out.now.items) (sym c.from_residual.ensures)
    (ap (λ k. left_from k xs) c.requires ∙ ap (flat_map token_with_properties) (no_tokens xs (front_none xs (sym c.in_err-peek.ensures))), refl)

pub returns-then-branch-eq91 : goal.returns-then-branch-eq91
returns-then-branch-eq91 c =
    let xs = c.args.self.now.parser.rest.now in
    let zs = c.advance.new.self.rest.now in
    let run = c.run_in_class-run.result in
    let at_91 = sym c.in_ok-peek.ensures ∙ ap Some c.if-branch-eq91.true in
    let text = c.rest-text.result.now in
    let behind = take (length text - 1) (drop 1 text) in
    let same : behind ≡ drop 1 xs = behind_first text ∙ ap (drop 1) c.rest-text.ensures in
    let stays : left_from (Some opened) (drop 1 xs) ≡ take run.length (drop 1 xs) ++ left_from run.behind (drop run.length (drop 1 xs)) =
    subst (λ us. left_from (Some opened) us ≡ take run.length us ++ left_from run.behind (drop run.length us)) same
    (ap (λ w. left_from (Some w) behind) (sym c.new.ensures) ∙ c.run_in_class-run.ensures.stays) in
    let past = past_an_opened_run xs (drop 1 xs) zs run.length run.behind at_91 refl stays c.advance.ensures.left in (
      past.0,
      c.advance.result.now,
      ap (λ k. left_from k xs) c.requires ∙ past.1 ∙ ap (λ us. us ++ left_from run.behind zs) (sym c.advance.ensures.taken),
      c.extend.ensures,
    )

pub returns : goal.returns
returns c =
    let xs = c.args.self.now.parser.rest.now in
    let ys = c.token.new.self.rest.now in
    let other : front xs ≡ Some 91 → ⊥ = λ e. c.if-branch-eq91.false (let same : Some c.in_ok-peek.field-0 ≡ Some 91 = c.in_ok-peek.ensures ∙ e in cc) in (
      c.in_ok-token.ensures.shorter,
      spelled (meant c.in_ok-token.token),
      ap (λ k. left_from k xs) c.requires ∙ past_a_token c.in_ok-token.token xs ys other c.in_ok-token.ensures
          ∙ ap (λ k. spelled (meant c.in_ok-token.token) ++ left_from k ys) (sym c.requires),
      c.write_token.ensures,
    )
