use Rattle.std.proofs.Common.{[], length, sym, refl, ap, ◌∙◌, subst, inl, inr, arith}
use Rattle.std.proofs.lemmas.List.{append-nil}
use Rattle.std.proofs.lemmas.Result.{err_from_is_err_and}
use Rattle.flow.proofs.Pieces.{so_far_more, inside_closed}
use Rattle.flow.proofs.Stopping.{within_more}
use Rattle.flow.specs.Stops.{Within, begins}
use Rattle.flow.proofs.cursor.Cursor.read_bytes.Goals as goal

pub returns-then-byte-eq34-clause-text : goal.returns-then-byte-eq34-clause-text
returns-then-byte-eq34-clause-text c =
    let here = c.in-Some.ensures in
    inside_closed _ _ _ _ _ _ _ (ap (λ b. b.now) c.loop-byte.invariant.input) c.loop-byte.invariant.text here.0 (here.1 ∙ c.if-byte-eq34.true)
    c.skip.ensures.place

pub loop-byte-init : goal.loop-byte-init
loop-byte-init c = record {
  input = refl;
  onward = omega arith;
  nodes = refl;
  text = record { these = []; written = sym (append-nil _); is = λ those rest i. i };
  within = begins;
}

pub loop-byte-preserved : goal.loop-byte-preserved
loop-byte-preserved c =
    let here = c.in-Some.ensures in
    record {
      input = c.read_piece.ensures.input ∙ c.loop-byte.invariant.input;
      onward = omega (arith, c.in_ok-read_piece.ensures.onward);
      nodes = c.read_piece.ensures.nodes ∙ c.loop-byte.invariant.nodes;
      text = so_far_more _ _ _ _ _ _ _ _ (ap (λ b. b.now) c.loop-byte.invariant.input) c.loop-byte.invariant.text here.0
          (λ e. c.if-byte-eq34.false (sym here.1 ∙ e)) c.in_ok-read_piece.ensures.text;
      within = within_more _ _ _ _ _ _ _ (ap (λ b. b.now) c.loop-byte.invariant.input) c.loop-byte.invariant.within (λ e. c.if-byte-eq34.false (sym here.1 ∙ e))
          c.in_ok-read_piece.ensures.text;
    }

pub returns-in_err-read_piece-clause-stops : goal.returns-in_err-read_piece-clause-stops
returns-in_err-read_piece-clause-stops c =
    let p = err_from_is_err_and c.from_residual.result c.from_residual.ensures.1 in
    let s = c.in_err-read_piece.ensures.stops in
    rw (p.1, p.2) (subst (λ n. Within c.args.self.now.input.now c.args.self.now.place n) (sym s.0) c.loop-byte.invariant.within, inr s.1)

pub returns-clause-stops : goal.returns-clause-stops
returns-clause-stops c =
    rw c.misread.ensures (c.loop-byte.invariant.within, inl (refl, c.in_default.ensures ∙ ap (λ b. length b.now) c.loop-byte.invariant.input))
