use Rattle.std.proofs.Common.{◌++◌, sym, ap, refl, ◌∙◌}
use Rattle.groups.specs.Captures.{listed, marks, numbers_from}
use Rattle.groups.proofs.Marks.{no_marks}
use Rattle.groups.proofs.captures.GroupNumbersPiecesUsize.write_next.Goals as goal

pub returns-in_err-mark : goal.returns-in_err-mark
returns-in_err-mark c =
    let s = c.args.self.now in
    rw c.from_residual.ensures (
      ap (λ whole. listed whole ++ numbers_from s.numbering.lookaround_depth s.numbering.number (marks s.parser.rest.now)) (sym c.in_default.ensures.value)
          ∙ ap (numbers_from s.numbering.lookaround_depth s.numbering.number) (no_marks _ c.in_err-mark.ensures.0),
      refl,
    )
