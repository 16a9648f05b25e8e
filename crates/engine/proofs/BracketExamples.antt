-- The rule of the bracket engine, computed at texts that are written out.
use Rattle.std.proofs.Common.{refl}
use Rattle.tokens.specs.Cut.{cut}
use Rattle.engine.specs.Brackets.{BracketExamples}
use Rattle.engine.specs.Units.{first_unit}

pub bracket_examples : BracketExamples
unfolding cut first_unit
bracket_examples =
    record {
      empty = refl;
      fine = refl;
      unopened = refl;
      unopened_first = refl;
      unclosed = refl;
      unclosed_first = refl;
      class_left = refl;
      class_empty = refl;
      backslash = refl;
      comment = refl;
      in_comment = refl;
    }
