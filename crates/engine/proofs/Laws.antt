-- The laws of the bracket engine's rule, together.
use Rattle.engine.specs.Brackets.{BracketLaws}
use Rattle.engine.specs.Units.{units}
use Rattle.engine.proofs.BracketExamples.{bracket_examples}
use Rattle.engine.proofs.BracketLaws.{ruled, fine_parts}
use Rattle.engine.proofs.Units.{units_joined}
use Rattle.engine.proofs.UnitsAppend.{fine_before}

pub bracket_laws : BracketLaws
bracket_laws = record {
  joined_units = units_joined;
  rule = ruled;
  before = fine_before;
  balanced = λ xs fine. (fine_parts (units xs) fine).1;
  examples = bracket_examples;
}
