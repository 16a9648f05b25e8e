use Rattle.std.proofs.Common.{◌≡◌, ◌+◌, ◌≤◌, drop}
use Rattle.tokens.specs.Classes.{opened}
use Rattle.tokens.specs.Tokens.{class_length, closed_in, newline_in}
use Rattle.tokens.proofs.class.class_extent.Given as goal

-- what is left of the walk gives the answers of the whole
abbrev pub invariant-loop-before : goal.invariant-loop-before
invariant-loop-before l =
    record {
      shallow : l.walker.depth ≤ l.before;
      length : l.before + class_length l.walker (drop l.before l.behind) ≡ class_length opened l.behind;
      newline : newline_in l.walker (drop l.before l.behind) ≡ newline_in opened l.behind;
      closed : closed_in l.walker (drop l.before l.behind) ≡ closed_in opened l.behind;
    }
