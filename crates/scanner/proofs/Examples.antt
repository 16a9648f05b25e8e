-- The definitions, computed at patterns that are written out.
use Rattle.std.proofs.Common.{refl}
use Rattle.backrefs.specs.Backrefs.{first_pair}
use Rattle.groups.specs.Captures.{first_mark}
use Rattle.tokens.specs.Cut.{cut}
use Rattle.scanner.specs.Laws.{WorkedExamples}
use Rattle.newlines.specs.Newlines.{first_piece}
use Rattle.tokens.specs.Posix.{first_member}
use Rattle.tokens.specs.Tokens.{first}

pub worked_examples : WorkedExamples
unfolding cut first first_piece first_member first_mark first_pair
worked_examples =
    record {
      newlines = refl;
      negated = refl;
      class = refl;
      repeated = refl;
      optional = refl;
      optional_in_class = refl;
      posix = refl;
      posix_outside = refl;
      posix_escaped = refl;
      lookahead = refl;
      commented = refl;
      comment_ends = refl;
      comment_escape = refl;
      backslash = refl;
      backref = refl;
      placed = refl;
    }
