use Rattle.std.proofs.Common.{◌≡◌, ◌+◌, false, drop}
use Rattle.tokens.specs.Tokens.{comment_length}
use Rattle.tokens.proofs.parser.comment_length.Given as goal

abbrev pub invariant-loop-before : goal.invariant-loop-before
invariant-loop-before l = l.before + comment_length l.escaped (drop l.before l.text) ≡ comment_length false l.text
