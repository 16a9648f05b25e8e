use Rattle.std.proofs.Common.{ap, refl}
use Rattle.std.specs.List.{flat_map}
use Rattle.newlines.specs.Newlines.{with_newline}
use Rattle.tokens.proofs.Tokens.{no_tokens}
use Rattle.newlines.proofs.newlines.ForNewlinesPiecesU8.write_next.Goals as goal

pub returns-in_err-token : goal.returns-in_err-token
returns-in_err-token c = rw c.from_residual.ensures (ap (flat_map with_newline) (no_tokens _ c.in_err-token.ensures.0), refl)
