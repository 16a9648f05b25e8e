use Rattle.std.proofs.Common.{codes}
use Rattle.std.proofs.lemmas.Slice.Eq.{starts_is}
use Rattle.flow.proofs.Words.{at_true, at_false, at_null}
use Rattle.flow.proofs.reader.word.Goals as goal
use Rattle.std.proofs.lemmas.Bool.Decides.{Decides-eqb}

pub returns-then-starts_with-clause-is : goal.returns-then-starts_with-clause-is
returns-then-starts_with-clause-is c =
    let taken = c.if-starts_with.true in
    at_true _ ((starts_is Decides-eqb c.args.bytes.now (codes "true") _ c.starts_with.ensures.value).0 taken)

pub returns-then-starts_with-2-clause-is : goal.returns-then-starts_with-2-clause-is
returns-then-starts_with-2-clause-is c =
    let taken = c.if-starts_with-2.true in
    at_false _ ((starts_is Decides-eqb c.args.bytes.now (codes "false") _ c.starts_with-2.ensures.value).0 taken)

pub returns-then-starts_with-3-clause-is : goal.returns-then-starts_with-3-clause-is
returns-then-starts_with-3-clause-is c =
    let taken = c.if-starts_with-3.true in
    at_null _ ((starts_is Decides-eqb c.args.bytes.now (codes "null") _ c.starts_with-3.ensures.value).0 taken)
