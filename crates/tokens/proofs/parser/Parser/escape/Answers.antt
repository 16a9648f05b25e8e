use Rattle.std.proofs.Common.{sym}
use Rattle.tokens.proofs.Tokens.{taken_final, taken_escape}
use Rattle.tokens.proofs.parser.Parser.escape.Goals as goal

pub returns-in_default : goal.returns-in_default
returns-in_default c =
    taken_final c.args.self.now.rest.now c.next.new.self.rest.now c.requires c.next.ensures (sym c.in_default.ensures)

pub returns : goal.returns
returns c =
    taken_escape c.args.self.now.rest.now c.next.new.self.rest.now c.next-2.new.self.rest.now c.in-Some.escaped
    c.requires c.next.ensures (sym c.in-Some.ensures) c.next-2.ensures
