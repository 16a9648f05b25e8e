use Rattle.tokens.proofs.Tokens.{taken_plain}
use Rattle.tokens.proofs.parser.Parser.plain.Goals as goal

pub returns : goal.returns
returns c =
    taken_plain c.args.self.now.rest.now c.next.new.self.rest.now c.args.byte c.requires.at_front c.requires.begins_no_other.0 c.requires.begins_no_other.1 c.requires.begins_no_other.2 c.next.ensures
