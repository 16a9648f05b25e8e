use Rattle.std.proofs.Common.{refl}
use Rattle.tokens.proofs.Tokens.{taken_class}
use Rattle.tokens.proofs.parser.Parser.parse_character_class.Goals as goal

pub returns : goal.returns
returns c = taken_class c.args.self.now.rest.now c.next.new.self.rest.now c.advance.new.self.rest.now
    c.class_extent-extent.result.length _ c.class_extent-extent.result.matches_newline
    c.requires c.next.ensures c.class_extent-extent.ensures.length refl
    c.advance.ensures.left c.class_extent-extent.ensures.newline
