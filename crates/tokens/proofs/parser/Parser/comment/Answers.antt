use Rattle.std.proofs.Common.{ℕ, take, drop, ap, ◌∙◌}
use Rattle.tokens.proofs.Tokens.{taken_comment}
use Rattle.tokens.proofs.parser.Parser.comment.Goals as goal

pub returns : goal.returns
returns c =
    let xs = c.args.self.now.rest.now in
    taken_comment xs c.advance.new.self.rest.now c.advance.result c.requires.0 c.requires.1
    (c.advance.ensures.taken ∙ ap (λ (n : ℕ). take n xs) c.comment_length-length.ensures)
    (c.advance.ensures.left ∙ ap (λ (n : ℕ). drop n xs) c.comment_length-length.ensures)
