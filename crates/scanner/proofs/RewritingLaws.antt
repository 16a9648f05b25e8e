-- The laws of rewriting, together.
use Rattle.tokens.proofs.Tokens.{tokens_joined}
use Rattle.scanner.specs.Laws.{RewritingLaws}
use Rattle.scanner.proofs.CommentLaws as comments
use Rattle.scanner.proofs.Examples.{worked_examples}
use Rattle.scanner.proofs.UnchangedLaws as unchanged
use Rattle.scanner.proofs.Utf8Laws as utf8

pub rewriting_laws : RewritingLaws
rewriting_laws = record {
  joined_tokens = tokens_joined;
  newlines_unchanged = unchanged.newlines_unchanged;
  no_newlines_unchanged = unchanged.no_newlines_unchanged;
  properties_unchanged = unchanged.properties_unchanged;
  newlines_keep_comments = comments.newlines_keep_comments;
  no_newlines_keep_comments = comments.no_newlines_keep_comments;
  properties_keep_comments = comments.properties_keep_comments;
  newlines_utf8 = utf8.newlines_utf8;
  no_newlines_utf8 = utf8.no_newlines_utf8;
  properties_utf8 = utf8.properties_utf8;
  examples = worked_examples;
}
