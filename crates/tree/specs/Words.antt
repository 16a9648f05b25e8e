-- What is printed of a question that has no answer.
use Rattle.std.specs.Prelude.{ℕ, List, codes}
use Rattle.tree.specs.declared.unanswered.Unanswered.{Unanswered}
use Rattle.tree.specs.declared.unanswered.Unanswered.TheVariants.{NoSuchNode, OtherKind}

abbrev pub unanswered_words : Unanswered → List ℕ
unanswered_words NoSuchNode = codes "the tree has no node of this number"
unanswered_words OtherKind = codes "nodes of this kind do not answer this question"
