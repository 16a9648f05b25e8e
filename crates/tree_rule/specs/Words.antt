-- What is printed of refusals and kinds.
use Rattle.std.specs.Prelude.{ℕ, List, ◌++◌, codes}
use Rattle.std.specs.Fmt.{decimal}
use Rattle.tree_rule.specs.declared.node.Kind.{Kind}
use Rattle.tree_rule.specs.declared.node.Kind.TheVariants as kind
use Rattle.tree_rule.specs.declared.node.UnknownKind.{UnknownKind}
use Rattle.tree_rule.specs.declared.refusal.Fault.{Fault}
use Rattle.tree_rule.specs.declared.refusal.Fault.TheVariants as fault
use Rattle.tree_rule.specs.declared.refusal.Refusal.{Refusal}
use Rattle.tree_rule.specs.declared.refusal.Refusal.TheVariants as refusal

abbrev pub kind_word : Kind → List ℕ
kind_word kind.Other = codes "other"
kind_word kind.Boolean = codes "boolean"
kind_word kind.Integer = codes "integer"
kind_word kind.String = codes "string"
kind_word kind.List = codes "list"
kind_word kind.Map = codes "map"

abbrev pub unknown_words : UnknownKind → List ℕ
unknown_words e = codes "no kind has the number " ++ decimal e.0

abbrev pub fault_words : Fault → List ℕ
fault_words fault.UnknownKind = codes "a node has no known kind"
fault_words fault.BadBoolean = codes "a boolean is neither 0 nor 1"
fault_words fault.BadEnd = codes "a node does not end behind itself, or ends behind the last"
fault_words fault.LeafHolds = codes "a node that is neither a list nor a map holds nodes"
fault_words fault.OutsideText = codes "a string does not lie in the text"
fault_words fault.NotUtf8 = codes "a string is not UTF-8"

abbrev pub refusal_words : Refusal → List ℕ
refusal_words refusal.NodeCount = codes "there are no nodes, or too many"
refusal_words refusal.TextLength = codes "the text is too long"
refusal_words refusal.Root = codes "node 0 does not end behind the last node"
refusal_words (refusal.Node node f) = fault_words f
refusal_words (refusal.Overrun node) = codes "children do not fill their node"
refusal_words (refusal.Unpaired node) = codes "a key of a map has no value"
refusal_words refusal.TooDeep = codes "nodes nest more than 64 deep"
refusal_words (refusal.EqualKeys node) = codes "two keys of a map are equal"
