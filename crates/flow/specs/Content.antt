-- What is written for each thing that is read.
use Rattle.std.specs.Prelude.{ℕ, Bool, true, false, cond, ℤ, pos}
use Rattle.tree_rule.specs.declared.node.RawNode.{RawNode}
use Rattle.tree_rule.specs.Nodes.{raw}
use Rattle.flow.specs.declared.content.Group.{Group}
use Rattle.flow.specs.declared.content.Group.TheVariants.{List as AList, Map as AMap}
use Rattle.flow.specs.declared.content.Content.{Content}
use Rattle.flow.specs.declared.content.Content.TheVariants as content
use Rattle.flow.specs.Flow.{closing, kind_of, opening}

abbrev pub is_map : Group → Bool
is_map AList = false
is_map AMap = true

abbrev pub opening_of : Group → ℕ
opening_of g = opening (is_map g)

abbrev pub closing_of : Group → ℕ
closing_of g = closing (is_map g)

abbrev pub node_of : Content → ℕ → RawNode
node_of content.Null e = raw 0 e 0 0 (pos 0)
node_of (content.Boolean b) e = raw 1 e 0 0 (cond b (pos 1) (pos 0))
node_of (content.Integer z) e = raw 2 e 0 0 z
node_of (content.Text p l) e = raw 3 e p l (pos 0)
node_of (content.Group g) e = raw (kind_of (is_map g)) e 0 0 (pos 0)

-- the kind and the number of a node
abbrev pub content_kind : Content → ℕ
content_kind c = (node_of c 0).kind

abbrev pub content_number : Content → ℤ
content_number c = (node_of c 0).number
