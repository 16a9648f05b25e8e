-- The three words.
use Rattle.std.proofs.Common.{◌≡◌, ℕ, ◌+◌, ◌≤◌, List, [], ◌∷◌, ◌++◌, length, drop, ℤ, pos, codes, sym, refl, ap, ◌∙◌, subst, arith}
use Rattle.std.proofs.lemmas.List.{drop-drop}
use Rattle.tree_rule.specs.declared.node.RawNode.{RawNode}
use Rattle.tree_rule.specs.Nodes.{raw}
use Rattle.flow.specs.declared.content.Content.{Content}
use Rattle.flow.specs.declared.content.Content.TheVariants as content
use Rattle.flow.specs.Content.{content_kind, content_number, node_of}
use Rattle.flow.specs.Flow.{Value, word}
use Rattle.flow.specs.Places.{Read}
use Rattle.flow.specs.Scalars.{Word, truth, falsehood, nothing}
use Rattle.flow.proofs.Pushed.{read_leaf}

pub at_true : (bs : List ℕ) → bs ≡ codes "true" ++ drop 4 bs → Word bs (drop 4 bs) 1 (pos 1)
at_true bs e = subst (λ (xs : List ℕ). Word xs (drop 4 bs) 1 (pos 1)) (sym e) truth

pub at_false : (bs : List ℕ) → bs ≡ codes "false" ++ drop 5 bs → Word bs (drop 5 bs) 1 (pos 0)
at_false bs e = subst (λ (xs : List ℕ). Word xs (drop 5 bs) 1 (pos 0)) (sym e) falsehood

pub at_null : (bs : List ℕ) → bs ≡ codes "null" ++ drop 4 bs → Word bs (drop 4 bs) 0 (pos 0)
at_null bs e = subst (λ (xs : List ℕ). Word xs (drop 4 bs) 0 (pos 0)) (sym e) nothing

small : {bs rest : List ℕ} {k : ℕ} {z : ℤ} → Word bs rest k z → k ≤ 1
small truth = omega arith
small falsehood = omega arith
small nothing = omega arith

-- the node of a word has only a kind and a number
word_node : (c : Content) (e : ℕ) {bs rest : List ℕ} → Word bs rest (content_kind c) (content_number c) → raw (content_kind c) e 0 0 (content_number c) ≡ node_of c e
word_node content.Null e w = refl
word_node (content.Boolean b) e w = refl
word_node (content.Integer z) e w = refl
word_node (content.Text p l) e w = absurd (omega (arith, small w))
word_node (content.Group g) e w = refl

-- a word that stands at a place
pub word_here : (input bs : List ℕ) (place end w : ℕ) (ns ms : List RawNode) (text texts : List ℕ) (c : Content) → bs ≡ drop place input → end ≡ place + w →
    Word bs (drop w bs) (content_kind c) (content_number c) → ms ≡ ns ++ node_of c (length ns + 1) ∷ [] → texts ≡ text →
    Read Value input place end ns ms text texts
word_here input bs place end w ns ms text texts c same there is pushed written =
    read_leaf Value input place end ns ms text texts (raw (content_kind c) (length ns + 1) 0 0 (content_number c))
    (word (subst (λ (xs : List ℕ). Word xs (drop end input) (content_kind c) (content_number c)) same
    (subst (λ (xs : List ℕ). Word bs xs (content_kind c) (content_number c)) (ap (drop w) same ∙ drop-drop w place input ∙ ap (λ n. drop n input) (sym there)) is)))
    (pushed ∙ ap (λ (x : RawNode). ns ++ x ∷ []) (sym (word_node c (length ns + 1) is))) written
