-- The children of a value, one after another.
use Rattle.std.proofs.Common.{◌≡◌, ℕ, ◌+◌, ◌<◌, cond, ltb, List, [], ◌∷◌, ◌++◌, length, Some, None, Option, Bool, true, false, refl, sym, ap, ◌∙◌, arith}
use Rattle.std.specs.Bool.{then_some}
use Rattle.std.proofs.lemmas.Bool.{cond-true, cond-false, lt-ltb, le-ltb}
use Rattle.tree_rule.specs.declared.node.RawNode.{RawNode}
use Rattle.tree_rule.specs.Nodes.{at, from, children, Forward}
use Rattle.tree_rule.specs.Rule.{Formed, Leaf}
use Rattle.tree.specs.Questions.{held, front, item_numbers, entry_numbers}
use Rattle.tree.specs.Values.{Value, Items, Entries, other, boolean, integer, string, list, map, no_item, item, no_entry, entry, Stands, Row, Pairs, number}
use Rattle.tree_rule.proofs.Walks.{from_here, from_past}

-- the nodes from c to e, each where the one before ends
abbrev Chain : List RawNode → ℕ → ℕ → List ℕ → Type 0
Chain ns c e [] = c ≡ e
Chain ns c e (k ∷ ks) = (k ≡ c) × (c < e) × Chain ns (at ns c).end e ks

pub stands_number : (ns : List RawNode) (text : List ℕ) (i : ℕ) (v : Value) → Stands ns text i v → number v ≡ i
stands_number ns text i (other n) s = s.0
stands_number ns text i (boolean n b) s = s.0
stands_number ns text i (integer n z) s = s.0
stands_number ns text i (string n bs) s = s.0
stands_number ns text i (list n vs) s = s.0
stands_number ns text i (map n es) s = s.0

row_chain : (ns : List RawNode) (text : List ℕ) (c e : ℕ) (vs : Items) → Row ns text c e vs → Chain ns c e (item_numbers vs)
row_chain ns text c e no_item s = s
row_chain ns text c e (item v vs) s = (stands_number ns text c v s.1, s.0, row_chain ns text (at ns c).end e vs s.2)

pairs_chain : (ns : List RawNode) (text : List ℕ) (c e : ℕ) (es : Entries) → Pairs ns text c e es → Chain ns c e (entry_numbers es)
pairs_chain ns text c e no_entry s = s
pairs_chain ns text c e (entry k v es) s = (
  stands_number ns text c k s.1,
  s.0,
  (stands_number ns text (at ns c).end v s.3, s.2, pairs_chain ns text (at ns (at ns c).end).end e es s.4),
)

held_chain : (ns : List RawNode) (text : List ℕ) (i : ℕ) (v : Value) → Leaf (at ns i) i → Stands ns text i v →
    Chain ns (i + 1) (at ns i).end (held v)
held_chain ns text i (other n) leaf s = sym (leaf (omega (arith, s.1)))
held_chain ns text i (boolean n b) leaf s = sym (leaf (omega (arith, s.1)))
held_chain ns text i (integer n z) leaf s = sym (leaf (omega (arith, s.1)))
held_chain ns text i (string n bs) leaf s = sym (leaf (omega (arith, s.1)))
held_chain ns text i (list n vs) leaf s = row_chain ns text (i + 1) (at ns i).end vs s.2
held_chain ns text i (map n es) leaf s = pairs_chain ns text (i + 1) (at ns i).end es s.2

chain_from : (ns : List RawNode) (c e : ℕ) (ks : List ℕ) → Forward ns e → Chain ns c e ks → from ns e c ≡ ks
chain_from ns c e [] fw s = from_past ns e c (omega arith)
chain_from ns c e (k ∷ ks) fw s =
    from_here ns e c fw s.1
    ∙ ap (λ (xs : List ℕ). c ∷ xs) (chain_from ns (at ns c).end e ks fw s.2)
    ∙ ap (λ (x : ℕ). x ∷ ks) (sym s.0)

-- the children of a value are those of its node
pub held_children : (ns : List RawNode) (text : List ℕ) (i : ℕ) (v : Value) → Forward ns (at ns i).end → Leaf (at ns i) i →
    Stands ns text i v → children ns i ≡ held v
held_children ns text i v fw leaf s = chain_from ns (i + 1) (at ns i).end (held v) fw (held_chain ns text i v leaf s)

then_cond : (b : Bool) (x : ℕ) → cond b (Some x) None ≡ then_some b x
then_cond true x = refl
then_cond false x = refl

chain_front : (ns : List RawNode) (c e : ℕ) (ks : List ℕ) → Chain ns c e ks → front ks ≡ cond (ltb c e) (Some c) None
chain_front ns c e [] s = sym (cond-false (ltb c e) (Some c) None (le-ltb c e (omega arith)))
chain_front ns c e (k ∷ ks) s = ap Some s.0 ∙ sym (cond-true (ltb c e) (Some c) None (lt-ltb c e s.1))

chain_next : (ns : List RawNode) (c e : ℕ) (ks : List ℕ) (before : List ℕ) (child : ℕ) (after : List ℕ) → Chain ns c e ks →
    ks ≡ before ++ child ∷ after → front after ≡ cond (ltb (at ns child).end e) (Some (at ns child).end) None
chain_next ns c e [] [] child after s p = let z : ◌≡◌ {A = ℕ} 0 1 = cc in absurd (omega arith)
chain_next ns c e [] (b ∷ bs) child after s p = let z : ◌≡◌ {A = ℕ} 0 1 = cc in absurd (omega arith)
chain_next ns c e (k ∷ ks) [] child after s p =
    let q : ks ≡ after = cc in
    let r : child ≡ c = cc s.0 in
    let f = chain_front ns (at ns c).end e ks s.2 in
    sym (ap front q) ∙ f ∙ ap (λ (x : ℕ). cond (ltb (at ns x).end e) (Some (at ns x).end) None) (sym r)
chain_next ns c e (k ∷ ks) (b ∷ bs) child after s p =
    let q : ks ≡ bs ++ child ∷ after = cc in chain_next ns (at ns c).end e ks bs child after s.2 q

-- end is the end of node i, and decides whether it has a child
pub first_answered : (ns : List RawNode) (text : List ℕ) (i end : ℕ) (o : Option ℕ) → Formed ns text → i < length ns →
    end ≡ (at ns i).end → o ≡ then_some (ltb (i + 1) end) (i + 1) →
    (v : Value) → Stands ns text i v → Some (front (held v)) ≡ Some o
first_answered ns text i end o t h p q v s =
    let f = chain_front ns (i + 1) (at ns i).end (held v) (held_chain ns text i v (t.nodes i h).leaf s) in
    let g : o ≡ then_some (ltb (i + 1) (at ns i).end) (i + 1) = rw (← p) q in
    ap Some (f ∙ then_cond _ _ ∙ sym g)

-- end is the end of node i, and next that of its child; they decide whether another child follows
pub next_answered : (ns : List RawNode) (text : List ℕ) (i child end next : ℕ) (o : Option ℕ) → Formed ns text → i < length ns →
    end ≡ (at ns i).end → next ≡ (at ns child).end → o ≡ then_some (ltb next end) next →
    (v : Value) (before after : List ℕ) → Stands ns text i v → held v ≡ before ++ child ∷ after → o ≡ front after
next_answered ns text i child end next o t h p q r v before after s e =
    let f = chain_next ns (i + 1) (at ns i).end (held v) before child after (held_chain ns text i v (t.nodes i h).leaf s) e in
    let g : o ≡ then_some (ltb (at ns child).end (at ns i).end) (at ns child).end = rw (← p, ← q) r in
    g ∙ sym (f ∙ then_cond _ _)
