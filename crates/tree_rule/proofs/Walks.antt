-- Laws of the walk over children.
use Rattle.std.proofs.Common.{◌≡◌, ℕ, zero, suc, ◌+◌, ◌<◌, ◌≤◌, ltb, ◌⊎◌, List, [], ◌∷◌, length, sym, refl, ap, ◌∙◌, inl, inr, arith, lit≤}
use Rattle.std.specs.List.{AllByRecursion}
use Rattle.std.proofs.ByRecursion.{All-weaker}
use Rattle.std.proofs.lemmas.Bool.{cond-true, cond-false, lt-ltb, le-ltb, cases_lt}
use Rattle.tree_rule.specs.declared.node.RawNode.{RawNode}
use Rattle.tree_rule.specs.Nodes.{at, walk, from, children, Forward}
use Rattle.tree_rule.specs.Rule.{Ended}

pub forward : (ns : List RawNode) (i : ℕ) → Ended ns → i < length ns → Forward ns (at ns i).end
forward ns i ended h k l = (ended k (omega (arith, (ended i h).1))).0

walk_here : (most : ℕ) (ns : List RawNode) (e c : ℕ) → c < e → walk (suc most) ns e c ≡ c ∷ walk most ns e (at ns c).end
unfolding walk
walk_here most ns e c h = cond-true (ltb c e) _ _ (lt-ltb c e h)

walk_past : (most : ℕ) (ns : List RawNode) (e c : ℕ) → e ≤ c → walk most ns e c ≡ []
unfolding walk
walk_past zero ns e c h = refl
walk_past (suc most) ns e c h = cond-false (ltb c e) _ _ (le-ltb c e h)

either : (f g : ℕ) (ns : List RawNode) (e c : ℕ) → (c < e) ⊎ (e ≤ c) →
    (c < e → walk f ns e (at ns c).end ≡ walk g ns e (at ns c).end) → walk (suc f) ns e c ≡ walk (suc g) ns e c
either f g ns e c (inl l) next =
    walk_here f ns e c l ∙ ap (λ (xs : List ℕ). c ∷ xs) (next l) ∙ sym (walk_here g ns e c l)
either f g ns e c (inr l) next = walk_past (suc f) ns e c l ∙ sym (walk_past (suc g) ns e c l)

-- more steps than there are nodes make no difference
walk_enough : (f g : ℕ) (ns : List RawNode) (e c : ℕ) → Forward ns e → e ≤ c + f → e ≤ c + g → walk f ns e c ≡ walk g ns e c
walk_enough zero g ns e c fw h k = walk_past zero ns e c (omega arith) ∙ sym (walk_past g ns e c (omega arith))
walk_enough (suc f) zero ns e c fw h k = walk_past (suc f) ns e c (omega arith) ∙ sym (walk_past zero ns e c (omega arith))
walk_enough (suc f) (suc g) ns e c fw h k =
    either f g ns e c (cases_lt c e)
    (λ l. let up = fw c l in walk_enough f g ns e (at ns c).end fw (omega arith) (omega arith))

below : (most : ℕ) (ns : List RawNode) (e c : ℕ) → (c < e) ⊎ (e ≤ c) → AllByRecursion (λ k. k < e) (walk most ns e (at ns c).end) →
    AllByRecursion (λ k. k < e) (walk (suc most) ns e c)
below most ns e c (inl h) b = let w = walk_here most ns e c h in rw w (h, b)
below most ns e c (inr h) b = let w = walk_past (suc most) ns e c h in rw w tt

walk_below : (most : ℕ) (ns : List RawNode) (e c : ℕ) → AllByRecursion (λ k. k < e) (walk most ns e c)
unfolding walk
walk_below zero ns e c = tt
walk_below (suc most) ns e c = below most ns e c (cases_lt c e) (walk_below most ns e (at ns c).end)

-- the walk stays below the end
pub from_below : (ns : List RawNode) (e c : ℕ) → AllByRecursion (λ k. k < e) (from ns e c)
from_below ns e c = walk_below e ns e c

long : (most : ℕ) (ns : List RawNode) (e c : ℕ) → (c < e) ⊎ (e ≤ c) → length (walk most ns e (at ns c).end) ≤ most →
    length (walk (suc most) ns e c) ≤ suc most
long most ns e c (inl h) b = omega (arith, ap length (walk_here most ns e c h))
long most ns e c (inr h) b = omega (arith, ap length (walk_past (suc most) ns e c h))

walk_length : (most : ℕ) (ns : List RawNode) (e c : ℕ) → length (walk most ns e c) ≤ most
unfolding walk
walk_length zero ns e c = lit≤ tt
walk_length (suc most) ns e c = long most ns e c (cases_lt c e) (walk_length most ns e (at ns c).end)

-- there are no more children than nodes before the end
pub from_length : (ns : List RawNode) (e c : ℕ) → length (from ns e c) ≤ e
from_length ns e c = walk_length e ns e c

-- a node's children are among the nodes
pub children_within : (ns : List RawNode) (i : ℕ) → Ended ns → i < length ns → AllByRecursion (λ k. k < length ns) (children ns i)
children_within ns i ended h =
    let up = (ended i h).1 in
    All-weaker (λ k. k < (at ns i).end) (λ k. k < length ns) (λ k l. omega arith) (children ns i) (from_below ns (at ns i).end (i + 1))

pub from_past : (ns : List RawNode) (e c : ℕ) → e ≤ c → from ns e c ≡ []
from_past ns e c h = walk_past e ns e c h

one_less : (e : ℕ) (ns : List RawNode) (c : ℕ) → Forward ns e → c < e → walk e ns e c ≡ c ∷ walk e ns e (at ns c).end
one_less zero ns c fw l = absurd (omega arith)
one_less (suc e) ns c fw l =
    let up = fw c l in
    walk_here e ns (suc e) c l
    ∙ ap (λ (xs : List ℕ). c ∷ xs) (walk_enough e (suc e) ns (suc e) (at ns c).end fw (omega arith) (omega arith))

pub from_here : (ns : List RawNode) (e c : ℕ) → Forward ns e → c < e → from ns e c ≡ c ∷ from ns e (at ns c).end
from_here ns e c fw l = one_less e ns c fw l

-- what holds of each node from here on holds of this one and of each behind it
pub all_here : (P : ℕ → Type 0) (ns : List RawNode) (e c : ℕ) → Forward ns e → c < e →
    AllByRecursion P (from ns e c) → P c × AllByRecursion P (from ns e (at ns c).end)
all_here P ns e c fw l h = let e = from_here ns e c fw l in rw e at h
