-- Facts of the rule have one proof at most, so a type can keep them.
use Rattle.std.specs.Prelude.{◌≡◌, ℕ, zero, suc, ◌⊎◌, List, [], ◌∷◌, ℤ, pos}
use Rattle.std.specs.List.{AllByRecursion-prop}
use Rattle.std.proofs.Common.{ap, inl, inr}
use Rattle.std.proofs.Props.{props}
use Rattle.tree_rule.specs.declared.node.RawNode.{RawNode}
use Rattle.tree_rule.specs.Nodes.{children}
use Rattle.tree_rule.specs.Refusals.{Each, Holds, Sized}
use Rattle.tree_rule.specs.Rule.{Truth, Right, InTurn, Nests, Apart, Distinct, Formed}

pub sized_prop : (ns : List RawNode) (text : List ℕ) → IsProp (Sized ns text)
sized_prop ns text = Prim.hlevel props

in_turn_prop : (ks : List ℕ) → IsProp (InTurn ks)
in_turn_prop [] = Prim.hlevel props
in_turn_prop (k ∷ []) = Prim.hlevel props
in_turn_prop (k ∷ v ∷ ks) = in_turn_prop ks

number_prop : (y z : ℤ) → IsProp (y ≡ z)
number_prop y z = Prim.hlevel props

either_prop : (z : ℤ) → IsProp ((z ≡ pos 0) ⊎ (z ≡ pos 1))
either_prop z (inl p) (inl q) = ap inl (number_prop _ _ p q)
either_prop z (inl p) (inr q) = absurd (cc)
either_prop z (inr p) (inl q) = absurd (cc)
either_prop z (inr p) (inr q) = ap inr (number_prop _ _ p q)

truth_prop : (n : RawNode) → IsProp (Truth n)
truth_prop n = Prim.hlevel (props, either_prop)

right_prop : (ns : List RawNode) (text : List ℕ) (i : ℕ) → IsProp (Right ns text i)
right_prop ns text i = Prim.hlevel (props, truth_prop)

pub each_right_prop : (ns : List RawNode) (text : List ℕ) → IsProp (Each ns (Right ns text))
each_right_prop ns text = Prim.hlevel (props, right_prop)

holds_prop : (ns : List RawNode) (i : ℕ) → IsProp (Holds ns i)
holds_prop ns i = Prim.hlevel (props, in_turn_prop)

pub each_holds_prop : (ns : List RawNode) → IsProp (Each ns (Holds ns))
each_holds_prop ns = Prim.hlevel (props, holds_prop)

nests_prop : (deep : ℕ) (ns : List RawNode) (i : ℕ) → IsProp (Nests deep ns i)
unfolding Nests
nests_prop zero ns i = Prim.hlevel props
nests_prop (suc deep) ns i = AllByRecursion-prop (Nests deep ns) (nests_prop deep ns) (children ns i)

apart_prop : (R : ℕ → ℕ → Type 0) (ks : List ℕ) → IsProp (Apart R ks)
apart_prop R [] = Prim.hlevel props
apart_prop R (k ∷ ks) = Prim.hlevel (props, apart_prop R ks)

distinct_prop : (ns : List RawNode) (text : List ℕ) (i : ℕ) → IsProp (Distinct ns text i)
distinct_prop ns text i = Prim.hlevel (props, apart_prop)

pub formed_prop : (ns : List RawNode) (text : List ℕ) → IsProp (Formed ns text)
formed_prop ns text = Prim.hlevel (props, right_prop, in_turn_prop, nests_prop, distinct_prop)
