-- A node that was written for what was read.
use Rattle.std.proofs.Common.{◌≡◌, ℕ, ◌+◌, ◌<◌, List, [], ◌∷◌, ◌++◌, length, drop, sym, ◌∙◌, arith}
use Rattle.std.proofs.lemmas.List.{append-nil}
use Rattle.tree_rule.specs.declared.node.RawNode.{RawNode}
use Rattle.flow.specs.Places.{Read}

pub read_leaf : (K : ℕ → ℕ → List ℕ → List ℕ → List RawNode → List ℕ → Type 0) (input : List ℕ) (place end : ℕ) (ns ms : List RawNode) (text texts : List ℕ)
    (x : RawNode) → K (length ns) (length text) (drop place input) (drop end input) (x ∷ []) [] → ms ≡ ns ++ x ∷ [] → texts ≡ text →
    Read K input place end ns ms text texts
read_leaf K input place end ns ms text texts x k e f =
    record { added = x ∷ []; more = []; is = k; pushed = e; written = f ∙ sym (append-nil text) }

pub later : (place end w : ℕ) → end ≡ place + w → 0 < w → place < end
later place end w e h = omega (arith, e, h)
