-- Looking up a string key, entry by entry.
use Rattle.std.proofs.Common.{◌≡◌, ℕ, ◌+◌, length, ◌<◌, List, Some, Option, Bool, true, false, cond, refl, ap, ◌∙◌, sym, arith}
use Rattle.std.specs.List.{find as find_first}
use Rattle.std.specs.Option.{option_map}
use Rattle.std.proofs.lemmas.Iterator.Adapters.{option_map_id}
use Rattle.tree_rule.specs.declared.node.RawNode.{RawNode}
use Rattle.tree_rule.specs.Nodes.{at, from, children, entries_of, Forward}
use Rattle.tree_rule.specs.Rule.{Formed}
use Rattle.tree_rule.proofs.Walks.{forward, from_here, from_past}
use Rattle.tree.specs.Questions.{is_named, is_text, find}
use Rattle.tree.specs.Values.{Value, Entries, other, boolean, integer, string, list, map, no_entry, entry, Stands, Pairs}
use Rattle.tree.proofs.Chains.{stands_number}

pub named_text : (ns : List RawNode) (text name : List ℕ) (i : ℕ) (v : Value) → Stands ns text i v → is_named ns text name i ≡ is_text name v
named_text ns text name i (other n) s = rw s.1
named_text ns text name i (boolean n b) s = rw s.1
named_text ns text name i (integer n z) s = rw s.1
named_text ns text name i (string n bs) s = rw (s.1, s.2)
named_text ns text name i (list n vs) s = rw s.1
named_text ns text name i (map n es) s = rw s.1

over : (b : Bool) (k v : ℕ) (o : Option (ℕ × ℕ)) →
    cond b (Some v) (option_map (λ (p : ℕ × ℕ). p.1) o) ≡ option_map (λ (p : ℕ × ℕ). p.1) (cond b (Some (k, v)) o)
over true k v o = refl
over false k v o = refl

found_value : (ns : List RawNode) (text name : List ℕ) (c e : ℕ) (es : Entries) → Forward ns e → Pairs ns text c e es →
    find name es ≡ option_map (λ (p : ℕ × ℕ). p.1) (find_first (λ (p : ℕ × ℕ). is_named ns text name p.0) (entries_of (from ns e c)))
found_value ns text name c e no_entry fw s = let none = from_past ns e c (omega arith) in rw none
found_value ns text name c e (entry k v es) fw s =
    let key = from_here ns e c fw s.0 in
    let value = from_here ns e (at ns c).end fw s.2 in
    let named = named_text ns text name c k s.1 in
    let rest = found_value ns text name (at ns (at ns c).end).end e es fw s.4 in
    let n = stands_number ns text (at ns c).end v s.3 in
    rw (key, value, named, rest, n) (over (is_text name k) c _ _)

-- the entry that a search over a map's entries found holds the value under the name
pub found_under : (ns : List RawNode) (text name : List ℕ) (m : ℕ) (r : Option (ℕ × ℕ)) → Formed ns text → m < length ns →
    option_map (λ (p : ℕ × ℕ). p) r ≡ find_first (λ (p : ℕ × ℕ). is_named ns text name p.0) (entries_of (children ns m)) →
    (es : Entries) → Pairs ns text (m + 1) (at ns m).end es → find name es ≡ option_map (λ (p : ℕ × ℕ). p.1) r
found_under ns text name m r t h found es p =
    let fw = forward ns m (λ k l. (t.nodes k l).ends) h in
    let kept : r ≡ find_first (λ (p : ℕ × ℕ). is_named ns text name p.0) (entries_of (children ns m)) = sym (option_map_id r) ∙ found in
    found_value ns text name (m + 1) (at ns m).end es fw p ∙ ap (option_map (λ (p : ℕ × ℕ). p.1)) (sym kept)
