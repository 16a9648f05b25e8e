-- Keys and values in turn, from the middle of a walk.
use Rattle.std.proofs.Common.{◌≡◌, ℕ, suc, arith, ◌<◌, ◌≤◌, ◌%◌, ◌==◌, Decides, length, ◌⊎◌, List, [], ◌∷◌, map, refl, ap, ◌∙◌, inl, inr}
use Rattle.std.specs.List.{AllByRecursion}
use Rattle.std.proofs.lemmas.Bool.{false≢true, cases_lt}
use Rattle.tree_rule.specs.declared.node.RawNode.{RawNode}
use Rattle.tree_rule.specs.Nodes.{at, from, keys_of, entries_of, Forward}
use Rattle.tree_rule.specs.Rule.{InTurn}
use Rattle.tree_rule.proofs.Walks.{from_here, from_past}

-- the key at c is followed by its value
pub record Pair (ns : List RawNode) (e c : ℕ) : Type 0 where
  pub valued : (at ns c).end < e
  pub walk : from ns e c ≡ c ∷ (at ns c).end ∷ from ns e (at ns (at ns c).end).end
  pub turn : InTurn (from ns e (at ns (at ns c).end).end)

two : (ns : List RawNode) (e c : ℕ) → Forward ns e → c < e → InTurn (from ns e c) → ((at ns c).end < e) ⊎ (e ≤ (at ns c).end) → Pair ns e c
two ns e c fw l t (inl h) =
    let p = from_here ns e c fw l in
    let q = from_here ns e (at ns c).end fw h in
    let w : from ns e c ≡ c ∷ (at ns c).end ∷ from ns e (at ns (at ns c).end).end = p ∙ ap (λ (xs : List ℕ). c ∷ xs) q in
    record { valued = h; walk = w; turn = rw w at t }
two ns e c fw l t (inr h) =
    let p = from_here ns e c fw l in
    let q = from_past ns e (at ns c).end h in
    let w : from ns e c ≡ c ∷ [] = p ∙ ap (λ (xs : List ℕ). c ∷ xs) q in
    absurd (rw w at t)

-- where keys and values go on in turn, a key is followed by its value
pub pair_here : (ns : List RawNode) (e c : ℕ) → Forward ns e → c < e → InTurn (from ns e c) → Pair ns e c
pair_here ns e c fw l t = two ns e c fw l t (cases_lt (at ns c).end e)

-- keys and values go on in turn exactly if there is an even number of them
pub in_turn_even : (ks : List ℕ) → Decides (length ks % 2 == 0) (InTurn ks)
in_turn_even [] = (λ _. tt, λ _. refl)
in_turn_even (k ∷ []) = (λ e. absurd (false≢true e), λ t. absurd t)
in_turn_even (k ∷ v ∷ ks) =
    let t = in_turn_even ks in
    let e : suc (suc (length ks)) % 2 ≡ length ks % 2 = omega arith in
    rw e t

-- the keys are the first halves of the entries
pub keys_entries : (ks : List ℕ) → InTurn ks → map (λ (p : ℕ × ℕ). p.0) (entries_of ks) ≡ keys_of ks
keys_entries [] t = refl
keys_entries (k ∷ []) t = absurd t
keys_entries (k ∷ v ∷ ks) t = ap (λ (xs : List ℕ). k ∷ xs) (keys_entries ks t)

pub entries_within : (P : ℕ → Type 0) (ks : List ℕ) → AllByRecursion P ks → AllByRecursion (λ (p : ℕ × ℕ). P p.0) (entries_of ks)
entries_within P [] h = tt
entries_within P (k ∷ []) h = tt
entries_within P (k ∷ v ∷ ks) h = (h.0, entries_within P ks h.1.1)

pub keys_length : (ks : List ℕ) → length (keys_of ks) ≤ length ks
keys_length [] = omega arith
keys_length (k ∷ []) = omega arith
keys_length (k ∷ v ∷ ks) = omega (arith, keys_length ks)

pub keys_within : (P : ℕ → Type 0) (ks : List ℕ) → AllByRecursion P ks → AllByRecursion P (keys_of ks)
keys_within P [] h = tt
keys_within P (k ∷ []) h = h
keys_within P (k ∷ v ∷ ks) h = (h.0, keys_within P ks h.1.1)
