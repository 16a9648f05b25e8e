-- A value laid out in arrays: each part's node where its number says, each string's bytes where its node says.
use Rattle.std.proofs.Common.{◌≡◌, ℕ, suc, ◌+◌, ◌≤◌, cond, List, [], ◌∷◌, ◌++◌, length, get_or, take, drop, pos, sym, refl, ap, ◌∙◌, append_assoc, arith, length-append, length-drop, get_or-drop, drop-drop, take_at, drop_at}
use Rattle.tree_rule.specs.declared.node.RawNode.{RawNode}
use Rattle.tree_rule.specs.Nodes.{at, none, raw}
use Rattle.tree.specs.Values.{Value, Items, Entries, other, boolean, integer, string, list, map, no_item, item, no_entry, entry}
use Rattle.tree.specs.Limits.{size, items_size, entries_size, spelling, items_spelling, entries_spelling, Numbered, ItemsNumbered, EntriesNumbered}

abbrev pub width : Value → ℕ
width v = length (spelling v)

-- the nodes of a value that begins at node i, with its text from t on
abbrev mutual
  pub nodes_of : ℕ → ℕ → Value → List RawNode
  nodes_of i t (other n) = raw 0 (i + 1) 0 0 (pos 0) ∷ []
  nodes_of i t (boolean n b) = raw 1 (i + 1) 0 0 (cond b (pos 1) (pos 0)) ∷ []
  nodes_of i t (integer n z) = raw 2 (i + 1) 0 0 z ∷ []
  nodes_of i t (string n bs) = raw 3 (i + 1) t (length bs) (pos 0) ∷ []
  nodes_of i t (list n vs) = raw 4 (i + 1 + items_size vs) 0 0 (pos 0) ∷ item_nodes (i + 1) t vs
  nodes_of i t (map n es) = raw 5 (i + 1 + entries_size es) 0 0 (pos 0) ∷ entry_nodes (i + 1) t es

  pub item_nodes : ℕ → ℕ → Items → List RawNode
  item_nodes c t no_item = []
  item_nodes c t (item v vs) = nodes_of c t v ++ item_nodes (c + size v) (t + width v) vs

  pub entry_nodes : ℕ → ℕ → Entries → List RawNode
  entry_nodes c t no_entry = []
  entry_nodes c t (entry k v es) =
      nodes_of c t k ++ (nodes_of (c + size k) (t + width k) v ++ entry_nodes (c + size k + size v) (t + width k + width v) es)

-- the value is laid out in these arrays from node i and byte t on
abbrev mutual
  pub Laid : List RawNode → List ℕ → ℕ → ℕ → Value → Type 0
  Laid ns text i t (other n) = (n ≡ i) × (at ns i ≡ raw 0 (i + 1) 0 0 (pos 0))
  Laid ns text i t (boolean n b) = (n ≡ i) × (at ns i ≡ raw 1 (i + 1) 0 0 (cond b (pos 1) (pos 0)))
  Laid ns text i t (integer n z) = (n ≡ i) × (at ns i ≡ raw 2 (i + 1) 0 0 z)
  Laid ns text i t (string n bs) =
      (n ≡ i) × (at ns i ≡ raw 3 (i + 1) t (length bs) (pos 0)) × (take (length bs) (drop t text) ≡ bs) × (t + length bs ≤ length text)
  Laid ns text i t (list n vs) =
      (n ≡ i) × (at ns i ≡ raw 4 (i + 1 + items_size vs) 0 0 (pos 0)) × LaidItems ns text (i + 1) t vs
  Laid ns text i t (map n es) =
      (n ≡ i) × (at ns i ≡ raw 5 (i + 1 + entries_size es) 0 0 (pos 0)) × LaidEntries ns text (i + 1) t es

  pub LaidItems : List RawNode → List ℕ → ℕ → ℕ → Items → Type 0
  LaidItems ns text c t no_item = Unit {0}
  LaidItems ns text c t (item v vs) = Laid ns text c t v × LaidItems ns text (c + size v) (t + width v) vs

  pub LaidEntries : List RawNode → List ℕ → ℕ → ℕ → Entries → Type 0
  LaidEntries ns text c t no_entry = Unit {0}
  LaidEntries ns text c t (entry k v es) =
      Laid ns text c t k × Laid ns text (c + size k) (t + width k) v
      × LaidEntries ns text (c + size k + size v) (t + width k + width v) es

mutual
  pub nodes_size : (i t : ℕ) (v : Value) → length (nodes_of i t v) ≡ size v
  nodes_size i t (other n) = refl
  nodes_size i t (boolean n b) = refl
  nodes_size i t (integer n z) = refl
  nodes_size i t (string n bs) = refl
  nodes_size i t (list n vs) = ap suc (items_size_lem (i + 1) t vs)
  nodes_size i t (map n es) = ap suc (entries_size_lem (i + 1) t es)

  items_size_lem : (c t : ℕ) (vs : Items) → length (item_nodes c t vs) ≡ items_size vs
  items_size_lem c t no_item = refl
  items_size_lem c t (item v vs) =
      let p = nodes_size c t v in
      let q = items_size_lem (c + size v) (t + width v) vs in
      length-append (nodes_of c t v) (item_nodes (c + size v) (t + width v) vs) ∙ omega arith

  entries_size_lem : (c t : ℕ) (es : Entries) → length (entry_nodes c t es) ≡ entries_size es
  entries_size_lem c t no_entry = refl
  entries_size_lem c t (entry k v es) =
      let p = nodes_size c t k in
      let q = nodes_size (c + size k) (t + width k) v in
      let r = entries_size_lem (c + size k + size v) (t + width k + width v) es in
      let a = length-append (nodes_of c t k) (nodes_of (c + size k) (t + width k) v ++ entry_nodes (c + size k + size v) (t + width k + width v) es) in
      let b = length-append (nodes_of (c + size k) (t + width k) v) (entry_nodes (c + size k + size v) (t + width k + width v) es) in
      omega arith

-- what begins with a piece goes on behind it
onward : {A : Type 0} (xs piece rest : List A) (i n : ℕ) → length piece ≡ n → drop i xs ≡ piece ++ rest → drop (i + n) xs ≡ rest
onward {A = A} xs piece rest i n p h =
    sym (drop-drop n i xs) ∙ ap (λ (ys : List A). drop n ys) h ∙ drop_at piece rest n p

at_front : (ns : List RawNode) (i : ℕ) (n : RawNode) (rest : List RawNode) → drop i ns ≡ n ∷ rest → at ns i ≡ n
at_front ns i n rest h =
    let z : i + 0 ≡ i = omega arith in
    sym (ap (λ (k : ℕ). get_or ns k none) z) ∙ sym (get_or-drop i ns 0 none) ∙ ap (λ (ys : List RawNode). get_or ys 0 none) h

one_on : (ns : List RawNode) (i : ℕ) (n : RawNode) (rest : List RawNode) → drop i ns ≡ n ∷ rest → drop (i + 1) ns ≡ rest
one_on ns i n rest h = onward ns (n ∷ []) rest i 1 refl h

long_enough : (text bs rest : List ℕ) (t : ℕ) → drop t text ≡ bs ++ rest → t ≤ length text → t + length bs ≤ length text
long_enough text bs rest t h l =
    let a = length-drop t text in
    let b = ap (λ (ys : List ℕ). length ys) h in
    let d = length-append bs rest in
    omega arith

mutual
  pub laid_out : (ns : List RawNode) (text : List ℕ) (i t : ℕ) (v : Value) (rest : List RawNode) (more : List ℕ) → Numbered i v →
      t ≤ length text → drop i ns ≡ nodes_of i t v ++ rest → drop t text ≡ spelling v ++ more → Laid ns text i t v
  laid_out ns text i t (other n) rest more m l h k = (m, at_front ns i _ rest h)
  laid_out ns text i t (boolean n b) rest more m l h k = (m, at_front ns i _ rest h)
  laid_out ns text i t (integer n z) rest more m l h k = (m, at_front ns i _ rest h)
  laid_out ns text i t (string n bs) rest more m l h k =
      (m, at_front ns i _ rest h, ap (λ (ys : List ℕ). take (length bs) ys) k ∙ take_at bs more (length bs) refl, long_enough text bs more t k l)
  laid_out ns text i t (list n vs) rest more m l h k = (
    m.0,
    at_front ns i _ (item_nodes (i + 1) t vs ++ rest) h,
    items_out ns text (i + 1) t vs rest more m.1 l (one_on ns i _ (item_nodes (i + 1) t vs ++ rest) h) k,
  )
  laid_out ns text i t (map n es) rest more m l h k = (
    m.0,
    at_front ns i _ (entry_nodes (i + 1) t es ++ rest) h,
    entries_out ns text (i + 1) t es rest more m.1 l (one_on ns i _ (entry_nodes (i + 1) t es ++ rest) h) k,
  )

  items_out : (ns : List RawNode) (text : List ℕ) (c t : ℕ) (vs : Items) (rest : List RawNode) (more : List ℕ) → ItemsNumbered c vs →
      t ≤ length text → drop c ns ≡ item_nodes c t vs ++ rest → drop t text ≡ items_spelling vs ++ more → LaidItems ns text c t vs
  items_out ns text c t no_item rest more m l h k = tt
  items_out ns text c t (item v vs) rest more m l h k =
      let h1 = h ∙ append_assoc (nodes_of c t v) (item_nodes (c + size v) (t + width v) vs) rest in
      let k1 = k ∙ append_assoc (spelling v) (items_spelling vs) more in
      let l1 = long_enough text (spelling v) (items_spelling vs ++ more) t k1 l in (
        laid_out ns text c t v (item_nodes (c + size v) (t + width v) vs ++ rest) (items_spelling vs ++ more) m.0 l h1 k1,
        items_out ns text (c + size v) (t + width v) vs rest more m.1 l1
            (onward ns (nodes_of c t v) _ c (size v) (nodes_size c t v) h1) (onward text (spelling v) _ t (width v) refl k1),
      )

  entries_out : (ns : List RawNode) (text : List ℕ) (c t : ℕ) (es : Entries) (rest : List RawNode) (more : List ℕ) → EntriesNumbered c es →
      t ≤ length text → drop c ns ≡ entry_nodes c t es ++ rest → drop t text ≡ entries_spelling es ++ more → LaidEntries ns text c t es
  entries_out ns text c t no_entry rest more m l h k = tt
  entries_out ns text c t (entry x v es) rest more m l h k =
      let vn = nodes_of (c + size x) (t + width x) v in
      let en = entry_nodes (c + size x + size v) (t + width x + width v) es in
      let h1 = h ∙ append_assoc (nodes_of c t x) (vn ++ en) rest in
      let k1 = k ∙ append_assoc (spelling x) (spelling v ++ entries_spelling es) more in
      let l1 = long_enough text (spelling x) ((spelling v ++ entries_spelling es) ++ more) t k1 l in
      let h2 = onward ns (nodes_of c t x) _ c (size x) (nodes_size c t x) h1 ∙ append_assoc vn en rest in
      let k2 = onward text (spelling x) _ t (width x) refl k1 ∙ append_assoc (spelling v) (entries_spelling es) more in
      let l2 = long_enough text (spelling v) (entries_spelling es ++ more) (t + width x) k2 l1 in (
        laid_out ns text c t x ((vn ++ en) ++ rest) ((spelling v ++ entries_spelling es) ++ more) m.0 l h1 k1,
        laid_out ns text (c + size x) (t + width x) v (en ++ rest) (entries_spelling es ++ more) m.1 l1 h2 k2,
        entries_out ns text (c + size x + size v) (t + width x + width v) es rest more m.2 l2
            (onward ns vn _ (c + size x) (size v) (nodes_size (c + size x) (t + width x) v) h2)
            (onward text (spelling v) _ (t + width x) (width v) refl k2),
      )
