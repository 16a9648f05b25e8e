-- The ends that are left.
use Rattle.std.proofs.Common.{◌≡◌, ℕ, suc, ◌+◌, ◌-◌, ◌<◌, ◌≤◌, List, [], ◌∷◌, ◌++◌, length, get_or, take, drop, sym, ap, ◌∙◌, subst, arith, length-drop, get_or-drop, get_or-take, length-take-le, take-append-drop}
use Rattle.std.specs.List.{AllByRecursion}
use Rattle.show_tree.specs.Lines.{Deepened, Forgot}

each : (P : ℕ → Type 0) (xs : List ℕ) → ((i : ℕ) → i < length xs → P (get_or xs i 0)) → AllByRecursion P xs
each P [] h = tt
each P (x ∷ xs) h = (h 0 (omega arith), each P xs (λ i lt. h (suc i) (omega (arith, lt))))

forgets : (node n : ℕ) (ends after : List ℕ) → n ≤ length ends → ((k : ℕ) → n ≤ k → k < length ends → get_or ends k 0 ≤ node) →
    (0 < n → node < get_or ends (n - 1) 0) → after ≡ take n ends → Forgot node ends after
forgets node n ends after h ended last is =
    let long : length after ≡ n = ap length is ∙ length-take-le n ends h in
    record {
      gone = drop n ends;
      whole = sym (take-append-drop n ends) ∙ ap (λ xs. xs ++ drop n ends) (sym is);
      ended = each (λ e. e ≤ node) (drop n ends)
          (λ k lt. subst (λ (x : ℕ). x ≤ node) (sym (get_or-drop n ends k 0)) (ended (n + k) (omega arith) (omega (arith, lt, length-drop n ends))));
      around = λ some. subst (λ (x : ℕ). node < x)
          (sym (ap (λ xs. get_or xs (length after - 1) 0) is ∙ ap (λ m. get_or (take n ends) (m - 1) 0) long ∙ get_or-take n ends (n - 1) 0 (omega (arith, some, long))))
          (last (omega (arith, some, long)));
    }

-- the ends that lie behind a node are left, by what is known of a slice of them
forgot : (node n : ℕ) (ends slice after : List ℕ) → slice ≡ ends → n ≤ length slice →
    ((k : ℕ) → n ≤ k → k < length slice → get_or slice k 0 ≤ node) → (0 < n → node < get_or slice (n - 1) 0) → after ≡ take n ends →
    Forgot node ends after
forgot node n ends slice after same h ended last is =
    forgets node n ends after (subst (λ (xs : List ℕ). n ≤ length xs) same h)
    (subst (λ (xs : List ℕ). (k : ℕ) → n ≤ k → k < length xs → get_or xs k 0 ≤ node) same ended)
    (subst (λ (xs : List ℕ). 0 < n → node < get_or xs (n - 1) 0) same last) is

-- and so the node's own joins them
pub deepened : (node end depth : ℕ) (ends slice left after : List ℕ) → slice ≡ ends → depth ≤ length slice →
    ((k : ℕ) → depth ≤ k → k < length slice → get_or slice k 0 ≤ node) → (0 < depth → node < get_or slice (depth - 1) 0) → left ≡ take depth ends →
    after ≡ left ++ end ∷ [] → Deepened node end depth ends after
deepened node end depth ends slice left after same h ended last is pushed = record {
  left = left;
  forgot = forgot node depth ends slice left same h ended last is;
  deep = sym (ap length is ∙ length-take-le depth ends (subst (λ (xs : List ℕ). depth ≤ length xs) same h));
  pushed = pushed;
}
