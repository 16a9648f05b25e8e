-- Laws of POSIX brackets, and of the walk through a class that replaces them.
use Rattle.std.proofs.Common.{◌≡◌, ℕ, suc, pred, ◌+◌, ◌-◌, ◌<◌, Bool, true, false, cond, not, ◌&&◌, eqb, ◌⊎◌, List, [], ◌∷◌, ◌++◌, length, get_or, take, drop, Some, None, Option, sym, refl, ap, ◌∙◌, subst, inl, inr, arith, length-drop, length-take}
use Rattle.std.specs.List.{flat_map}
use Rattle.std.specs.Option.{is_some}
use Rattle.std.proofs.lemmas.List.{take-append-drop, append_assoc, drop-drop, take_all, take_more, at_drop_more}
use Rattle.std.proofs.lemmas.Bool.{cond-true, cond-false, cond_both, eqb-true, eq-eqb, ne_eqb, cases_eq, and_parts, and_from, not_from_false, not-true}
use borrow.Author.Tests.{clash}
use Rattle.tokens.specs.declared.class.ClassState.{ClassState}
use Rattle.tokens.specs.declared.class.ClassState.TheVariants.{Start, Negated, Inside, Escaped}
use Rattle.tokens.specs.declared.class.ClassWalker.{ClassWalker}
use Rattle.tokens.specs.declared.posix.PosixClass.{PosixClass}
use Rattle.tokens.specs.declared.posix.PosixClass.TheVariants.{Alpha, Alnum, Lower, Upper, Digit}
use Rattle.tokens.specs.Classes.{opened, bare, from, stepped, closes, inside}
use Rattle.tokens.specs.Cut.{past_front}
use Rattle.tokens.specs.Starts.{starts}
use Rattle.tokens.specs.declared.parser.Token.{Token as Read}
use Rattle.tokens.specs.Reads.{meant, Taken}
use Rattle.tokens.specs.Cursor.{front}
use Rattle.tokens.specs.Tokens.{Token, class, comment, plain, spelled, first, tokens, escaping, opens_comment, class_length, comment_length}
use Rattle.tokens.specs.Posix.{Member, single, bracket_of, property_of, first_of, posix_classes, bracket_at, bracket_or, escaped_or, first_member, spelled_member, members, with_property, replaced_from, rest_replaced, rest_behind, is_escaped, bracket_here, passed, class_text, class_with_properties, token_with_properties, with_properties, left_from}
use Rattle.tokens.proofs.Cut.{cut_nil, cut_cons}
use Rattle.tokens.proofs.Lists.{drop_least}
use Rattle.tokens.proofs.Tokens.{taken_first}
use Rattle.tokens.proofs.Starts.{starts_split, starts_front}

abbrev replaced : List ℕ → List ℕ
replaced bs = flat_map with_property (members bs)

replaced_cons : (b : ℕ) (bs : List ℕ) → replaced (b ∷ bs) ≡ with_property (first_member (b ∷ bs)) ++ replaced (past_front first_member spelled_member b bs)
replaced_cons b bs = ap (flat_map with_property) (cut_cons first_member spelled_member b bs)

replaced_nil : replaced [] ≡ []
replaced_nil = ap (flat_map with_property) (cut_nil first_member spelled_member)

replaced_bracket : (p : PosixClass) (bs : List ℕ) → replaced (bracket_of p ++ bs) ≡ property_of p ++ replaced bs
unfolding first_member
replaced_bracket Alpha bs = replaced_cons _ _
replaced_bracket Alnum bs = replaced_cons _ _
replaced_bracket Lower bs = replaced_cons _ _
replaced_bracket Upper bs = replaced_cons _ _
replaced_bracket Digit bs = replaced_cons _ _

replaced_escape : (bs : List ℕ) → replaced (92 ∷ bs) ≡ 92 ∷ replaced_from Escaped bs
unfolding first_member
replaced_escape [] = replaced_cons 92 [] ∙ ap (λ (xs : List ℕ). 92 ∷ xs) replaced_nil
replaced_escape (b ∷ bs) = replaced_cons 92 (b ∷ bs)

-- a byte that is neither a backslash nor the front of a bracket stays
replaced_single : (b : ℕ) (bs : List ℕ) → (b ≡ 92 → ⊥) → (b ≡ 91 → bracket_at (b ∷ bs) ≡ None) → replaced (b ∷ bs) ≡ b ∷ replaced bs
unfolding first_member
replaced_single b bs n m =
    replaced_cons b bs ∙ ap (λ (p : Member). with_property p ++ replaced (drop (pred (length (spelled_member p))) bs))
    (cond-false (eqb b 92) (escaped_or bs b) _ (ne_eqb b 92 n) ∙ go (cases_eq b 91)) where
      go : (b ≡ 91) ⊎ (b ≡ 91 → ⊥) → cond (eqb b 91) (bracket_or (bracket_at (b ∷ bs)) b) (single b) ≡ single b
      go (inl e) = cond-true (eqb b 91) _ (single b) (eq-eqb b 91 e) ∙ ap (λ (o : Option PosixClass). bracket_or o b) (m e)
      go (inr ne) = cond-false (eqb b 91) _ (single b) (ne_eqb b 91 ne)

-- a bracket that does not stand in a text does not stand in its front either
starts_taken : (prefix bs : List ℕ) (n : ℕ) → starts prefix bs ≡ false → starts prefix (take n bs) ≡ false
starts_taken prefix bs n e = go (starts prefix (take n bs)) refl where
  go : (t : Bool) → starts prefix (take n bs) ≡ t → starts prefix (take n bs) ≡ false
  go false is = is
  go true is = absurd (clash (sym e ∙ starts_front prefix bs (drop (length prefix) (take n bs) ++ drop n bs)
      (sym (take-append-drop n bs) ∙ ap (λ (xs : List ℕ). xs ++ drop n bs) (starts_split prefix (take n bs) is) ∙ append_assoc prefix _ (drop n bs))))

-- no bracket stands in the front of a text in which none stands
none_taken : (ps : List PosixClass) (bs : List ℕ) (n : ℕ) → first_of ps bs ≡ None → first_of ps (take n bs) ≡ None
none_taken [] bs n e = refl
none_taken (p ∷ ps) bs n e = go (starts (bracket_of p) bs) refl e (none_taken ps bs n) where
  go : (t : Bool) → starts (bracket_of p) bs ≡ t → cond t (Some p) (first_of ps bs) ≡ None → (first_of ps bs ≡ None → first_of ps (take n bs) ≡ None) →
      first_of (p ∷ ps) (take n bs) ≡ None
  go true is e rest = let z : ◌≡◌ {A = ℕ} 0 1 = cc in absurd (omega arith)
  go false is e rest = cond-false (starts (bracket_of p) (take n bs)) (Some p) (first_of ps (take n bs)) (starts_taken (bracket_of p) bs n is) ∙ rest e

-- the bracket that is found stands there
found_split : (ps : List PosixClass) (bs : List ℕ) (p : PosixClass) → first_of ps bs ≡ Some p → bs ≡ bracket_of p ++ drop (length (bracket_of p)) bs
found_split [] bs p e = let z : ◌≡◌ {A = ℕ} 0 1 = cc in absurd (omega arith)
found_split (q ∷ ps) bs p e = go (starts (bracket_of q) bs) refl e (found_split ps bs p) where
  go : (t : Bool) → starts (bracket_of q) bs ≡ t → cond t (Some q) (first_of ps bs) ≡ Some p → (first_of ps bs ≡ Some p → bs ≡ bracket_of p ++ drop (length (bracket_of p)) bs) →
      bs ≡ bracket_of p ++ drop (length (bracket_of p)) bs
  go true is e rest = let same : q ≡ p = cc in subst (λ (r : PosixClass). bs ≡ bracket_of r ++ drop (length (bracket_of r)) bs) same (starts_split (bracket_of q) bs is)
  go false is e rest = rest e

nine : (p : PosixClass) → length (bracket_of p) ≡ 9
nine Alpha = refl
nine Alnum = refl
nine Lower = refl
nine Upper = refl
nine Digit = refl

pub bracket_split : (bs : List ℕ) (p : PosixClass) → bracket_at bs ≡ Some p → bs ≡ bracket_of p ++ drop 9 bs
bracket_split bs p e = found_split posix_classes bs p e ∙ ap (λ (n : ℕ). bracket_of p ++ drop n bs) (nine p)

-- The length of a class, over a bracket inside it.
past_opening : (w : ClassWalker) (bs : List ℕ) → is_escaped w.state ≡ false →
    class_length w (91 ∷ bs) ≡ suc (class_length (record { state = Inside; negated = w.negated; depth = w.depth + 1; newline = w.newline }) bs)
past_opening w bs e = go w.state e where
  go : (s : ClassState) → is_escaped s ≡ false →
      cond (inside s && (eqb 91 93 && eqb w.depth 0)) 1 (suc (class_length (from s w 91) bs))
      ≡ suc (class_length (record { state = Inside; negated = w.negated; depth = w.depth + 1; newline = w.newline }) bs)
  go Start e = refl
  go Negated e = refl
  go Inside e = refl
  go Escaped e = absurd (clash (sym e))

past_closing : (n : Bool) (d : ℕ) (l : Bool) (bs : List ℕ) →
    class_length (record { state = Inside; negated = n; depth = d + 1; newline = l }) (93 ∷ bs) ≡ suc (class_length (record { state = Inside; negated = n; depth = d; newline = l }) bs)
past_closing n d l bs =
    let deep : eqb (d + 1) 0 ≡ false = ne_eqb (d + 1) 0 (λ e. omega arith) in
    let back : d + 1 - 1 ≡ d = omega arith in
    cond-false (eqb (d + 1) 0) 1 _ deep ∙ ap (λ (k : ℕ). suc (class_length (record { state = Inside; negated = n; depth = k; newline = l }) bs)) back

abbrev eight_more : ℕ → ℕ
eight_more k = suc (suc (suc (suc (suc (suc (suc (suc k)))))))

past_bracket : (p : PosixClass) (w : ClassWalker) (bs : List ℕ) → is_escaped w.state ≡ false →
    class_length w (bracket_of p ++ bs) ≡ eight_more (suc (class_length (passed w) bs))
past_bracket Alpha w bs e = past_opening w (drop 1 (bracket_of Alpha ++ bs)) e ∙ ap eight_more (past_closing w.negated w.depth w.newline bs)
past_bracket Alnum w bs e = past_opening w (drop 1 (bracket_of Alnum ++ bs)) e ∙ ap eight_more (past_closing w.negated w.depth w.newline bs)
past_bracket Lower w bs e = past_opening w (drop 1 (bracket_of Lower ++ bs)) e ∙ ap eight_more (past_closing w.negated w.depth w.newline bs)
past_bracket Upper w bs e = past_opening w (drop 1 (bracket_of Upper ++ bs)) e ∙ ap eight_more (past_closing w.negated w.depth w.newline bs)
past_bracket Digit w bs e = past_opening w (drop 1 (bracket_of Digit ++ bs)) e ∙ ap eight_more (past_closing w.negated w.depth w.newline bs)

-- a text that is read from a state in which nothing is escaped
bare_replaced : (s : ClassState) (bs : List ℕ) → is_escaped s ≡ false → replaced_from s bs ≡ replaced bs
bare_replaced Start bs e = refl
bare_replaced Negated bs e = refl
bare_replaced Inside bs e = refl
bare_replaced Escaped bs e = absurd (clash (sym e))

cut_bracket : (p : PosixClass) (n : ℕ) (bs : List ℕ) →
    (take (eight_more (suc n)) (bracket_of p ++ bs) ≡ bracket_of p ++ take n bs) × (drop (eight_more (suc n)) (bracket_of p ++ bs) ≡ drop n bs)
cut_bracket Alpha n bs = (refl, refl)
cut_bracket Alnum n bs = (refl, refl)
cut_bracket Lower n bs = (refl, refl)
cut_bracket Upper n bs = (refl, refl)
cut_bracket Digit n bs = (refl, refl)

-- One step of the walk: over a bracket,
pub over_bracket : (w : ClassWalker) (bs : List ℕ) (p : PosixClass) → is_escaped w.state ≡ false → bracket_at bs ≡ Some p →
    (rest_replaced w bs ≡ property_of p ++ rest_replaced (passed w) (drop 9 bs)) × (rest_behind w bs ≡ rest_behind (passed w) (drop 9 bs))
over_bracket w bs p s e =
    let split : bs ≡ bracket_of p ++ drop 9 bs = bracket_split bs p e in
    subst (λ (xs : List ℕ). (rest_replaced w xs ≡ property_of p ++ rest_replaced (passed w) (drop 9 bs)) × (rest_behind w xs ≡ rest_behind (passed w) (drop 9 bs))) (sym split)
    (both (drop 9 bs)) where
      both : (ys : List ℕ) →
          (rest_replaced w (bracket_of p ++ ys) ≡ property_of p ++ rest_replaced (passed w) ys) × (rest_behind w (bracket_of p ++ ys) ≡ rest_behind (passed w) ys)
      both ys = (
        ap (λ (k : ℕ). replaced_from w.state (take k (bracket_of p ++ ys))) (past_bracket p w ys s)
            ∙ ap (replaced_from w.state) (cut_bracket p (class_length (passed w) ys) ys).0
            ∙ bare_replaced w.state _ s ∙ replaced_bracket p (take (class_length (passed w) ys) ys),
        ap (λ (k : ℕ). drop k (bracket_of p ++ ys)) (past_bracket p w ys s) ∙ (cut_bracket p (class_length (passed w) ys) ys).1,
      )

bare_state : (w : ClassWalker) (b : ℕ) → (b ≡ 92 → ⊥) → is_escaped (bare w b).state ≡ false
bare_state w b n = ap (λ (v : ClassWalker). is_escaped v.state) (cond-false (eqb b 92) _ _ (ne_eqb b 92 n)) ∙ go (eqb b 91) where
  go : (t : Bool) → is_escaped (cond {A = ClassWalker} t (record { state = Inside; negated = w.negated; depth = w.depth + 1; newline = w.newline })
      (record { state = Inside; negated = w.negated; depth = w.depth; newline = w.newline })).state ≡ false
  go true = refl
  go false = refl

-- only a backslash escapes
pub still_bare : (s : ClassState) (w : ClassWalker) (b : ℕ) → is_escaped s ≡ false → (b ≡ 92 → ⊥) → is_escaped (from s w b).state ≡ false
still_bare Start w b e n = cond_both (eqb b 94) _ _ (λ (v : ClassWalker). is_escaped v.state ≡ false) (λ _. refl) (λ _. bare_state w b n)
still_bare Negated w b e n = bare_state w b n
still_bare Inside w b e n = cond_both (eqb b 93) _ _ (λ (v : ClassWalker). is_escaped v.state ≡ false) (λ _. refl) (λ _. bare_state w b n)
still_bare Escaped w b e n = absurd (clash (sym e))

-- a backslash does
then_escaped : (s : ClassState) (w : ClassWalker) → is_escaped s ≡ false → (from s w 92).state ≡ Escaped
then_escaped Start w e = refl
then_escaped Negated w e = refl
then_escaped Inside w e = refl
then_escaped Escaped w e = absurd (clash (sym e))

byte_replaced : (s : ClassState) (w : ClassWalker) (b : ℕ) (bs : List ℕ) (n : ℕ) → cond (eqb b 91 && not (is_escaped s)) (bracket_at (b ∷ bs)) None ≡ None →
    replaced_from s (b ∷ take n bs) ≡ b ∷ replaced_from (from s w b).state (take n bs)
byte_replaced s w b bs n none = go (is_escaped s) refl where
  bare_go : is_escaped s ≡ false → (b ≡ 92) ⊎ (b ≡ 92 → ⊥) → replaced (b ∷ take n bs) ≡ b ∷ replaced_from (from s w b).state (take n bs)
  bare_go e (inl is) =
      subst (λ (c : ℕ). replaced (c ∷ take n bs) ≡ c ∷ replaced_from (from s w c).state (take n bs)) (sym is)
      (replaced_escape (take n bs) ∙ ap (λ (t : ClassState). 92 ∷ replaced_from t (take n bs)) (sym (then_escaped s w e)))
  bare_go e (inr ne) =
      replaced_single b (take n bs) ne
      (λ is. none_taken posix_classes (b ∷ bs) (suc n) (sym (cond-true (eqb b 91 && not (is_escaped s)) (bracket_at (b ∷ bs)) None (and_from (eqb b 91) (not (is_escaped s)) (eq-eqb b 91 is) (not_from_false (is_escaped s) e))) ∙ none))
      ∙ ap (λ (xs : List ℕ). b ∷ xs) (sym (bare_replaced (from s w b).state (take n bs) (still_bare s w b e ne)))

  escaped_go : (t : ClassState) → is_escaped t ≡ true → replaced_from t (b ∷ take n bs) ≡ b ∷ replaced_from (from t w b).state (take n bs)
  escaped_go Start e = absurd (clash e)
  escaped_go Negated e = absurd (clash e)
  escaped_go Inside e = absurd (clash e)
  escaped_go Escaped e = refl

  go : (t : Bool) → is_escaped s ≡ t → replaced_from s (b ∷ take n bs) ≡ b ∷ replaced_from (from s w b).state (take n bs)
  go true e = escaped_go s e
  go false e = bare_replaced s (b ∷ take n bs) e ∙ bare_go e (cases_eq b 92)

-- over a byte that does not close the class,
pub over_byte : (w : ClassWalker) (b : ℕ) (bs : List ℕ) → closes w b ≡ false → bracket_here w (b ∷ bs) ≡ None →
    (rest_replaced w (b ∷ bs) ≡ b ∷ rest_replaced (stepped w b) bs) × (rest_behind w (b ∷ bs) ≡ rest_behind (stepped w b) bs)
over_byte w b bs goes none =
    let n = class_length (stepped w b) bs in
    let long : class_length w (b ∷ bs) ≡ suc n = cond-false (closes w b) 1 (suc n) goes in (
      ap (λ (k : ℕ). replaced_from w.state (take k (b ∷ bs))) long ∙ byte_replaced w.state w b bs n none,
      ap (λ (k : ℕ). drop k (b ∷ bs)) long,
    )

-- over the `]` that closes it
pub over_closing : (w : ClassWalker) (b : ℕ) (bs : List ℕ) → closes w b ≡ true → (rest_replaced w (b ∷ bs) ≡ b ∷ []) × (rest_behind w (b ∷ bs) ≡ bs)
over_closing w b bs shut =
    let long : class_length w (b ∷ bs) ≡ 1 = cond-true (closes w b) 1 (suc (class_length (stepped w b) bs)) shut in
    (ap (λ (k : ℕ). replaced_from w.state (take k (b ∷ bs))) long ∙ go w.state shut, ap (λ (k : ℕ). drop k (b ∷ bs)) long) where
      go : (s : ClassState) → inside s && (eqb b 93 && eqb w.depth 0) ≡ true → replaced_from s (b ∷ []) ≡ b ∷ []
      go Start e = absurd (clash e)
      go Negated e = absurd (clash e)
      go Escaped e = absurd (clash e)
      go Inside e =
          let is : b ≡ 93 = eqb-true b 93 (and_parts (eqb b 93) (eqb w.depth 0) e).0 in
          replaced_single b [] (λ h. omega arith) (λ h. absurd (omega arith)) ∙ ap (λ (xs : List ℕ). b ∷ xs) replaced_nil

-- nothing is left at the end of the text
pub rest_nil : (w : ClassWalker) (bs : List ℕ) → bs ≡ [] → (rest_replaced w bs ≡ []) × (rest_behind w bs ≡ [])
rest_nil w bs e =
    subst (λ (xs : List ℕ). (rest_replaced w xs ≡ []) × (rest_behind w xs ≡ [])) (sym e) (go w.state, refl) where
      go : (s : ClassState) → replaced_from s [] ≡ []
      go Start = replaced_nil
      go Negated = replaced_nil
      go Inside = replaced_nil
      go Escaped = refl

-- The class at the front, by the walk from behind its `[`.
pub class_whole : (xs ys : List ℕ) → front xs ≡ Some 91 → ys ≡ drop 1 xs → class_with_properties (class_text xs) ≡ 91 ∷ rest_replaced opened ys
class_whole [] ys p q = let z : ◌≡◌ {A = ℕ} 0 1 = cc in absurd (omega arith)
class_whole (x ∷ xs) ys p q = let e : x ≡ 91 = cc in ap (λ (b : ℕ). b ∷ rest_replaced opened xs) e ∙ ap (λ (zs : List ℕ). 91 ∷ rest_replaced opened zs) (sym q)

pub class_heads : (xs ys zs : List ℕ) → front xs ≡ Some 91 → ys ≡ drop 1 xs → zs ≡ rest_behind opened ys →
    (tokens xs ≡ class (class_text xs) ∷ tokens zs) × (length zs < length xs)
unfolding first
class_heads [] ys zs p q r = let z : ◌≡◌ {A = ℕ} 0 1 = cc in absurd (omega arith)
class_heads (x ∷ xs) ys zs p q r =
    let e : x ≡ 91 = cc in
    let n = class_length opened xs in
    let here : first (x ∷ xs) ≡ class (x ∷ take n xs) = cond-false (eqb x 92) _ _ (ne_eqb x 92 (λ h. omega arith)) ∙ cond-true (eqb x 91) _ _ (eq-eqb x 91 e) in
    let left : zs ≡ drop n xs = r ∙ ap (rest_behind opened) q in
    let past : past_front first spelled x xs ≡ zs =
    ap (λ (u : Token). drop (pred (length (spelled u))) xs) here ∙ drop_least n (length (take n xs)) xs (length-take n xs) ∙ sym left in (
      cut_cons first spelled x xs ∙ ap (λ (u : Token). u ∷ tokens (past_front first spelled x xs)) here ∙ ap (λ (us : List ℕ). class (x ∷ take n xs) ∷ tokens us) past,
      omega (arith, simp length-drop at (ap length left)),
    )

-- The same steps, by what the cursor shows.
pub here_bracket : (w : ClassWalker) (bs : List ℕ) (p : PosixClass) → bracket_here w bs ≡ Some p → (is_escaped w.state ≡ false) × (bracket_at bs ≡ Some p)
here_bracket w [] p e = let z : ◌≡◌ {A = ℕ} 0 1 = cc in absurd (omega arith)
here_bracket w (b ∷ bs) p e = go (eqb b 91 && not (is_escaped w.state)) refl e where
  go : (t : Bool) → (eqb b 91 && not (is_escaped w.state)) ≡ t → cond t (bracket_at (b ∷ bs)) None ≡ Some p → (is_escaped w.state ≡ false) × (bracket_at (b ∷ bs) ≡ Some p)
  go true is e = (not-true (is_escaped w.state) (and_parts (eqb b 91) (not (is_escaped w.state)) is).1, e)
  go false is e = let z : ◌≡◌ {A = ℕ} 0 1 = cc in absurd (omega arith)

pub step_bracket : (w v : ClassWalker) (xs ys : List ℕ) (p : PosixClass) → bracket_here w xs ≡ Some p → v ≡ passed w → ys ≡ drop 9 xs →
    (rest_replaced w xs ≡ property_of p ++ rest_replaced v ys) × (rest_behind w xs ≡ rest_behind v ys)
step_bracket w v xs ys p here e q =
    let found = here_bracket w xs p here in
    let over = over_bracket w xs p found.0 found.1 in (
      over.0 ∙ ap (λ (u : ClassWalker). property_of p ++ rest_replaced u (drop 9 xs)) (sym e) ∙ ap (λ (zs : List ℕ). property_of p ++ rest_replaced v zs) (sym q),
      over.1 ∙ ap (λ (u : ClassWalker). rest_behind u (drop 9 xs)) (sym e) ∙ ap (rest_behind v) (sym q),
    )

pub step_byte : (w v : ClassWalker) (xs ys : List ℕ) (b : ℕ) → front xs ≡ Some b → ys ≡ drop 1 xs → closes w b ≡ false → v ≡ stepped w b → bracket_here w xs ≡ None →
    (rest_replaced w xs ≡ (b ∷ []) ++ rest_replaced v ys) × (rest_behind w xs ≡ rest_behind v ys)
step_byte w v [] ys b p q goes e none = let z : ◌≡◌ {A = ℕ} 0 1 = cc in absurd (omega arith)
step_byte w v (x ∷ xs) ys b p q goes e none =
    let is : x ≡ b = cc in
    let over = over_byte w x xs (ap (closes w) is ∙ goes) none in (
      over.0 ∙ ap (λ (c : ℕ). c ∷ rest_replaced (stepped w c) xs) is ∙ ap (λ (u : ClassWalker). b ∷ rest_replaced u xs) (sym e) ∙ ap (λ (zs : List ℕ). b ∷ rest_replaced v zs) (sym q),
      over.1 ∙ ap (λ (c : ℕ). rest_behind (stepped w c) xs) is ∙ ap (λ (u : ClassWalker). rest_behind u xs) (sym e) ∙ ap (rest_behind v) (sym q),
    )

pub step_closing : (w : ClassWalker) (xs ys : List ℕ) (b : ℕ) → front xs ≡ Some b → ys ≡ drop 1 xs → closes w b ≡ true →
    (rest_replaced w xs ≡ (b ∷ []) ++ []) × (rest_behind w xs ≡ ys)
step_closing w [] ys b p q shut = let z : ◌≡◌ {A = ℕ} 0 1 = cc in absurd (omega arith)
step_closing w (x ∷ xs) ys b p q shut =
    let is : x ≡ b = cc in
    let over = over_closing w x xs (ap (closes w) is ∙ shut) in
    (over.0 ∙ ap (λ (c : ℕ). c ∷ []) is, over.1 ∙ sym q)

-- What is left behind a step of the walk, and behind the class.
joined : (w : ClassWalker) (xs piece rest behind : List ℕ) → rest_replaced w xs ≡ piece ++ rest → rest_behind w xs ≡ behind →
    left_from (Some w) xs ≡ piece ++ (rest ++ with_properties behind)
joined w xs piece rest behind p q =
    ap (λ (us : List ℕ). us ++ with_properties (rest_behind w xs)) p ∙ ap (λ (us : List ℕ). (piece ++ rest) ++ with_properties us) q ∙ append_assoc piece rest (with_properties behind)

pub past_a_bracket : (w v : ClassWalker) (xs ys : List ℕ) (p : PosixClass) → bracket_here w xs ≡ Some p → v ≡ passed w → ys ≡ drop 9 xs →
    (length ys < length xs) × (left_from (Some w) xs ≡ property_of p ++ left_from (Some v) ys)
past_a_bracket w v xs ys p here e q =
    let step = step_bracket w v xs ys p here e q in
    (shorter xs here q, joined w xs (property_of p) (rest_replaced v ys) (rest_behind v ys) step.0 step.1) where
      shorter : (xs : List ℕ) → bracket_here w xs ≡ Some p → ys ≡ drop 9 xs → length ys < length xs
      shorter [] here q = let z : ◌≡◌ {A = ℕ} 0 1 = cc in absurd (omega arith)
      shorter (x ∷ xs) here q = omega (arith, simp length-drop at (ap length q))

-- what the walk is behind a byte
abbrev pub walk_behind : ClassWalker → ℕ → Option ClassWalker
walk_behind w b = cond (closes w b) None (Some (stepped w b))

pub past_a_byte : (w : ClassWalker) (xs ys : List ℕ) (b : ℕ) → front xs ≡ Some b → ys ≡ drop 1 xs → bracket_here w xs ≡ None →
    (length ys < length xs) × (left_from (Some w) xs ≡ (b ∷ []) ++ left_from (walk_behind w b) ys)
past_a_byte w xs ys b p q none = (shorter xs p q, go (closes w b) refl) where
  shorter : (xs : List ℕ) → front xs ≡ Some b → ys ≡ drop 1 xs → length ys < length xs
  shorter [] p q = let z : ◌≡◌ {A = ℕ} 0 1 = cc in absurd (omega arith)
  shorter (x ∷ xs) p q = omega (arith, simp length-drop at (ap length q))

  go : (t : Bool) → closes w b ≡ t → left_from (Some w) xs ≡ (b ∷ []) ++ left_from (cond t None (Some (stepped w b))) ys
  go true shut =
      let step = step_closing w xs ys b p q shut in
      joined w xs (b ∷ []) [] ys step.0 step.1
  go false goes =
      let step = step_byte w (stepped w b) xs ys b p q goes refl none in
      joined w xs (b ∷ []) (rest_replaced (stepped w b) ys) (rest_behind (stepped w b) ys) step.0 step.1

-- No bracket stands behind the first n bytes: none is found in what is left,
pub none_found : (w : ClassWalker) (xs : List ℕ) (n : ℕ) → is_some (bracket_here w (take (length xs - n) (drop n xs))) ≡ false → bracket_here w (drop n xs) ≡ None
none_found w xs n e =
    let whole : take (length xs - n) (drop n xs) ≡ drop n xs = take_all _ _ (omega (arith, length-drop n xs)) in
    go _ (ap (λ (zs : List ℕ). is_some (bracket_here w zs)) (sym whole) ∙ e) where
      go : (o : Option PosixClass) → is_some o ≡ false → o ≡ None
      go None e = refl
      go (Some p) e = absurd (clash (sym e))

-- or the byte there begins none.
pub none_begins : (w : ClassWalker) (xs : List ℕ) (n : ℕ) → n < length xs → (get_or xs n 0 ≡ 91 → ⊥) → bracket_here w (drop n xs) ≡ None
none_begins w xs n h other =
    at_drop_more (bracket_here w) xs n 0 h
    ∙ ap (λ (t : Bool). cond (t && not (is_escaped w.state)) (bracket_at (get_or xs n 0 ∷ drop (n + 1) xs)) None) (ne_eqb (get_or xs n 0) 91 other)

-- A run of a class's bytes that stay, by one byte more.
pub run_on : (w v : ClassWalker) (xs : List ℕ) (n : ℕ) (k : Option ClassWalker) → n < length xs → bracket_here v (drop n xs) ≡ None → walk_behind v (get_or xs n 0) ≡ k →
    left_from (Some w) xs ≡ take n xs ++ left_from (Some v) (drop n xs) → left_from (Some w) xs ≡ take (n + 1) xs ++ left_from k (drop (n + 1) xs)
run_on w v xs n k h none behind stays =
    let b = get_or xs n 0 in
    let ys = drop (n + 1) xs in
    let step = past_a_byte v (drop n xs) ys b (at_drop_more front xs n 0 h) (sym (drop-drop 1 n xs)) none in
    stays ∙ ap (λ (us : List ℕ). take n xs ++ us) (step.1 ∙ ap (λ (o : Option ClassWalker). b ∷ left_from o ys) behind)
    ∙ sym (append_assoc (take n xs) (b ∷ []) (left_from k ys)) ∙ ap (λ (us : List ℕ). us ++ left_from k ys) (sym (take_more xs n 0 h))

-- nothing is left in a class where the text ends
pub past_the_end : (w : ClassWalker) (xs : List ℕ) → xs ≡ [] → left_from (Some w) xs ≡ []
past_the_end w xs e = let step = rest_nil w xs e in joined w xs [] [] [] step.0 step.1 ∙ ap (flat_map token_with_properties) (cut_nil first spelled)

-- behind the `[` that opens a class
pub past_an_opening : (xs ys : List ℕ) → front xs ≡ Some 91 → ys ≡ drop 1 xs → (length ys < length xs) × (with_properties xs ≡ (91 ∷ []) ++ left_from (Some opened) ys)
past_an_opening xs ys p q =
    let heads = class_heads xs ys (rest_behind opened ys) p q refl in (
      shorter xs p q,
      ap (flat_map token_with_properties) heads.0
          ∙ ap (λ (us : List ℕ). us ++ with_properties (rest_behind opened ys)) (class_whole xs ys p q),
    ) where
      shorter : (xs : List ℕ) → front xs ≡ Some 91 → ys ≡ drop 1 xs → length ys < length xs
      shorter [] p q = let z : ◌≡◌ {A = ℕ} 0 1 = cc in absurd (omega arith)
      shorter (x ∷ xs) p q = omega (arith, simp length-drop at (ap length q))

-- what a slice from 1 on has
pub behind_first : (xs : List ℕ) → take (length xs - 1) (drop 1 xs) ≡ drop 1 xs
behind_first xs = take_all _ _ (omega (arith, length-drop 1 xs))

-- behind that `[` and the bytes after it that stay
pub past_an_opened_run : (xs ys zs : List ℕ) (n : ℕ) (k : Option ClassWalker) → front xs ≡ Some 91 → ys ≡ drop 1 xs →
    left_from (Some opened) ys ≡ take n ys ++ left_from k (drop n ys) → zs ≡ drop (n + 1) xs →
    (length zs < length xs) × (with_properties xs ≡ take (n + 1) xs ++ left_from k zs)
past_an_opened_run xs ys zs n k p q stays r =
    let past = past_an_opening xs ys p q in
    let behind : drop n ys ≡ zs = ap (drop n) q ∙ drop-drop n 1 xs ∙ ap (λ (m : ℕ). drop m xs) (let e : 1 + n ≡ n + 1 = omega arith in e) ∙ sym r in (
      omega (arith, past.0, ap length behind, length-drop n ys),
      past.1 ∙ ap (λ (us : List ℕ). 91 ∷ us) stays ∙ ap (λ (us : List ℕ). 91 ∷ (take n ys ++ left_from k us)) behind ∙ ap (λ (us : List ℕ). us ++ left_from k zs) (taken xs p q),
    ) where
      taken : (xs : List ℕ) → front xs ≡ Some 91 → ys ≡ drop 1 xs → 91 ∷ take n ys ≡ take (n + 1) xs
      taken [] p q = let z : ◌≡◌ {A = ℕ} 0 1 = cc in absurd (omega arith)
      taken (x ∷ xs) p q =
          let is : 91 ≡ x = cc in
          ap (λ (c : ℕ). c ∷ take n ys) is ∙ ap (λ (us : List ℕ). x ∷ take n us) q ∙ ap (λ (m : ℕ). take m (x ∷ xs)) (let e : suc n ≡ n + 1 = omega arith in e)

-- A token that is no class stays as it is.
same_outside : (x : ℕ) (xs : List ℕ) → (x ≡ 91 → ⊥) → token_with_properties (first (x ∷ xs)) ≡ spelled (first (x ∷ xs))
unfolding first
same_outside x xs n = go (eqb x 92) (opens_comment (x ∷ xs)) (ne_eqb x 91 n) xs where
  shape : Bool → Bool → Bool → List ℕ → Token
  shape s t u ys = cond s (escaping ys) (cond t (class (x ∷ take (class_length opened xs) xs)) (cond u (comment (take (comment_length false (x ∷ xs)) (x ∷ xs))) (plain x)))

  go : (s u : Bool) → eqb x 91 ≡ false → (ys : List ℕ) → token_with_properties (shape s (eqb x 91) u ys) ≡ spelled (shape s (eqb x 91) u ys)
  go true u e [] = refl
  go true u e (y ∷ ys) = refl
  go false u e ys = subst (λ (t : Bool). token_with_properties (shape false t u ys) ≡ spelled (shape false t u ys)) (sym e) (inner u) where
    inner : (u : Bool) → token_with_properties (shape false false u ys) ≡ spelled (shape false false u ys)
    inner true = refl
    inner false = refl

pub past_a_token : (t : Read) (xs ys : List ℕ) → (front xs ≡ Some 91 → ⊥) → Taken t xs ys → with_properties xs ≡ spelled (meant t) ++ with_properties ys
past_a_token t [] ys n w = absurd (omega (arith, w.shorter))
past_a_token t (x ∷ xs) ys n w =
    let is = (taken_first t x xs ys w).0 in
    ap (flat_map token_with_properties) w.heads
    ∙ ap (λ (us : List ℕ). us ++ with_properties ys) (ap token_with_properties (sym is) ∙ same_outside x xs (λ h. n (ap Some h)) ∙ ap spelled is)
