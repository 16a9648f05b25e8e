-- Laws of marks: what is read, and what the numbering keeps.
use Rattle.std.proofs.Common.{◌≡◌, ℕ, zero, suc, pred, ◌+◌, ◌-◌, ◌<◌, Bool, true, false, cond, not, ◌&&◌, ◌||◌, eqb, List, [], ◌∷◌, ◌++◌, length, take, drop, Some, None, sym, refl, ap, ◌∙◌, arith, length-drop, length-take}
use Rattle.std.specs.List.{AllWithin, HoldsAt}
use Rattle.std.proofs.lemmas.Bool.{cond-true, cond-false, ne_eqb}
use Rattle.std.proofs.lemmas.Bool.Decides.{nat_tests}
use borrow.Author.Tests.{clash}
use Rattle.tokens.specs.declared.parser.Token.{Token as Read}
use Rattle.groups.specs.declared.captures.Group.{Group}
use Rattle.groups.specs.declared.captures.Group.TheVariants.{Capturing, Lookaround, Other}
use Rattle.groups.specs.declared.captures.Mark.TheVariants.{Opens, Token as Tokened}
use Rattle.groups.specs.declared.captures.Opening.{Opening}
use Rattle.groups.specs.declared.captures.Opening.TheVariants.{Last, Plain, Asked, Lookahead, Lookbehind, Angled, Quoted, Python, Unnamed}
use Rattle.tokens.specs.Cut.{past_front}
use Rattle.tokens.specs.Reads.{meant, Taken}
use Rattle.tokens.specs.Tokens.{escape, final, class, comment, plain, first, opens_group}
use Rattle.groups.specs.Captures.{Mark, group, token, opening, width, group_of, spelled_mark, first_mark, marks, groups_after, in_lookaround, number_after, valid_number, valid_numbers, numbers_from, depth_in_lookaround, depth_after, found_number, listed, name_byte, name_ends}
use Rattle.groups.specs.Marks.{TakenMark}
use Rattle.tokens.proofs.Cut.{cut_nil, cut_cons}
use Rattle.tokens.proofs.Lists.{drop_least}
use Rattle.tokens.proofs.Tokens.{taken_first}

wide : (o : Opening) → (n : ℕ) × (width o ≡ suc n)
wide Last = (0, refl)
wide Plain = (0, refl)
wide Asked = (1, refl)
wide Lookahead = (2, refl)
wide Lookbehind = (3, refl)
wide Angled = (2, refl)
wide Quoted = (2, refl)
wide Python = (2, refl)
wide Unnamed = (2, refl)

pub taken_group : (xs ys behind : List ℕ) (o : Opening) (g : Group) (n : ℕ) → opens_group xs ≡ true → behind ≡ drop 1 xs → o ≡ opening behind → n ≡ width o →
    ys ≡ drop n xs → g ≡ group_of o behind → TakenMark (Opens g) xs ys
unfolding first_mark
taken_group [] ys behind o g n h b e w l k = absurd (clash h)
taken_group (x ∷ xs) ys behind o g n h b e w l k =
    let op : o ≡ opening xs = e ∙ ap opening b in
    let m = (wide (opening xs)).0 in
    let many : width (opening xs) ≡ suc m = (wide (opening xs)).1 in
    let text = take (width (opening xs)) (x ∷ xs) in
    let here : first_mark (x ∷ xs) ≡ group (group_of (opening xs) xs) text = cond-true (opens_group (x ∷ xs)) _ _ h in
    let gone : ys ≡ drop m xs = l ∙ ap (λ (j : ℕ). drop j (x ∷ xs)) (w ∙ ap width op ∙ many) in
    let past : past_front first_mark spelled_mark x xs ≡ ys =
    ap (λ (s : Mark). drop (pred (length (spelled_mark s))) xs) here ∙ ap (λ (j : ℕ). drop (pred (length (take j (x ∷ xs)))) xs) many
    ∙ drop_least m (length (take m xs)) xs (length-take m xs) ∙ sym gone in
    record {
      text = text;
      heads = cut_cons first_mark spelled_mark x xs ∙ ap (λ (s : Mark). s ∷ marks (past_front first_mark spelled_mark x xs)) here
          ∙ ap (λ (zs : List ℕ). group (group_of (opening xs) xs) text ∷ marks zs) past
          ∙ ap (λ (h : Group). group h text ∷ marks ys) (sym (k ∙ ap (λ (p : Opening). group_of p behind) op ∙ ap (group_of (opening xs)) b));
      shorter = omega (arith, simp length-drop at (ap length gone));
    }

pub taken_other : (t : Read) (xs ys : List ℕ) → opens_group xs ≡ false → Taken t xs ys → TakenMark (Tokened t) xs ys
unfolding first_mark
taken_other t [] ys e w = absurd (omega (arith, w.shorter))
taken_other t (x ∷ xs) ys e w =
    let is : first (x ∷ xs) ≡ meant t = (taken_first t x xs ys w).0 in
    let here : first_mark (x ∷ xs) ≡ token (first (x ∷ xs)) = cond-false (opens_group (x ∷ xs)) _ _ e in
    let past : past_front first_mark spelled_mark x xs ≡ ys = ap (λ (s : Mark). drop (pred (length (spelled_mark s))) xs) here ∙ sym (taken_first t x xs ys w).1 in
    record {
      text = [];
      heads = cut_cons first_mark spelled_mark x xs ∙ ap (λ (s : Mark). s ∷ marks (past_front first_mark spelled_mark x xs)) (here ∙ ap token is)
          ∙ ap (λ (zs : List ℕ). token (meant t) ∷ marks zs) past;
      shorter = w.shorter;
    }

pub no_marks : (bs : List ℕ) → bs ≡ [] → marks bs ≡ []
no_marks bs e = ap marks e ∙ cut_nil first_mark spelled_mark

-- A lookaround is open exactly where the depth is not 0.
open_deep : (groups : List Bool) → in_lookaround groups ≡ not (eqb (depth_in_lookaround groups) 0)
open_deep [] = refl
open_deep (l ∷ groups) = go (depth_in_lookaround groups) (open_deep groups) l where
  go : (d : ℕ) → in_lookaround groups ≡ not (eqb d 0) → (l : Bool) → (l || in_lookaround groups) ≡ not (eqb (cond (eqb d 0) (cond l 1 0) (d + 1)) 0)
  go d e l = shown (eqb d 0) refl l where
    shown : (z : Bool) → eqb d 0 ≡ z → (l : Bool) → (l || in_lookaround groups) ≡ not (eqb (cond z (cond l 1 0) (d + 1)) 0)
    shown true is true = refl
    shown true is false = e ∙ ap not is
    shown false is true = ap not (sym (ne_eqb (d + 1) 0 (λ h. omega arith)))
    shown false is false = e ∙ ap not is ∙ ap not (sym (ne_eqb (d + 1) 0 (λ h. omega arith)))

-- the innermost group is left
close_one : (groups : List Bool) → depth_in_lookaround (drop 1 groups) ≡ depth_in_lookaround groups - 1
close_one [] = refl
close_one (l ∷ groups) = go (depth_in_lookaround groups) l where
  go : (d : ℕ) (l : Bool) → d ≡ cond (eqb d 0) (cond l 1 0) (d + 1) - 1
  go d true = grind (arith, nat_tests)
  go d false = grind (arith, nat_tests)

-- The depth behind a mark is that of the groups that are open behind it.
pub deep_after : (groups : List Bool) (m : Mark) → depth_in_lookaround (groups_after groups m) ≡ depth_after (depth_in_lookaround groups) m
deep_after groups (group Capturing bs) = refl
deep_after groups (group Lookaround bs) = go (depth_in_lookaround groups) where
  go : (d : ℕ) → cond (eqb d 0) 1 (d + 1) ≡ d + 1
  go d = grind (arith, nat_tests)
deep_after groups (group Other bs) = refl
deep_after groups (token (escape b)) = refl
deep_after groups (token final) = refl
deep_after groups (token (class bs)) = refl
deep_after groups (token (comment bs)) = refl
deep_after groups (token (plain b)) = go (eqb b 41) where
  go : (z : Bool) → depth_in_lookaround (cond z (drop 1 groups) groups) ≡ cond z (depth_in_lookaround groups - 1) (depth_in_lookaround groups)
  go true = close_one groups
  go false = refl

-- The number that is found is the one that is valid.
pub found_valid : (groups : List Bool) (n : ℕ) (m : Mark) → listed (found_number (depth_in_lookaround groups) n m) ≡ valid_number groups n m
found_valid groups n (group Capturing bs) = go (eqb (depth_in_lookaround groups) 0) (open_deep groups) where
  go : (z : Bool) → in_lookaround groups ≡ not z → listed (cond z (Some (n + 1)) None) ≡ cond (in_lookaround groups) [] ((n + 1) ∷ [])
  go true e = sym (cond-false (in_lookaround groups) [] ((n + 1) ∷ []) e)
  go false e = sym (cond-true (in_lookaround groups) [] ((n + 1) ∷ []) e)
found_valid groups n (group Lookaround bs) = refl
found_valid groups n (group Other bs) = refl
found_valid groups n (token t) = refl

-- a byte that ends the search for the one that closes a name
abbrev pub stops : ℕ → ℕ → Bool
stops close b = eqb b close || not (name_byte b)

past_name : (close b : ℕ) (bs : List ℕ) → stops close b ≡ false → name_ends close (b ∷ bs) ≡ name_ends close bs
past_name close b bs = go (eqb b close) (name_byte b) where
  go : (z t : Bool) → (z || not t) ≡ false → (z || (t && name_ends close bs)) ≡ name_ends close bs
  go true t e = absurd (clash (sym e))
  go false true e = refl
  go false false e = absurd (clash (sym e))

at_stop : (close b : ℕ) (bs : List ℕ) → stops close b ≡ true → name_ends close (b ∷ bs) ≡ eqb b close
at_stop close b bs = go (eqb b close) (name_byte b) where
  go : (z t : Bool) → (z || not t) ≡ true → (z || (t && name_ends close bs)) ≡ z
  go true t e = refl
  go false true e = absurd (clash e)
  go false false e = refl

-- The name is closed if a byte that ends the search is found, and closes it.
pub never_closed : (close : ℕ) (bs : List ℕ) → AllWithin (λ b. stops close b ≡ false) bs 0 (length bs) → name_ends close bs ≡ false
never_closed close [] all = refl
never_closed close (b ∷ bs) all =
    past_name close b bs (all 0 0 (omega arith) (omega arith)) ∙ never_closed close bs (λ k d l h. all (suc k) d (omega arith) (omega (arith, h)))

pub closed_where : (close x : ℕ) (bs : List ℕ) (i : ℕ) → stops close x ≡ true → i < length bs → HoldsAt (λ y. y ≡ x) bs i →
    AllWithin (λ b. stops close b ≡ false) bs 0 i → name_ends close bs ≡ eqb x close
closed_where close x [] i s h at all = absurd (omega (arith, h))
closed_where close x (b ∷ bs) zero s h at all =
    at_stop close b bs (ap (stops close) (at 0) ∙ s) ∙ ap (λ y. eqb y close) (at 0)
closed_where close x (b ∷ bs) (suc i) s h at all =
    past_name close b bs (all 0 0 (omega arith) (omega arith))
    ∙ closed_where close x bs i s (omega (arith, h)) (λ d. at d) (λ k d l h. all (suc k) d (omega arith) (omega (arith, h)))

-- The numbers that the depth gives are those that are valid.
pub numbers_valid : (groups : List Bool) (n : ℕ) (ms : List Mark) → numbers_from (depth_in_lookaround groups) n ms ≡ valid_numbers groups n ms
numbers_valid groups n [] = refl
numbers_valid groups n (m ∷ ms) =
    ap (λ ns. ns ++ numbers_from (depth_after (depth_in_lookaround groups) m) (number_after n m) ms) (found_valid groups n m)
    ∙ ap (λ d. valid_number groups n m ++ numbers_from d (number_after n m) ms) (sym (deep_after groups m))
    ∙ ap (λ ns. valid_number groups n m ++ ns) (numbers_valid (groups_after groups m) (number_after n m) ms)
