-- Laws of tokens.
use Rattle.std.proofs.Common.{◌≡◌, ℕ, suc, pred, ◌+◌, ◌-◌, Bool, true, false, cond, ◌&&◌, eqb, List, [], ◌∷◌, ◌++◌, length, take, drop, Some, None, Option, sym, refl, ap, ◌∙◌, ⊎_elim, arith, length-drop, length-take, Bor}
use Rattle.std.specs.List.{flat_map}
use Rattle.std.proofs.lemmas.List.{append_cancel_left}
use Rattle.std.proofs.lemmas.Bool.{eqb-true, eq-eqb, ne_eqb, cond-true, cond-false, and_left, cases_eq}
use Rattle.tokens.specs.declared.parser.Token.{Token as Read}
use Rattle.tokens.specs.declared.parser.Token.TheVariants.{Escape, FinalBackslash, Class, Comment, Plain}
use Rattle.tokens.specs.Cursor.{front}
use Rattle.tokens.specs.Reads.{meant, Told, Taken}
use Rattle.tokens.specs.Classes.{opened}
use Rattle.tokens.specs.Cut.{past_front, Honest}
use Rattle.tokens.specs.Tokens.{Token, escape, class, comment, plain, spelled, class_length, comment_length, opens_comment, escaping, first, tokens, newline_in, has_newline}
use Rattle.tokens.proofs.Cut.{cut_nil, cut_cons, cut_joined}
use Rattle.tokens.proofs.Classes.{newline_taken}
use Rattle.tokens.proofs.Lists.{take_drop_taken, drop_least}

honest_escaping : (bs : List ℕ) → spelled (escaping bs) ++ drop (pred (length (spelled (escaping bs)))) bs ≡ 92 ∷ bs
honest_escaping [] = refl
honest_escaping (b ∷ bs) = refl

-- a comment is never empty
pub commented : (b : ℕ) (bs : List ℕ) → (n : ℕ) × (comment_length false (b ∷ bs) ≡ suc n)
commented b bs = go (eqb b 41) where
  go : (t : Bool) → (n : ℕ) × (cond t 1 (suc (comment_length (eqb b 92) bs)) ≡ suc n)
  go true = (0, refl)
  go false = (comment_length (eqb b 92) bs, refl)

honest_taken : (n : ℕ) (b : ℕ) (bs : List ℕ) → take (suc n) (b ∷ bs) ++ drop (pred (length (take (suc n) (b ∷ bs)))) bs ≡ b ∷ bs
honest_taken n b bs = ap (λ (xs : List ℕ). b ∷ xs) (take_drop_taken n bs)

pub honest_first : Honest first spelled
unfolding first
honest_first b bs = go (eqb b 92) refl (eqb b 91) (opens_comment (b ∷ bs)) where
  shape : Bool → Bool → Bool → Token
  shape s t u = cond s (escaping bs) (cond t (class (b ∷ take (class_length opened bs) bs)) (cond u (comment (take (comment_length false (b ∷ bs)) (b ∷ bs))) (plain b)))

  go : (s : Bool) → eqb b 92 ≡ s → (t u : Bool) →
      spelled (shape s t u) ++ drop (pred (length (spelled (shape s t u)))) bs ≡ b ∷ bs
  go true e t u = honest_escaping bs ∙ ap (λ (x : ℕ). x ∷ bs) (sym (eqb-true b 92 e))
  go false e true u = honest_taken (class_length opened bs) b bs
  go false e false true = rw (commented b bs).1 (honest_taken (commented b bs).0 b bs)
  go false e false false = refl

-- the tokens joined are the text
pub tokens_joined : (bs : List ℕ) → flat_map spelled (tokens bs) ≡ bs
tokens_joined = cut_joined first spelled honest_first

-- nothing is both none and something
pub none_some : {A : Type 0} (b : ℕ) → ◌≡◌ {A = Option ℕ} None (Some b) → A
none_some b e = let z : ◌≡◌ {A = ℕ} 0 1 = cc in absurd (omega arith)

pub taken : (t : Read) (b : ℕ) (bs after : List ℕ) → first (b ∷ bs) ≡ meant t → after ≡ drop (pred (length (spelled (meant t)))) bs → Told t →
    Taken t (b ∷ bs) after
taken t b bs after is left said =
    let past : past_front first spelled b bs ≡ after = ap (λ (u : Token). drop (pred (length (spelled u))) bs) is ∙ sym left in
    record {
      heads = cut_cons first spelled b bs ∙ ap (λ (u : Token). u ∷ tokens (past_front first spelled b bs)) is ∙ ap (λ (xs : List ℕ). meant t ∷ tokens xs) past;
      spells = sym (honest_first b bs) ∙ ap (λ (u : Token). spelled u ++ past_front first spelled b bs) is ∙ ap (λ (xs : List ℕ). spelled (meant t) ++ xs) past;
      shorter = omega (arith, simp length-drop at (ap length left));
      told = said;
    }

pub taken_final : (xs ys : List ℕ) → front xs ≡ Some 92 → ys ≡ drop 1 xs → front ys ≡ None → Taken FinalBackslash xs ys
unfolding first
taken_final [] ys p q r = none_some 92 p
taken_final (b ∷ []) ys p q r = let e : b ≡ 92 = cc in taken FinalBackslash b [] ys (rw (eq-eqb b 92 e)) q tt
taken_final (b ∷ c ∷ bs) ys p q r = none_some c (sym r ∙ ap front q)

pub taken_escape : (xs ys zs : List ℕ) (c : ℕ) → front xs ≡ Some 92 → ys ≡ drop 1 xs → front ys ≡ Some c → zs ≡ drop 1 ys → Taken (Escape c) xs zs
unfolding first
taken_escape [] ys zs c p q r s = none_some 92 p
taken_escape (b ∷ []) ys zs c p q r s = none_some c (sym (ap front q) ∙ r)
taken_escape (b ∷ d ∷ bs) ys zs c p q r s =
    let e : b ≡ 92 = cc in
    let f : Some d ≡ Some c = sym (ap front q) ∙ r in
    let g : d ≡ c = cc in
    taken (Escape c) b (d ∷ bs) zs (rw (eq-eqb b 92 e) (ap escape g)) (s ∙ ap (drop 1) q) tt

taken_bare : (xs ys : List ℕ) (b : ℕ) → front xs ≡ Some b → (b ≡ 92 → ⊥) → (b ≡ 91 → ⊥) → opens_comment xs ≡ false → ys ≡ drop 1 xs → Taken (Plain b) xs ys
unfolding first
taken_bare [] ys b p n m o q = none_some b p
taken_bare (x ∷ xs) ys b p n m o q =
    let e : x ≡ b = cc in
    taken (Plain b) x xs ys (rw (ne_eqb x 92 (λ h. n (sym e ∙ h)), ne_eqb x 91 (λ h. m (sym e ∙ h))) (cond-false (opens_comment (x ∷ xs)) _ (plain x) o ∙ ap plain e)) q tt

-- behind the bytes that were taken
past_taken : (n x : ℕ) (xs : List ℕ) → drop (pred (length (take (suc n) (x ∷ xs)))) xs ≡ drop n xs
past_taken n x xs = drop_least n (length (take n xs)) xs (length-take n xs)

pub taken_comment : (xs ys : List ℕ) (text : Bor (List ℕ)) → front xs ≡ Some 40 → opens_comment xs ≡ true →
    text.now ≡ take (comment_length false xs) xs → ys ≡ drop (comment_length false xs) xs → Taken (Comment text) xs ys
unfolding first
taken_comment [] ys text p o t q = none_some 40 p
taken_comment (x ∷ xs) ys text p o t q =
    let e : x ≡ 40 = cc in
    let n = (commented x xs).0 in
    let whole : comment_length false (x ∷ xs) ≡ suc n = (commented x xs).1 in
    taken (Comment text) x xs ys
    (cond-false (eqb x 92) _ _ (ne_eqb x 92 (λ h. omega arith)) ∙ cond-false (eqb x 91) _ _ (ne_eqb x 91 (λ h. omega arith))
    ∙ cond-true (opens_comment (x ∷ xs)) _ (plain x) o ∙ ap comment (sym t))
    (q ∙ ap (λ (k : ℕ). drop k (x ∷ xs)) whole ∙ sym (past_taken n x xs)
    ∙ ap (λ (k : ℕ). drop (pred (length (take k (x ∷ xs)))) xs) (sym whole) ∙ ap (λ (us : List ℕ). drop (pred (length us)) xs) (sym t))
    tt

pub taken_class : (xs ys zs : List ℕ) (n : ℕ) (text : Bor (List ℕ)) (newline : Bool) → front xs ≡ Some 91 → ys ≡ drop 1 xs → n ≡ class_length opened ys →
    text.now ≡ take (n + 1 - 0) xs → zs ≡ drop n ys → newline ≡ newline_in opened ys → Taken (Class text newline) xs zs
unfolding first
taken_class [] ys zs n text newline p q l t r told = none_some 91 p
taken_class (x ∷ xs) ys zs n text newline p q l t r told =
    let e : x ≡ 91 = cc in
    let m = class_length opened xs in
    let nm : n ≡ m = l ∙ ap (class_length opened) q in
    let many : n + 1 - 0 ≡ suc m = omega (arith, nm) in
    let whole : text.now ≡ x ∷ take m xs = t ∙ ap (λ (k : ℕ). take k (x ∷ xs)) many in
    taken (Class text newline) x xs zs
    (cond-false (eqb x 92) _ _ (ne_eqb x 92 (λ h. omega arith)) ∙ cond-true (eqb x 91) _ _ (eq-eqb x 91 e) ∙ ap class (sym whole))
    (r ∙ ap (drop n) q ∙ ap (λ (k : ℕ). drop k xs) nm ∙ sym (past_taken m x xs) ∙ ap (λ (us : List ℕ). drop (pred (length us)) xs) (sym whole))
    (told ∙ ap (newline_in opened) q ∙ sym (newline_taken opened xs) ∙ ap has_newline (sym whole))

pub front_none : (xs : List ℕ) → front xs ≡ None → xs ≡ []
front_none [] e = refl
front_none (x ∷ xs) e = none_some x (sym e)

-- a comment begins with a `(`
pub not_comment : (xs : List ℕ) (b : ℕ) → front xs ≡ Some b → (b ≡ 40 → ⊥) → opens_comment xs ≡ false
not_comment [] b p n = refl
not_comment (x ∷ []) b p n = refl
not_comment (x ∷ y ∷ []) b p n = refl
not_comment (x ∷ y ∷ z ∷ xs) b p n =
    let e : x ≡ b = cc in
    and_left (eqb x 40) (eqb y 63 && eqb z 35) (ne_eqb x 40 (λ h. n (sym e ∙ h)))

pub no_tokens : (bs : List ℕ) → bs ≡ [] → tokens bs ≡ []
no_tokens bs e = ap tokens e ∙ cut_nil first spelled

-- what was taken is the token at the front, and what is left stands behind it
pub taken_first : (t : Read) (x : ℕ) (xs ys : List ℕ) → Taken t (x ∷ xs) ys → (first (x ∷ xs) ≡ meant t) × (ys ≡ past_front first spelled x xs)
taken_first t x xs ys w =
    let both : first (x ∷ xs) ∷ tokens (past_front first spelled x xs) ≡ meant t ∷ tokens ys = sym (cut_cons first spelled x xs) ∙ w.heads in
    let is : first (x ∷ xs) ≡ meant t = cc in (
      is,
      append_cancel_left (spelled (meant t)) ys (past_front first spelled x xs)
          (sym w.spells ∙ sym (honest_first x xs) ∙ ap (λ (u : Token). spelled u ++ past_front first spelled x xs) is),
    )

pub taken_plain : (xs ys : List ℕ) (b : ℕ) → front xs ≡ Some b → (b ≡ 92 → ⊥) → (b ≡ 91 → ⊥) → (b ≡ 40 → opens_comment xs ≡ false) → ys ≡ drop 1 xs → Taken (Plain b) xs ys
taken_plain xs ys b p n m o q =
    taken_bare xs ys b p n m (⊎_elim o (not_comment xs b p) (cases_eq b 40)) q
