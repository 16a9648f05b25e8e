-- Edits that leave UTF-8 as it is: a byte stays, or an ASCII byte gives way to ASCII bytes, and ASCII bytes may be added at the very end.
use Rattle.std.proofs.Common.{◌≡◌, ℕ, zero, suc, ◌<◌, ◌≤◌, Bool, true, ◌&&◌, ltb, ◌⊎◌, List, [], ◌∷◌, ◌++◌, length, IsUtf8, IsAscii, sym, refl, ap, ◌∙◌, subst, inl, inr, arith, length-drop}
use lib.Utf8.{scalar, scalars, encode, encodes}
use Rattle.std.specs.List.{flat_map, AllByRecursion}
use Rattle.std.proofs.lemmas.List.{append_assoc, append-nil}
use Rattle.std.proofs.lemmas.Bool.{and_parts, and_from, cases_lt, cond-false, cond_both, le-ltb, ltb-true}
use Rattle.std.proofs.lemmas.Str.{encode_ascii, IsUtf8-append, IsUtf8-encode, IsUtf8-from_ascii}
use Rattle.tokens.specs.Cut.{cut_within, cut, past_front}

abbrev pub ascii : List ℕ → Bool
ascii [] = true
ascii (b ∷ bs) = ltb b 128 && ascii bs

abbrev pub Edit : List ℕ → List ℕ → Type 0
Edit [] ys = ascii ys ≡ true
Edit (b ∷ xs) ys =
    ((zs : List ℕ) × (ys ≡ b ∷ zs) × Edit xs zs) ⊎ ((b < 128) × (us : List ℕ) × (zs : List ℕ) × (ascii us ≡ true) × (ys ≡ us ++ zs) × Edit xs zs)

is_ascii : (bs : List ℕ) → ascii bs ≡ true → IsAscii bs
is_ascii [] e i = omega arith
is_ascii (b ∷ bs) e zero = ltb-true b 128 (and_parts (ltb b 128) (ascii bs) e).0
is_ascii (b ∷ bs) e (suc i) = is_ascii bs (and_parts (ltb b 128) (ascii bs) e).1 i

pub ascii_append : (xs ys : List ℕ) → ascii xs ≡ true → ascii ys ≡ true → ascii (xs ++ ys) ≡ true
ascii_append [] ys p q = q
ascii_append (x ∷ xs) ys p q =
    let both = and_parts (ltb x 128) (ascii xs) p in
    and_from (ltb x 128) (ascii (xs ++ ys)) both.0 (ascii_append xs ys both.1 q)

ascii_utf8 : (bs : List ℕ) → ascii bs ≡ true → IsUtf8 bs
ascii_utf8 bs e = IsUtf8-from_ascii bs (is_ascii bs e)

-- the bytes of a character beyond ASCII are beyond ASCII
high_bytes : (c : ℕ) → 128 ≤ c → AllByRecursion (λ b. 128 ≤ b) (encode c)
unfolding encode
high_bytes c h =
    subst (AllByRecursion (λ b. 128 ≤ b)) (sym (cond-false (ltb c 128) _ _ (le-ltb c 128 h)))
    (cond_both (ltb c 2048) _ _ (AllByRecursion (λ b. 128 ≤ b)) (λ _. (omega arith, (omega arith, tt)))
    (λ _. cond_both (ltb c 65536) _ _ (AllByRecursion (λ b. 128 ≤ b)) (λ _. (omega arith, (omega arith, (omega arith, tt)))) (λ _. (omega arith, (omega arith, (omega arith, (omega arith, tt)))))))

-- and all of them stay
high_kept : (hs xs ys : List ℕ) → AllByRecursion (λ b. 128 ≤ b) hs → Edit (hs ++ xs) ys → (zs : List ℕ) × (ys ≡ hs ++ zs) × Edit xs zs
high_kept [] xs ys high e = (ys, refl, e)
high_kept (h ∷ hs) xs ys high (inl e) =
    let more = high_kept hs xs e.0 high.1 e.2 in
    (more.0, e.1 ∙ ap (λ (zs : List ℕ). h ∷ zs) more.1, more.2)
high_kept (h ∷ hs) xs ys high (inr e) = absurd (omega (arith, high.0, e.0))

encodes_edited : (cs ys : List ℕ) → scalars cs ≡ true → Edit (encodes cs) ys → IsUtf8 ys
encodes_edited [] ys s e = ascii_utf8 ys e
encodes_edited (c ∷ cs) ys s e = go (cases_lt c 128) (λ zs. encodes_edited cs zs parts.1) where
  parts : (scalar c ≡ true) × (scalars cs ≡ true)
  parts = and_parts (scalar c) (scalars cs) s

  kept : (zs : List ℕ) → ys ≡ encode c ++ zs → IsUtf8 zs → IsUtf8 ys
  kept zs is u = subst IsUtf8 (sym is) (IsUtf8-append (encode c) zs (IsUtf8-encode c parts.0) u)

  low : c < 128 → ((zs : List ℕ) → Edit (encodes cs) zs → IsUtf8 zs) → Edit (c ∷ encodes cs) ys → IsUtf8 ys
  low h rest (inl w) = kept w.0 (w.1 ∙ ap (λ (us : List ℕ). us ++ w.0) (sym (encode_ascii c h))) (rest w.0 w.2)
  low h rest (inr w) = subst IsUtf8 (sym w.4) (IsUtf8-append w.1 w.2 (ascii_utf8 w.1 w.3) (rest w.2 w.5))

  go : (c < 128) ⊎ (128 ≤ c) → ((zs : List ℕ) → Edit (encodes cs) zs → IsUtf8 zs) → IsUtf8 ys
  go (inl h) rest = low h rest (subst (λ (xs : List ℕ). Edit (xs ++ encodes cs) ys) (encode_ascii c h) e)
  go (inr h) rest =
      let w = high_kept (encode c) (encodes cs) ys (high_bytes c h) e in
      kept w.0 w.1 (rest w.0 w.2)

-- an edit of UTF-8 is UTF-8
pub utf8_edited : (bs ys : List ℕ) → IsUtf8 bs → Edit bs ys → IsUtf8 ys
utf8_edited bs ys u e = encodes_edited u.0 ys u.1.0 (subst (λ (xs : List ℕ). Edit xs ys) (sym u.1.1) e)

-- us may stand in the place of xs, whatever is edited behind it
abbrev pub Edits : List ℕ → List ℕ → Type 0
Edits xs us = (zs ys : List ℕ) → Edit zs ys → Edit (xs ++ zs) (us ++ ys)

pub edits_same : (xs : List ℕ) → Edits xs xs
edits_same [] zs ys e = e
edits_same (x ∷ xs) zs ys e = inl (xs ++ ys, refl, edits_same xs zs ys e)

removed : (xs : List ℕ) → ascii xs ≡ true → Edits xs []
removed [] p zs ys e = e
removed (x ∷ xs) p zs ys e =
    let both = and_parts (ltb x 128) (ascii xs) p in
    inr (ltb-true x 128 both.0, [], ys, refl, refl, removed xs both.1 zs ys e)

pub edits_ascii : (xs us : List ℕ) → 0 < length xs → ascii xs ≡ true → ascii us ≡ true → Edits xs us
edits_ascii [] us h p q zs ys e = absurd (omega arith)
edits_ascii (x ∷ xs) us h p q zs ys e =
    let both = and_parts (ltb x 128) (ascii xs) p in
    inr (ltb-true x 128 both.0, us, ys, q, refl, removed xs both.1 zs ys e)

pub edits_append : (xs us zs vs : List ℕ) → Edits xs us → Edits zs vs → Edits (xs ++ zs) (us ++ vs)
edits_append xs us zs vs p q ts ys e =
    subst (λ (l : List ℕ). Edit l ((us ++ vs) ++ ys)) (sym (append_assoc xs zs ts))
    (subst (λ (l : List ℕ). Edit (xs ++ (zs ++ ts)) l) (sym (append_assoc us vs ys)) (p (zs ++ ts) (vs ++ ys) (q ts ys e)))

pub edits_joined : {A : Type 0} (spelled piece : A → List ℕ) → ((p : A) → Edits (spelled p) (piece p)) → (ps : List A) → Edits (flat_map spelled ps) (flat_map piece ps)
edits_joined spelled piece each [] zs ys e = e
edits_joined spelled piece each (p ∷ ps) zs ys e =
    edits_append (spelled p) (piece p) (flat_map spelled ps) (flat_map piece ps) (each p) (edits_joined spelled piece each ps) zs ys e

pub edits_whole : (bs us : List ℕ) → Edits bs us → Edit bs us
edits_whole bs us p =
    subst (λ (l : List ℕ). Edit l us) (append-nil bs) (subst (λ (l : List ℕ). Edit (bs ++ []) l) (append-nil us) (p [] [] refl))

edit_within : {A : Type 0} (front : List ℕ → A) (spelled : A → List ℕ) (whole : List A → List ℕ) → whole [] ≡ [] →
    ((b : ℕ) (bs : List ℕ) (ps : List A) → Edit (past_front front spelled b bs) (whole ps) → Edit (b ∷ bs) (whole (front (b ∷ bs) ∷ ps))) →
    (n : ℕ) (bs : List ℕ) → length bs ≤ n → Edit bs (whole (cut_within front spelled n bs))
edit_within front spelled whole none step zero [] h = ap ascii none
edit_within front spelled whole none step zero (b ∷ bs) h = absurd (omega arith)
edit_within front spelled whole none step (suc n) [] h = ap ascii none
edit_within front spelled whole none step (suc n) (b ∷ bs) h =
    step b bs (cut_within front spelled n (past_front front spelled b bs))
    (edit_within front spelled whole none step n (past_front front spelled b bs) (simp length-drop (omega arith)))

-- the text that is made of the pieces is an edit, if each piece at the front of a text carries an edit of the rest on
pub edit_cut : {A : Type 0} (front : List ℕ → A) (spelled : A → List ℕ) (whole : List A → List ℕ) → whole [] ≡ [] →
    ((b : ℕ) (bs : List ℕ) (ps : List A) → Edit (past_front front spelled b bs) (whole ps) → Edit (b ∷ bs) (whole (front (b ∷ bs) ∷ ps))) →
    (bs : List ℕ) → Edit bs (whole (cut front spelled bs))
unfolding cut
edit_cut front spelled whole none step bs = edit_within front spelled whole none step (length bs) bs (omega arith)
