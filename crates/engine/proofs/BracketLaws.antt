-- Laws of the bracket engine's rule, over units.
use Rattle.std.proofs.Common.{◌≡◌, ℕ, zero, suc, ◌+◌, ◌-◌, ◌<◌, ◌≤◌, Bool, true, false, cond, ◌||◌, eqb, ltb, ◌⊎◌, List, [], ◌∷◌, ◌++◌, length, take, Some, None, Option, sym, refl, ap, ◌∙◌, subst, inl, inr, ⊎_elim, arith}
use Rattle.std.proofs.lemmas.List.{take_all}
use Rattle.std.proofs.lemmas.Bool.{cond-true, cond-false, ltb-true, ltb-false, lt-ltb, le-ltb, eqb-true, eq-eqb, ne_eqb, cases_lt, cases_eq, or_parts, or_cases, or_right}
use Rattle.std.proofs.lemmas.Option.{none-some}
use borrow.Author.Tests.{clash}
use Rattle.tokens.specs.Tokens.{Token, escape, final, class, comment, plain, is_closed}
use Rattle.engine.specs.declared.bracket.BracketFault.{BracketFault}
use Rattle.engine.specs.declared.bracket.BracketFault.TheVariants.{Unopened, Unclosed, UnclosedClass, FinalBackslash}
use Rattle.engine.specs.Brackets.{opens, closes, openings, closings, leaves, NeverOverclosed, Ends, Ruled, some_prefix, last_leaves, fault_from, fault_in, final_fault, depth_after}

-- units that somewhere close more groups than are open, of `depth` before them
abbrev pub falls : ℕ → List Token → Bool
falls depth us = some_prefix (λ ps. ltb (depth + openings ps) (closings ps)) us

prefix_same : (P Q : List Token → Bool) (us : List Token) → ((ps : List Token) → P ps ≡ Q ps) → some_prefix P us ≡ some_prefix Q us
prefix_same P Q [] same = same []
prefix_same P Q (u ∷ us) same =
    ap (λ (t : Bool). t || some_prefix (λ ps. P (u ∷ ps)) us) (same [])
    ∙ ap (λ (t : Bool). Q [] || t) (prefix_same (λ ps. P (u ∷ ps)) (λ ps. Q (u ∷ ps)) us (λ ps. same (u ∷ ps)))

prefix_none : (P : List Token → Bool) (us : List Token) → P [] ≡ true → some_prefix P us ≡ true
prefix_none P [] e = e
prefix_none P (u ∷ us) e = ap (λ (t : Bool). t || some_prefix (λ ps. P (u ∷ ps)) us) e

prefix_found : (P : List Token → Bool) (us : List Token) → some_prefix P us ≡ true → (n : ℕ) × (P (take n us) ≡ true)
prefix_found P [] e = (0, e)
prefix_found P (u ∷ us) e = ⊎_elim
    (λ h. (0, h))
    (λ h. let w = prefix_found (λ ps. P (u ∷ ps)) us h in (suc w.0, w.1))
    (or_cases (P []) (some_prefix (λ ps. P (u ∷ ps)) us) e)

prefix_each : (P : List Token → Bool) (us : List Token) → some_prefix P us ≡ false → (n : ℕ) → P (take n us) ≡ false
prefix_each P [] e zero = e
prefix_each P [] e (suc n) = e
prefix_each P (u ∷ us) e zero = (or_parts (P []) (some_prefix (λ ps. P (u ∷ ps)) us) e).0
prefix_each P (u ∷ us) e (suc n) = prefix_each (λ ps. P (u ∷ ps)) us (or_parts (P []) (some_prefix (λ ps. P (u ∷ ps)) us) e).1 n

-- two comparisons that agree
ltb_same : (a b c d x y : ℕ) → a + x ≡ c + y → b + x ≡ d + y → ltb a b ≡ ltb c d
ltb_same a b c d x y e f = ⊎_elim
    (λ h. lt-ltb a b h ∙ sym (lt-ltb c d (omega (arith, e, f))))
    (λ h. le-ltb a b h ∙ sym (le-ltb c d (omega (arith, e, f))))
    (cases_lt a b)

-- how many groups a unit opens, and how many it closes
abbrev up : Token → ℕ
up u = cond (opens u) 1 0

abbrev down : Token → ℕ
down u = cond (closes u) 1 0

falls_shift : (d d' : ℕ) (u : Token) (us : List Token) → d + up u ≡ d' + down u → falls d (u ∷ us) ≡ falls d' us
falls_shift d d' u us e =
    ap (λ (t : Bool). t || some_prefix (λ ps. ltb (d + openings (u ∷ ps)) (closings (u ∷ ps))) us) (le-ltb (d + 0) 0 (omega arith))
    ∙ prefix_same (λ ps. ltb (d + openings (u ∷ ps)) (closings (u ∷ ps))) (λ ps. ltb (d' + openings ps) (closings ps)) us
    (λ ps. ltb_same (d + (up u + openings ps)) (down u + closings ps) (d' + openings ps) (closings ps) 0 (down u) (omega (arith, e)) (omega arith))

-- a unit that leaves `d'` groups open of `d`
shift : (d d' : ℕ) (fault : Option BracketFault) (u : Token) (us : List Token) → d + up u ≡ d' + down u →
    fault_from d fault (u ∷ us) ≡ fault_from d' (leaves u) us
shift d d' fault u us e =
    ap (λ (t : Bool). cond t (Some Unopened) (cond (ltb (closings (u ∷ us)) (d + openings (u ∷ us))) (Some Unclosed) (last_leaves (leaves u) us))) (falls_shift d d' u us e)
    ∙ ap (λ (t : Bool). cond (falls d' us) (Some Unopened) (cond t (Some Unclosed) (last_leaves (leaves u) us)))
    (ltb_same (down u + closings us) (d + (up u + openings us)) (closings us) (d' + openings us) 0 (down u) (omega arith) (omega (arith, e)))

-- no unit opens and closes
not_both : (u : Token) → opens u ≡ true → closes u ≡ false
not_both (escape b) e = absurd (clash e)
not_both final e = absurd (clash e)
not_both (class bs) e = absurd (clash e)
not_both (comment bs) e = absurd (clash e)
not_both (plain b) e = let is = eqb-true b 40 e in ne_eqb b 41 (λ h. omega arith)

-- behind a unit `d'` groups are open
abbrev Goes : ℕ → Token → Type 0
Goes d u = (d' : ℕ) × (depth_after d u ≡ Some d') × (d + up u ≡ d' + down u)

-- a unit that closes a group where none is open
abbrev Stuck : ℕ → Token → Type 0
Stuck d u = (depth_after d u ≡ None) × (d ≡ 0) × (opens u ≡ false) × (closes u ≡ true)

way : (d : ℕ) (u : Token) → Goes d u ⊎ Stuck d u
way d u = go (opens u) refl (closes u) refl (cases_eq d 0) where
  shape : (s t : Bool) → opens u ≡ s → closes u ≡ t → depth_after d u ≡ cond s (Some (d + 1)) (cond t (cond (eqb d 0) None (Some (d - 1))) (Some d))
  shape s t e f =
      ap (λ (b : Bool). cond b (Some (d + 1)) (cond (closes u) (cond (eqb d 0) None (Some (d - 1))) (Some d))) e
      ∙ ap (λ (b : Bool). cond s (Some (d + 1)) (cond b (cond (eqb d 0) None (Some (d - 1))) (Some d))) f

  ups : (s : Bool) → opens u ≡ s → up u ≡ cond s 1 0
  ups s e = ap (λ (b : Bool). cond b 1 0) e

  downs : (t : Bool) → closes u ≡ t → down u ≡ cond t 1 0
  downs t f = ap (λ (b : Bool). cond b 1 0) f

  go : (s : Bool) → opens u ≡ s → (t : Bool) → closes u ≡ t → (d ≡ 0) ⊎ (d ≡ 0 → ⊥) → Goes d u ⊎ Stuck d u
  go true e true f z = absurd (clash (sym (not_both u e) ∙ f))
  go true e false f z = inl (d + 1, shape true false e f, omega (arith, ups true e, downs false f))
  go false e true f (inl z) = inr (shape false true e f ∙ cond-true (eqb d 0) None (Some (d - 1)) (eq-eqb d 0 z), z, e, f)
  go false e true f (inr n) =
      let one : 1 ≤ d = ⊎_elim (λ (h : d < 1). absurd (n (omega arith))) (λ h. h) (cases_lt d 1) in
      inl (d - 1, shape false true e f ∙ cond-false (eqb d 0) None (Some (d - 1)) (ne_eqb d 0 n), omega (arith, ups false e, downs true f))
  go false e false f z = inl (d, shape false false e f, omega (arith, ups false e, downs false f))

falls_stuck : (d : ℕ) (u : Token) (us : List Token) → d ≡ 0 → opens u ≡ false → closes u ≡ true → falls d (u ∷ us) ≡ true
falls_stuck d u us z e f =
    or_right (ltb (d + 0) 0) _
    (prefix_none (λ ps. ltb (d + openings (u ∷ ps)) (closings (u ∷ ps))) us
    (lt-ltb (d + (up u + 0)) (down u + 0) (omega (arith, z, ap {B = ℕ} (λ (b : Bool). cond b 1 0) e, ap {B = ℕ} (λ (b : Bool). cond b 1 0) f))))

pub fault_on : (d d' : ℕ) (fault : Option BracketFault) (u : Token) (us : List Token) → depth_after d u ≡ Some d' →
    fault_from d fault (u ∷ us) ≡ fault_from d' (leaves u) us
fault_on d d' fault u us e = ⊎_elim
    (λ w. let same : Some w.0 ≡ Some d' = sym w.1 ∙ e in let is : w.0 ≡ d' = cc in shift d d' fault u us (w.2 ∙ ap (λ (k : ℕ). k + down u) is))
    (λ w. absurd (none-some d' (sym w.0 ∙ e)))
    (way d u)

pub fault_stuck : (d : ℕ) (fault : Option BracketFault) (u : Token) (us : List Token) → depth_after d u ≡ None → fault_from d fault (u ∷ us) ≡ Some Unopened
fault_stuck d fault u us e = ⊎_elim
    (λ w. absurd (none-some w.0 (sym e ∙ w.1)))
    (λ w. cond-true (falls d (u ∷ us)) _ _ (falls_stuck d u us w.1 w.2 w.3))
    (way d u)

-- a unit opens one group at most
pub depth_bound : (d d' : ℕ) (u : Token) → depth_after d u ≡ Some d' → d' ≤ d + 1
depth_bound d d' u e = ⊎_elim
    (λ w. let same : Some w.0 ≡ Some d' = sym w.1 ∙ e in let is : w.0 ≡ d' = cc in go (opens u) (closes u) (w.2 ∙ ap (λ (k : ℕ). k + down u) is))
    (λ w. absurd (none-some d' (sym w.0 ∙ e)))
    (way d u) where
      go : (s t : Bool) → d + cond s 1 0 ≡ d' + cond t 1 0 → d' ≤ d + 1
      go true true h = omega (arith, h)
      go true false h = omega (arith, h)
      go false true h = omega (arith, h)
      go false false h = omega (arith, h)

pub fault_end : (d : ℕ) (fault : Option BracketFault) → fault_from d fault [] ≡ final_fault d fault
fault_end d fault =
    cond-false (ltb (d + 0) 0) _ _ (le-ltb (d + 0) 0 (omega arith))
    ∙ ap (λ (k : ℕ). cond (ltb 0 k) (Some Unclosed) fault) (omega arith)

-- Units behind others that never close more groups than are open.
pub fault_append : (us vs : List Token) (d : ℕ) (fault : Option BracketFault) → falls d us ≡ false →
    fault_from d fault (us ++ vs) ≡ fault_from (d + openings us - closings us) (last_leaves fault us) vs
fault_append [] vs d fault h = ap (λ (k : ℕ). fault_from k fault vs) (omega arith)
fault_append (u ∷ us) vs d fault h = ⊎_elim
    (λ w.
    shift d w.0 fault u (us ++ vs) w.2
    ∙ fault_append us vs w.0 (leaves u) (sym (falls_shift d w.0 u us w.2) ∙ h)
    ∙ ap (λ (k : ℕ). fault_from k (last_leaves (leaves u) us) vs) (omega (arith, w.2)))
    (λ w. absurd (clash (sym h ∙ falls_stuck d u us w.1 w.2 w.3)))
    (way d u)

last_in : (fault : Option BracketFault) (before : List Token) (u : Token) → last_leaves fault (before ++ u ∷ []) ≡ leaves u
last_in fault [] u = refl
last_in fault (v ∷ before) u = last_in (leaves v) before u

-- what the last unit leaves is left by some last unit, or there is no unit
last_is : (fault : Option BracketFault) (us : List Token) → (us ≡ []) ⊎ ((before : List Token) × (u : Token) × (us ≡ before ++ u ∷ []) × (leaves u ≡ last_leaves fault us))
last_is fault [] = inl refl
last_is fault (u ∷ us) = ⊎_elim
    (λ e. inr ([], u, ap (λ (vs : List Token). u ∷ vs) e, sym (ap (last_leaves (leaves u)) e)))
    (λ w. inr (u ∷ w.0, w.1, ap (λ (vs : List Token). u ∷ vs) w.2, w.3))
    (last_is (leaves u) us)

ends : (us : List Token) (r : Option BracketFault) → last_leaves None us ≡ r → Ends us r
ends us None e = λ before u is. sym (last_in None before u) ∙ ap (last_leaves None) (sym is) ∙ e
ends us (Some f) e = ⊎_elim
    (λ z. absurd (none-some f (sym (ap (last_leaves None) z) ∙ e)))
    (λ w. (w.0, w.1, w.2, w.3 ∙ e))
    (last_is None us)

-- a unit leaves one of two faults
leaves_unopened : {A : Type 0} (u : Token) → leaves u ≡ Some Unopened → A
leaves_unopened (escape b) e = absurd (none-some Unopened e)
leaves_unopened final e = let z : ◌≡◌ {A = ℕ} 0 1 = cc in absurd (omega arith)
leaves_unopened (class bs) e = go (is_closed bs) e where
  go : {A : Type 0} (t : Bool) → cond t None (Some UnclosedClass) ≡ Some Unopened → A
  go true e = absurd (none-some Unopened e)
  go false e = let z : ◌≡◌ {A = ℕ} 0 1 = cc in absurd (omega arith)
leaves_unopened (comment bs) e = absurd (none-some Unopened e)
leaves_unopened (plain b) e = absurd (none-some Unopened e)

leaves_unclosed : {A : Type 0} (u : Token) → leaves u ≡ Some Unclosed → A
leaves_unclosed (escape b) e = absurd (none-some Unclosed e)
leaves_unclosed final e = let z : ◌≡◌ {A = ℕ} 0 1 = cc in absurd (omega arith)
leaves_unclosed (class bs) e = go (is_closed bs) e where
  go : {A : Type 0} (t : Bool) → cond t None (Some UnclosedClass) ≡ Some Unclosed → A
  go true e = absurd (none-some Unclosed e)
  go false e = let z : ◌≡◌ {A = ℕ} 0 1 = cc in absurd (omega arith)
leaves_unclosed (comment bs) e = absurd (none-some Unclosed e)
leaves_unclosed (plain b) e = absurd (none-some Unclosed e)

never : (us : List Token) → falls 0 us ≡ false → NeverOverclosed us
never us e n = omega (arith, ltb-false (0 + openings (take n us)) (closings (take n us)) (prefix_each (λ ps. ltb (0 + openings ps) (closings ps)) us e n))

whole_never : (us : List Token) → NeverOverclosed us → closings us ≤ openings us
whole_never us h =
    let all = take_all (length us) us (omega arith) in
    subst (λ (vs : List Token). closings vs ≤ openings vs) all (h (length us))

-- the rule holds of what the function gives
pub ruled : (us : List Token) → Ruled us (fault_in us)
ruled us = go (falls 0 us) refl (ltb (closings us) (0 + openings us)) refl where
  settled : NeverOverclosed us → openings us ≡ closings us → (r : Option BracketFault) → last_leaves None us ≡ r → Ruled us r
  settled h e None l = (h, e, ends us None l)
  settled h e (Some Unopened) l = let w = ends us (Some Unopened) l in leaves_unopened w.1 w.3
  settled h e (Some Unclosed) l = let w = ends us (Some Unclosed) l in leaves_unclosed w.1 w.3
  settled h e (Some UnclosedClass) l = (h, e, ends us (Some UnclosedClass) l)
  settled h e (Some FinalBackslash) l = (h, e, ends us (Some FinalBackslash) l)

  go : (s : Bool) → falls 0 us ≡ s → (t : Bool) → ltb (closings us) (0 + openings us) ≡ t → Ruled us (cond s (Some Unopened) (cond t (Some Unclosed) (last_leaves None us)))
  go true e t f =
      let w = prefix_found (λ ps. ltb (0 + openings ps) (closings ps)) us e in
      record { up_to = w.0; more = omega (arith, ltb-true (0 + openings (take w.0 us)) (closings (take w.0 us)) w.1) }
  go false e true f = (never us e, omega (arith, ltb-true (closings us) (0 + openings us) f))
  go false e false f =
      settled (never us e) (omega (arith, whole_never us (never us e), ltb-false (closings us) (0 + openings us) f)) (last_leaves None us) refl

-- what a text that is fine is
pub fine_parts : (us : List Token) → fault_in us ≡ None → (falls 0 us ≡ false) × (openings us ≡ closings us) × (last_leaves None us ≡ None)
fine_parts us fine = go (falls 0 us) refl (ltb (closings us) (0 + openings us)) refl fine where
  go : (s : Bool) → falls 0 us ≡ s → (t : Bool) → ltb (closings us) (0 + openings us) ≡ t → cond s (Some Unopened) (cond t (Some Unclosed) (last_leaves None us)) ≡ None →
      (falls 0 us ≡ false) × (openings us ≡ closings us) × (last_leaves None us ≡ None)
  go true e t f n = absurd (none-some Unopened (sym n))
  go false e true f n = absurd (none-some Unclosed (sym n))
  go false e false f n = (e, omega (arith, whole_never us (never us e), ltb-false (closings us) (0 + openings us) f), n)
