-- Where the grammars of two lists are paired, and rivals stand in one order, links, prototypes and flags agree.
use Rattle.std.proofs.Common.{◌≡◌, ℕ, ◌<◌, ◌≤◌, Bool, true, ◌⊎◌, ◌↔◌, List, Some, None, Option, sym, refl, ◌∙◌, subst, inl, inr, ⊎_elim, arith}
use mathlib.Core.List.{List-discrete}
use native.Mathlib.Decide.{ℕ_discrete}
use Rattle.std.proofs.lemmas.Bool.{cases_lt}
use Rattle.grammar.specs.Names.{Text, main}
use Rattle.grammar.specs.Places.{At}
use Rattle.grammar.specs.Grammars.{Scope, Reference, named, inline, by_scope, file, Grammar}
use Rattle.linker.specs.Links.{LastOf, OfScope, OfName, Found, Missing, plain_text, asked, Abroad, found, fallback, AtHome, Leads}
use Rattle.linker.specs.Linking.{link}
use Rattle.linker.specs.Prototypes.{HasPrototype}
use Rattle.linker.specs.Flags.{Chain, ends, over, GoesOver}
use Rattle.linker.specs.Law.{Rivals, SameLink, ReferenceAt, Differs, DiffersFrom, Paired, Agree}
use Rattle.linker.proofs.Links.{LinkTells, link_is, leads_alone}

-- ── a link is decided ──

pub leads? : (gs : List Grammar) (i : ℕ) (r : Reference) (j : ℕ) (n : Text) → Dec (Leads gs i r j n)
leads? gs i r j n = go (link gs i r) (link_is gs i r)
  where
    same : (q : ℕ × Text) → Leads gs i r q.0 q.1 → Dec (q.0 ≡ j) → Dec (q.1 ≡ n) → Dec (Leads gs i r j n)
    same q t (yes e) (yes f) = yes (subst (λ m. Leads gs i r j m) f (subst (λ l. Leads gs i r l q.1) e t))
    same q t (yes e) (no h) = no (λ l. h (leads_alone gs i r q.0 j q.1 n t l).1)
    same q t (no h) d = no (λ l. h (leads_alone gs i r q.0 j q.1 n t l).0)

    go : (o : Option (ℕ × Text)) → LinkTells gs i r o → Dec (Leads gs i r j n)
    go None t = no (t j n)
    go (Some q) t = same q t (ℕ_discrete q.0 j) (List-discrete ℕ_discrete q.1 n)

-- a link leads to a grammar that is there
abroad_there : (P : Grammar → Type 0) (gs : List Grammar) (sub : Text) (embed : Bool) (j : ℕ) (n : Text) → Abroad P gs sub embed j n → (g : Grammar) × At gs j g
abroad_there P gs sub embed j n (found e f) = (f.grammar, f.last.there)
abroad_there P gs sub embed j n (fallback t m e f) = (f.grammar, f.last.there)

home_there : (gs : List Grammar) (i : ℕ) (name : Text) (j : ℕ) (n : Text) → AtHome gs i name j n → (g : Grammar) × At gs j g
home_there gs i name j n h = (h.grammar, subst (λ l. At gs l h.grammar) (sym h.same) h.there)

pub leads_there : (gs : List Grammar) (i : ℕ) (r : Reference) (j : ℕ) (n : Text) → Leads gs i r j n → (g : Grammar) × At gs j g
leads_there gs i (named name) j n l = home_there gs i name j n l
leads_there gs i (inline name) j n l = home_there gs i name j n l
leads_there gs i (by_scope s sub embed) j n l = abroad_there (OfScope s) gs (asked sub) embed j n l
leads_there gs i (file name sub embed) j n l = abroad_there (OfName name) gs (asked sub) embed j n l

-- the pairing goes both ways once, and rivals stand in one order
pub record Matched (S : ℕ → ℕ → Type 0) (X : ℕ → Type 0) (gs hs : List Grammar) : Type 0 where
  pub paired : Paired S X gs hs
  pub once_there : (i j k : ℕ) → S i j → S i k → j ≡ k
  pub once_back : (i k j : ℕ) → S i j → S k j → i ≡ k
  pub one_order : (i i' j j' : ℕ) (g g' : Grammar) → S i j → S i' j' → At gs i g → At gs i' g' → Rivals g g' → i < i' → j < j'

module _ (S : ℕ → ℕ → Type 0) (X : ℕ → Type 0) (gs hs : List Grammar) (M : Matched S X gs hs) where
  to_right : (i j : ℕ) (g : Grammar) → S i j → At gs i g → At hs j g
  to_right i j g s = (M.paired.same_grammar i j g s).0

  to_left : (i j : ℕ) (g : Grammar) → S i j → At hs j g → At gs i g
  to_left i j g s = (M.paired.same_grammar i j g s).1

  -- no grammar that has no counterpart passes
  abbrev pub Apart : (Grammar → Type 0) → Type 0
  Apart P = (j : ℕ) (h : Grammar) → X j → At hs j h → ¬ P h

  module _ (P : Grammar → Type 0) (rivals : (g h : Grammar) → P g → P h → Rivals g h) (apart : Apart P) where
    last_there : (i j : ℕ) (g : Grammar) → S i j → LastOf P gs i g → LastOf P hs j g
    last_there i j g s a = record { there = to_right i j g s a.there; passes = a.passes; no_later = beyond }
      where
        beyond : (k : ℕ) (h : Grammar) → j < k → At hs k h → ¬ P h
        beyond k h l t p = ⊎_elim met (λ x. apart k h x t p) (M.paired.each_back k h t)
          where
            met : (i' : ℕ) × S i' k → ⊥
            met q = go (cases_lt i q.0) (cases_lt q.0 i)
              where
                there : At gs q.0 h
                there = to_left q.0 k h q.1 t

                go : (i < q.0) ⊎ (q.0 ≤ i) → (q.0 < i) ⊎ (i ≤ q.0) → ⊥
                go (inl b) c = a.no_later q.0 h b there p
                go (inr b) (inl c) = let o = M.one_order q.0 i k j h g q.1 s there a.there (rivals h g p a.passes) c in omega arith
                go (inr b) (inr c) =
                    let e : i ≡ q.0 = omega arith in
                    let f = M.once_there q.0 j k (subst (λ x. S x j) e s) q.1 in omega arith

    last_back : (i j : ℕ) (g : Grammar) → S i j → LastOf P hs j g → LastOf P gs i g
    last_back i j g s a = record { there = to_left i j g s a.there; passes = a.passes; no_later = beyond }
      where
        beyond : (k : ℕ) (h : Grammar) → i < k → At gs k h → ¬ P h
        beyond k h l t p =
            let q = M.paired.each_there k h t in
            a.no_later q.0 h (M.one_order i k j q.0 g h s q.1 (to_left i j g s a.there) t (rivals g h a.passes p) l) (to_right k q.0 h q.1 t) p

    found_there : (n : Text) (i : ℕ) → Found P gs n i → (j : ℕ) × S i j × Found P hs n j
    found_there n i f =
        let q = M.paired.each_there i f.grammar f.last.there in
        (q.0, q.1, record { grammar = f.grammar; last = last_there i q.0 f.grammar q.1 f.last; has = f.has })

    found_back : (n : Text) (j : ℕ) → Found P hs n j → (i : ℕ) × S i j × Found P gs n i
    found_back n j f = ⊎_elim met (λ x. absurd (apart j f.grammar x f.last.there f.last.passes)) (M.paired.each_back j f.grammar f.last.there)
      where
        met : (i : ℕ) × S i j → (i : ℕ) × S i j × Found P gs n i
        met q = (q.0, q.1, record { grammar = f.grammar; last = last_back q.0 j f.grammar q.1 f.last; has = f.has })

    missing_there : (n : Text) → Missing P gs n → Missing P hs n
    missing_there n m j f = let q = found_back n j f in m q.0 q.2

    missing_back : (n : Text) → Missing P hs n → Missing P gs n
    missing_back n m i f = let q = found_there n i f in m q.0 q.2

  named_rivals : (n : Text) (g h : Grammar) → OfName n g → OfName n h → Rivals g h
  named_rivals n g h a b = inr (a ∙ sym b)

  scope_rivals : (s : Scope) (g h : Grammar) → OfScope s g → OfScope s h → Rivals g h
  scope_rivals s g h a b = inl (a ∙ sym b)

  -- the grammars that have no counterpart do not pass, nor, where the reference falls back, are they named Plain Text
  abbrev pub ApartFor : (Grammar → Type 0) → Text → Bool → Type 0
  ApartFor P sub embed = Apart P × (embed ≡ true → Missing P gs sub → Apart (OfName plain_text))

  module _ (P : Grammar → Type 0) (rivals : (g h : Grammar) → P g → P h → Rivals g h) (sub : Text) (embed : Bool) (apart : ApartFor P sub embed) where
    across_there : (i : ℕ) (n : Text) → Abroad P gs sub embed i n → (j : ℕ) × S i j × Abroad P hs sub embed j n
    across_there i n (found e f) = let q = found_there P rivals apart.0 sub i f in (q.0, q.1, found e q.2)
    across_there i n (fallback t m e f) =
        let q = found_there (OfName plain_text) (named_rivals plain_text) (apart.1 t m) main i f in
        (q.0, q.1, fallback t (missing_there P rivals apart.0 sub m) e q.2)

    across_back : (j : ℕ) (n : Text) → Abroad P hs sub embed j n → (i : ℕ) × S i j × Abroad P gs sub embed i n
    across_back j n (found e f) = let q = found_back P rivals apart.0 sub j f in (q.0, q.1, found e q.2)
    across_back j n (fallback t m e f) =
        let m' = missing_back P rivals apart.0 sub m in
        let q = found_back (OfName plain_text) (named_rivals plain_text) (apart.1 t m') main j f in
        (q.0, q.1, fallback t m' e q.2)

  home_there' : (i j : ℕ) (name : Text) → S i j → (i' : ℕ) (n : Text) → AtHome gs i name i' n → (j' : ℕ) × S i' j' × AtHome hs j name j' n
  home_there' i j name s i' n a =
      (j, subst (λ x. S x j) (sym a.same) s, record { grammar = a.grammar; there = to_right i j a.grammar s a.there; same = refl; is = a.is; has = a.has })

  home_back' : (i j : ℕ) (name : Text) → S i j → (j' : ℕ) (n : Text) → AtHome hs j name j' n → (i' : ℕ) × S i' j' × AtHome gs i name i' n
  home_back' i j name s j' n a =
      (i, subst (λ x. S i x) (sym a.same) s, record { grammar = a.grammar; there = to_left i j a.grammar s a.there; same = refl; is = a.is; has = a.has })

  -- what a reference asks of the grammars that have no counterpart, so that its link is the same
  abbrev pub Unmoved : Reference → Type 0
  Unmoved (named n) = Unit {0}
  Unmoved (inline n) = Unit {0}
  Unmoved (by_scope s sub embed) = ApartFor (OfScope s) (asked sub) embed
  Unmoved (file n sub embed) = ApartFor (OfName n) (asked sub) embed

  pub same_link : (i j : ℕ) (r : Reference) → S i j → Unmoved r → SameLink S gs hs i j r
  same_link i j (named n) s u = record { there = home_there' i j n s; back = home_back' i j n s }
  same_link i j (inline n) s u = record { there = home_there' i j n s; back = home_back' i j n s }
  same_link i j (by_scope t sub embed) s u =
      record { there = across_there (OfScope t) (scope_rivals t) (asked sub) embed u; back = across_back (OfScope t) (scope_rivals t) (asked sub) embed u }
  same_link i j (file n sub embed) s u =
      record { there = across_there (OfName n) (named_rivals n) (asked sub) embed u; back = across_back (OfName n) (named_rivals n) (asked sub) embed u }

  references_agree : (i j : ℕ) (n : Text) (k : ℕ) (r : Reference) → S i j → ReferenceAt gs i n k r ↔ ReferenceAt hs j n k r
  references_agree i j n k r s = (
    λ a. record { grammar = a.grammar; there = to_right i j a.grammar s a.there; context = a.context; held = a.held; is = a.is },
    λ a. record { grammar = a.grammar; there = to_left i j a.grammar s a.there; context = a.context; held = a.held; is = a.is },
  )

  prototypes_agree : (i j : ℕ) (n : Text) → S i j → HasPrototype gs i n ↔ HasPrototype hs j n
  prototypes_agree i j n s = (
    λ a. record { grammar = a.grammar; there = to_right i j a.grammar s a.there; context = a.context; held = a.held; prototype_there = a.prototype_there; is_prototype = a.is_prototype; allowed = a.allowed; not_reached = a.not_reached },
    λ a. record { grammar = a.grammar; there = to_left i j a.grammar s a.there; context = a.context; held = a.held; prototype_there = a.prototype_there; is_prototype = a.is_prototype; allowed = a.allowed; not_reached = a.not_reached },
  )

  pub flags_there : (i j : ℕ) (n : Text) → S i j → (chain : Chain gs i n) → Chain hs j n ⊎ GoesOver (λ a r b m. Differs S gs hs a r) chain
  flags_there i j n s (ends g c a b p) = inl (ends g c (to_right i j g s a) b p)
  flags_there i j n s (over g c r i' m a b k l rest) =
      let g' = leads_there gs i r i' m l in
      let q = M.paired.each_there i' g'.0 g'.1 in
      step q.0 q.1 (leads? hs j r q.0 m) (flags_there i' q.0 m q.1 rest)
    where
      step : (j' : ℕ) → S i' j' → Dec (Leads hs j r j' m) → Chain hs j' m ⊎ GoesOver (λ a r b m. Differs S gs hs a r) rest →
          Chain hs j n ⊎ (Differs S gs hs i r ⊎ GoesOver (λ a r b m. Differs S gs hs a r) rest)
      step j' s' (yes l') (inl ch) = inl (over g c r j' m (to_right i j g s a) b k l' ch)
      step j' s' (yes l') (inr x) = inr (inr x)
      step j' s' (no h) t = inr (inl (j, s, λ same. differs (same.there i' m l)))
        where
          differs : (x : ℕ) × S i' x × Leads hs j r x m → ⊥
          differs t = h (subst (λ x. Leads hs j r x m) (M.once_there i' t.0 j' t.1 s') t.2)

  pub flags_back : (i j : ℕ) (n : Text) → S i j → (chain : Chain hs j n) → Chain gs i n ⊎ GoesOver (λ a r b m. DiffersFrom S gs hs a r) chain
  flags_back i j n s (ends g c a b p) = inl (ends g c (to_left i j g s a) b p)
  flags_back i j n s (over g c r j' m a b k l rest) =
      let g' = leads_there hs j r j' m l in
      step (M.paired.each_back j' g'.0 g'.1) (λ i' s'. flags_back i' j' m s' rest)
    where
      step : ((i' : ℕ) × S i' j') ⊎ X j' → ((i' : ℕ) → S i' j' → Chain gs i' m ⊎ GoesOver (λ a r b m. DiffersFrom S gs hs a r) rest) →
          Chain gs i n ⊎ (DiffersFrom S gs hs j r ⊎ GoesOver (λ a r b m. DiffersFrom S gs hs a r) rest)
      step (inr x) f = inr (inl (i, s, λ same. let t = same.back j' m l in M.paired.no_counterpart t.0 j' x t.1))
      step (inl q) f = go (leads? gs i r q.0 m) (f q.0 q.1)
        where
          go : Dec (Leads gs i r q.0 m) → Chain gs q.0 m ⊎ GoesOver (λ a r b m. DiffersFrom S gs hs a r) rest →
              Chain gs i n ⊎ (DiffersFrom S gs hs j r ⊎ GoesOver (λ a r b m. DiffersFrom S gs hs a r) rest)
          go (yes l') (inl ch) = inl (over g c r q.0 m (to_left i j g s a) b k l' ch)
          go (yes l') (inr x) = inr (inr x)
          go (no h) t = inr (inl (i, s, λ same. differs (same.back j' m l)))
            where
              differs : (x : ℕ) × S x j' × Leads gs i r x m → ⊥
              differs t = h (subst (λ x. Leads gs i r x m) (M.once_back t.0 q.0 j' t.1 q.1) t.2)

  -- all agrees but for what the grammars with no counterpart move
  pub agree : (Excused : Reference → Type 0) → ((r : Reference) → ¬ Excused r → Unmoved r) → Agree S Excused gs hs
  agree Excused unmoved = record {
    references_agree = references_agree;
    links = λ i j n k r s a h. same_link i j r s (unmoved r h);
    prototypes = prototypes_agree;
    flags_there = flags_there;
    flags_back = flags_back;
  }

-- a chain goes over no link of a kind that there is not
pub goes_over_none : {gs : List Grammar} {i : ℕ} {n : Text} (D : ℕ → Reference → ℕ → Text → Type 0) → ((a : ℕ) (r : Reference) (b : ℕ) (m : Text) → ¬ D a r b m) →
    (chain : Chain gs i n) → ¬ GoesOver D chain
goes_over_none D none (ends g c a b p) = λ x. x
goes_over_none {i = i} D none (over g c r j m a b k l rest) = ⊎_elim (none i r j m) (goes_over_none D none rest)
