-- What stands at the front of a string.
use Rattle.std.proofs.Common.{◌≡◌, ℕ, ◌+◌, ◌<◌, Bool, true, false, List, [], ◌∷◌, ◌++◌, length, get_or, drop, pos, Some, Ok, Option, Result, sym, refl, ap, ◌∙◌, subst, append_assoc}
use lib.Utf8.{scalar}
use Rattle.tree_rule.specs.Nodes.{raw}
use Rattle.flow.specs.Flow.{Key, string}
use Rattle.std.proofs.lemmas.List.{append-nil, drop_more, drop-drop}
use Rattle.flow.specs.declared.misread.Reason.{Reason}
use Rattle.tree_rule.specs.declared.node.RawNode.{RawNode}
use Rattle.flow.specs.Places.{Read, ReadPiece, Wrote}
use Rattle.std.proofs.lemmas.Bool.{cond-false}
use Rattle.flow.specs.Scalars.{character, character_from, code_unit, paired_with, piece, Inside, closed, more}

off : (b : Bool) → (b ≡ true → ⊥) → b ≡ false
off true n = absurd (n refl)
off false n = refl

-- a surrogate is read together with the next
pub character_pair : (bs : List ℕ) (u : ℕ) (next : Option ℕ) → code_unit bs ≡ Some u → (scalar u ≡ true → ⊥) →
    code_unit (drop 6 bs) ≡ next → character bs ≡ paired_with u next
character_pair bs u next e n f =
    ap (character_from bs) e ∙ cond-false (scalar u) (Some (u, 6)) (paired_with u (code_unit (drop 6 bs))) (off (scalar u) n) ∙ ap (paired_with u) f

-- the bytes of a string so far: whatever the rest of it is, they stand before it
pub record InsideSoFar (input : List ℕ) (from place : ℕ) (text texts : List ℕ) : Type 0 where
  pub these : List ℕ
  pub written : texts ≡ text ++ these
  pub is : (those rest : List ℕ) → Inside (drop place input) rest those → Inside (drop from input) rest (these ++ those)

more_here : (input : List ℕ) (from place end : ℕ) (text mid texts : List ℕ) → InsideSoFar input from place text mid →
    place < length input → (get_or input place 0 ≡ 34 → ⊥) → ReadPiece input place end mid texts → InsideSoFar input from end text texts
more_here input from place end text mid texts so h n r = record {
  these = so.these ++ r.these;
  written = r.written ∙ ap (λ xs. xs ++ r.these) so.written ∙ append_assoc text so.these r.these;
  is = λ those rest i.
      subst (λ (xs : List ℕ). Inside (drop from input) rest xs) (sym (append_assoc so.these r.these those))
      (so.is (r.these ++ those) rest
      (more (λ e. n (sym (ap (λ bs. get_or bs 0 0) (drop_more input place 0 h)) ∙ e)) r.is
      (subst (λ (bs : List ℕ). Inside bs rest those) (ap (λ n. drop n input) r.there ∙ sym (drop-drop r.width place input)) i)));
}

closed_here : (input : List ℕ) (from place end : ℕ) (text texts : List ℕ) → InsideSoFar input from place text texts →
    place < length input → get_or input place 0 ≡ 34 → end ≡ place + 1 →
    (ts : List ℕ) × Inside (drop from input) (drop end input) ts × (texts ≡ text ++ ts)
closed_here input from place end text texts so h e there = (
  so.these ++ [],
  so.is [] (drop end input)
      (subst (λ (bs : List ℕ). Inside bs (drop end input) [])
      (ap (λ n. 34 ∷ drop n input) there ∙ ap (λ b. b ∷ drop (place + 1) input) (sym e) ∙ sym (drop_more input place 0 h)) closed),
  so.written ∙ ap (λ xs. text ++ xs) (sym (append-nil so.these)),
)

-- the same where the cursor's input is only equal
pub so_far_more : (input here : List ℕ) (from place end : ℕ) (text mid texts : List ℕ) → here ≡ input → InsideSoFar input from place text mid →
    place < length here → (get_or here place 0 ≡ 34 → ⊥) → ReadPiece here place end mid texts → InsideSoFar input from end text texts
so_far_more input here from place end text mid texts same so h n r =
    more_here input from place end text mid texts so (subst (λ (xs : List ℕ). place < length xs) same h)
    (subst (λ (xs : List ℕ). get_or xs place 0 ≡ 34 → ⊥) same n) (subst (λ (xs : List ℕ). ReadPiece xs place end mid texts) same r)

pub inside_closed : (input here : List ℕ) (from place end : ℕ) (text texts : List ℕ) → here ≡ input → InsideSoFar input from place text texts →
    place < length here → get_or here place 0 ≡ 34 → end ≡ place + 1 →
    (ts : List ℕ) × Inside (drop from input) (drop end input) ts × (texts ≡ text ++ ts)
inside_closed input here from place end text texts same so h e there =
    closed_here input from place end text texts so (subst (λ (xs : List ℕ). place < length xs) same h)
    (subst (λ (xs : List ℕ). get_or xs place 0 ≡ 34) same e) there

-- a quote, and then the inside of a string
pub string_here : (input inner : List ℕ) (place from end start size : ℕ) (ns mid ms : List RawNode) (text longer texts us : List ℕ) →
    inner ≡ input → place < length input → get_or input place 0 ≡ 34 → from ≡ place + 1 → start ≡ length text → size ≡ length us →
    Inside (drop from inner) (drop end inner) us → longer ≡ text ++ us → mid ≡ ns → texts ≡ longer →
    ms ≡ mid ++ raw 3 (length mid + 1) start size (pos 0) ∷ [] → Read Key input place end ns ms text texts
string_here input inner place from end start size ns mid ms text longer texts us same h e behind at long inside added kept written pushed = record {
  added = raw 3 (length ns + 1) (length text) (length us) (pos 0) ∷ [];
  more = us;
  is = subst (λ (bs : List ℕ). Key (length ns) (length text) bs (drop end input) (raw 3 (length ns + 1) (length text) (length us) (pos 0) ∷ []) us)
      (ap (λ n. 34 ∷ drop n input) behind ∙ ap (λ b. b ∷ drop (place + 1) input) (sym e) ∙ sym (drop_more input place 0 h))
      (string (subst (λ (xs : List ℕ). Inside (drop from xs) (drop end xs) us) same inside));
  pushed = pushed
      ∙ ap (λ xs. xs ++ raw 3 (length xs + 1) start size (pos 0) ∷ []) kept
      ∙ ap (λ n. ns ++ raw 3 (length ns + 1) n size (pos 0) ∷ []) at
      ∙ ap (λ n. ns ++ raw 3 (length ns + 1) (length text) n (pos 0) ∷ []) long;
  written = written ∙ added;
}

-- the piece that was written is the one that stands here
pub piece_read : (input bs : List ℕ) (place end : ℕ) (r : Result ℕ Reason) (w : ℕ) (text texts : List ℕ) → bs ≡ drop place input →
    r ≡ Ok w → end ≡ place + w → Wrote (piece bs) r text texts → ReadPiece input place end text texts
piece_read input bs place end r w text texts same e there wrote =
    let p = subst (λ (q : Result ℕ Reason). Wrote (piece bs) q text texts) e wrote in
    record { these = p.0; width = w; is = ap piece (sym same) ∙ p.1; there = there; written = p.2 }
