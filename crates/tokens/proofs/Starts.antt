-- Laws of a text that begins with another.
use Rattle.std.proofs.Common.{◌≡◌, ℕ, true, List, ◌++◌, length, take, drop, sym, refl, ap, ◌∙◌}
use Rattle.std.proofs.lemmas.Slice.Eq.{bytes_eq-Decides}
use Rattle.std.proofs.lemmas.List.{take-append-drop, take_at}
use Rattle.tokens.specs.Starts.{starts}

pub starts_split : (prefix bs : List ℕ) → starts prefix bs ≡ true → bs ≡ prefix ++ drop (length prefix) bs
starts_split prefix bs e =
    sym (take-append-drop (length prefix) bs) ∙ ap (λ (xs : List ℕ). xs ++ drop (length prefix) bs) (sym ((bytes_eq-Decides prefix (take (length prefix) bs)).0 e))

pub starts_front : (prefix bs rest : List ℕ) → bs ≡ prefix ++ rest → starts prefix bs ≡ true
starts_front prefix bs rest e =
    (bytes_eq-Decides prefix (take (length prefix) bs)).1 (sym (ap (take (length prefix)) e ∙ take_at prefix rest (length prefix) refl))
