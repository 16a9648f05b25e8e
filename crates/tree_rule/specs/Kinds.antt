-- The kinds by their numbers.
use Rattle.std.specs.Prelude.{◌≡◌, ℕ, cond, Some, None, Option, Result, MatchResult, ◌==◌}
use Rattle.tree_rule.specs.declared.node.Kind.{Kind}
use Rattle.tree_rule.specs.declared.node.Kind.TheVariants.{Other, Boolean, Integer, String, List, Map}
use Rattle.tree_rule.specs.declared.node.UnknownKind.{UnknownKind}

abbrev pub kind_of : ℕ → Option Kind
kind_of n = cond (n == 0) (Some Other) (cond (n == 1) (Some Boolean) (cond (n == 2) (Some Integer)
    (cond (n == 3) (Some String) (cond (n == 4) (Some List) (cond (n == 5) (Some Map) None)))))

abbrev pub number_of : Kind → ℕ
number_of Other = 0
number_of Boolean = 1
number_of Integer = 2
number_of String = 3
number_of List = 4
number_of Map = 5

-- the kind of a number, exactly if there is one
abbrev pub Names : ℕ → Result Kind UnknownKind → Type 0
Names n r = MatchResult r (λ kind. kind_of n ≡ Some kind) (λ e. (kind_of n ≡ None) × (e.0 ≡ n))
