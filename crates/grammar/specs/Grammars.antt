-- What a grammar is. Names and scopes are texts and no numbers of tables, so that the value depends on no set.
use Rattle.std.specs.Prelude.{◌≡◌, ℕ, Bool, true, ◌&&◌, List, [], ◌∷◌, ◌++◌, Some, None, Option}
use Rattle.grammar.specs.declared.syntax_definition.ClearAmount.{ClearAmount}
use Rattle.grammar.specs.Names.{Text, before}
use Rattle.grammar.specs.Places.{In}

-- the texts of its atoms
abbrev pub Scope : Type 0
Scope = List Text

-- by scope and by file: with the sub-context, if one is named, and whether the reference comes from `embed`
pub data Reference : Type 0 where
  named : Text → Reference
  inline : Text → Reference
  by_scope : Scope → Option Text → Bool → Reference
  file : Text → Option Text → Bool → Reference

pub data Operation : Type 0 where
  push : List Reference → Operation
  set : List Reference → Operation
  pop : Operation
  none : Operation

-- has_captures: it pops, and its pattern has a backreference
pub record Match : Type 0 where
  pub has_captures : Bool
  pub regex : Text
  pub scope : List Scope
  pub captures : Option (List (ℕ × List Scope))
  pub operation : Operation
  pub with_prototype : Option Reference

pub data Pattern : Type 0 where
  include : Reference → Pattern
  match : Match → Pattern

pub record Context : Type 0 where
  pub name : Text
  pub meta_scope : List Scope
  pub meta_content_scope : List Scope
  pub meta_include_prototype : Bool
  pub clear_scopes : Option ClearAmount
  pub patterns : List Pattern

-- the name stands before that of the next context
abbrev pub precedes : Context → List Context → Bool
precedes c [] = true
precedes c (d ∷ ds) = before c.name d.name

-- the contexts stand in strict byte order of their names
abbrev pub ordered : List Context → Bool
ordered [] = true
ordered (c ∷ cs) = precedes c cs && ordered cs

pub record Grammar : Type 0 where
  pub name : Text
  pub scope : Scope
  pub hidden : Bool
  pub contexts : List Context
  pub in_order : ordered contexts ≡ true

-- c is the grammar's context of that name
pub record ContextOf (g : Grammar) (n : Text) (c : Context) : Type 0 where
  pub there : In g.contexts c
  pub is : c.name ≡ n

-- the references of an operation, in order
abbrev pub operands : Operation → List Reference
operands (push rs) = rs
operands (set rs) = rs
operands pop = []
operands none = []

abbrev pub optional : Option Reference → List Reference
optional None = []
optional (Some r) = r ∷ []

-- the references of a pattern, in order
abbrev pub references_in : Pattern → List Reference
references_in (include r) = r ∷ []
references_in (match m) = operands m.operation ++ optional m.with_prototype

abbrev pub references_of : List Pattern → List Reference
references_of [] = []
references_of (p ∷ ps) = references_in p ++ references_of ps

-- the references of a context, in order
abbrev pub references : Context → List Reference
references c = references_of c.patterns
