-- The rule of the bracket engine, over the units of a text.
use Rattle.std.specs.Prelude.{◌≡◌, ℕ, ◌+◌, ◌-◌, ◌<◌, ◌≤◌, Bool, false, cond, ◌||◌, ltb, List, [], ◌∷◌, ◌++◌, take, Some, None, codes, Option, ◌==◌, nat_lt}
use Rattle.std.specs.List.{flat_map}
use Rattle.tokens.specs.Tokens.{Token, escape, final, class, comment, plain, is_closed, spelled}
use Rattle.engine.specs.Units.{units}
use Rattle.engine.specs.declared.bracket.BracketFault.{BracketFault}
use Rattle.engine.specs.declared.bracket.BracketFault.TheVariants.{Unopened, Unclosed, UnclosedClass, FinalBackslash}

abbrev pub bracket_number : BracketFault → ℕ
bracket_number Unopened = 1
bracket_number Unclosed = 2
bracket_number UnclosedClass = 3
bracket_number FinalBackslash = 4

-- the fault in words
abbrev pub bracket_text : BracketFault → List ℕ
bracket_text Unopened = codes "a `)` that no `(` opened"
bracket_text Unclosed = codes "a `(` that no `)` closes"
bracket_text UnclosedClass = codes "a class that no `]` closes"
bracket_text FinalBackslash = codes "a backslash at the end"

-- a `(` that is neither escaped nor in a class
abbrev pub opens : Token → Bool
opens (escape b) = false
opens final = false
opens (class bs) = false
opens (comment bs) = false
opens (plain b) = b == 40

-- a `)` that is neither escaped nor in a class
abbrev pub closes : Token → Bool
closes (escape b) = false
closes final = false
closes (class bs) = false
closes (comment bs) = false
closes (plain b) = b == 41

-- how many of the units are such
abbrev pub count : (Token → Bool) → List Token → ℕ
count p [] = 0
count p (u ∷ us) = cond (p u) 1 0 + count p us

abbrev pub openings : List Token → ℕ
openings us = count opens us

abbrev pub closings : List Token → ℕ
closings us = count closes us

-- what is wrong with a text because it ends with this unit
abbrev pub leaves : Token → Option BracketFault
leaves (escape b) = None
leaves final = Some FinalBackslash
leaves (class bs) = cond (is_closed bs) None (Some UnclosedClass)
leaves (comment bs) = None
leaves (plain b) = None

-- The rule. Somewhere more groups are closed than were opened up to there:
pub record Overclosed (us : List Token) : Type 0 where
  pub up_to : ℕ
  pub more : openings (take up_to us) < closings (take up_to us)

abbrev pub NeverOverclosed : List Token → Type 0
NeverOverclosed us = (n : ℕ) → closings (take n us) ≤ openings (take n us)

-- the last unit leaves this fault, or none
abbrev pub Ends : List Token → Option BracketFault → Type 0
Ends us None = (before : List Token) (u : Token) → us ≡ before ++ u ∷ [] → leaves u ≡ None
Ends us (Some f) = (before : List Token) × (u : Token) × (us ≡ before ++ u ∷ []) × (leaves u ≡ Some f)

-- the units have this fault, or none: an unopened group first, wherever it stands, then an unclosed one, then what the last unit leaves
abbrev pub Ruled : List Token → Option BracketFault → Type 0
Ruled us None = NeverOverclosed us × (openings us ≡ closings us) × Ends us None
Ruled us (Some Unopened) = Overclosed us
Ruled us (Some Unclosed) = NeverOverclosed us × (closings us < openings us)
Ruled us (Some UnclosedClass) = NeverOverclosed us × (openings us ≡ closings us) × Ends us (Some UnclosedClass)
Ruled us (Some FinalBackslash) = NeverOverclosed us × (openings us ≡ closings us) × Ends us (Some FinalBackslash)

-- The same as a function. Some first part of the units, perhaps none or all of them, has the property:
abbrev pub some_prefix : (List Token → Bool) → List Token → Bool
some_prefix P [] = P []
some_prefix P (u ∷ us) = P [] || some_prefix (λ ps. P (u ∷ ps)) us

-- what the last unit leaves, or `fault` if there is no unit
abbrev pub last_leaves : Option BracketFault → List Token → Option BracketFault
last_leaves fault [] = fault
last_leaves fault (u ∷ us) = last_leaves (leaves u) us

-- the fault of units before which `depth` groups were opened and not closed, and the last unit left `fault`
abbrev pub fault_from : ℕ → Option BracketFault → List Token → Option BracketFault
fault_from depth fault us =
    cond (some_prefix (λ ps. ltb (depth + openings ps) (closings ps)) us) (Some Unopened)
    (cond (nat_lt (closings us) (depth + openings us)) (Some Unclosed) (last_leaves fault us))

abbrev pub fault_in : List Token → Option BracketFault
fault_in us = fault_from 0 None us

-- Texts and their faults; 92 is the backslash.
pub record BracketExamples : Type 0 where
  -- the empty text, and (a)[)]\) , are fine
  pub empty : fault_in (units []) ≡ None
  pub fine : fault_in (units (codes "(a)[)]" ++ 92 ∷ codes ")")) ≡ None
  -- a)( has a `)` unopened, though as many are opened
  pub unopened : fault_in (units (codes "a)(")) ≡ Some Unopened
  -- )[ too: it is found first
  pub unopened_first : fault_in (units (codes ")[")) ≡ Some Unopened
  -- (() and ([ have a `(` unclosed
  pub unclosed : fault_in (units (codes "(()")) ≡ Some Unclosed
  pub unclosed_first : fault_in (units (codes "([")) ≡ Some Unclosed
  -- [\ has a class unclosed, in which the backslash stands; [] is unclosed, since the `]` is a member
  pub class_left : fault_in (units (codes "[" ++ 92 ∷ [])) ≡ Some UnclosedClass
  pub class_empty : fault_in (units (codes "[]")) ≡ Some UnclosedClass
  -- a\ ends with a backslash
  pub backslash : fault_in (units (codes "a" ++ 92 ∷ [])) ≡ Some FinalBackslash
  -- (?#) is fine and (?#() is not: there are no comments
  pub comment : fault_in (units (codes "(?#)")) ≡ None
  pub in_comment : fault_in (units (codes "(?#()")) ≡ Some Unclosed

-- What holds of the rule, for all texts.
pub record BracketLaws : Type 0 where
  -- the units joined are the text
  pub joined_units : (xs : List ℕ) → flat_map spelled (units xs) ≡ xs
  -- the function gives what the rule says
  pub rule : (us : List Token) → Ruled us (fault_in us)
  -- text that is fine can be put before any text
  pub before : (xs ys : List ℕ) → fault_in (units xs) ≡ None → fault_in (units (xs ++ ys)) ≡ fault_in (units ys)
  -- where all is fine, as many groups are opened as are closed
  pub balanced : (xs : List ℕ) → fault_in (units xs) ≡ None → openings (units xs) ≡ closings (units xs)
  pub examples : BracketExamples

-- the fault at the end of a text, where `depth` groups are open and the last unit left `fault`
abbrev pub final_fault : ℕ → Option BracketFault → Option BracketFault
final_fault depth fault = cond (nat_lt 0 depth) (Some Unclosed) fault

-- how many groups are open behind a unit; none if it closes one that nothing opened
abbrev pub depth_after : ℕ → Token → Option ℕ
depth_after depth u = cond (opens u) (Some (depth + 1)) (cond (closes u) (cond (depth == 0) None (Some (depth - 1))) (Some depth))
