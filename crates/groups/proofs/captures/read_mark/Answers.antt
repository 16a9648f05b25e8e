use Rattle.std.proofs.Common.{None, Some, Option, MatchOption, IsSomeAnd, ◌≡◌, List, ℕ, false, drop, sym, subst, ap, ◌∙◌}
use Rattle.std.proofs.lemmas.List.{take_rest}
use Rattle.groups.specs.declared.captures.Mark.{Mark as ReadMark}
use Rattle.groups.specs.declared.captures.Mark.TheVariants.{Token as Tokened}
use Rattle.groups.specs.Marks.{TakenMark, NextMark}
use Rattle.groups.proofs.Marks.{taken_group, taken_other}
use Rattle.tokens.specs.declared.parser.Token.{Token as Read}
use Rattle.tokens.specs.Reads.{Next}
use Rattle.tokens.specs.Tokens.{opens_group}
use Rattle.groups.proofs.captures.read_mark.Goals as goal

pub returns-then-opens_group : goal.returns-then-opens_group
returns-then-opens_group c =
    taken_group c.args.parser.now.rest.now c.advance.new.self.rest.now _ c.at_front-opening.result c.group.result c.width.result
    (sym c.if-opens_group.ensures) (take_rest c.rest.result.now 1 ∙ ap (drop 1) c.rest.ensures) c.at_front-opening.ensures c.width.ensures
    c.advance.ensures.left c.group.ensures

-- what is read where no group opens
next_other : (xs ys : List ℕ) (r : Option Read) (m : Option ReadMark) → opens_group xs ≡ false → Next r xs ys →
    MatchOption r (m ≡ None) (λ t. IsSomeAnd m (λ k. k ≡ Tokened t)) → NextMark m xs ys
next_other xs ys None m e none is = rw is none
next_other xs ys (Some t) None e w is = absurd is
next_other xs ys (Some t) (Some k) e w is = subst (λ k. TakenMark k xs ys) (sym is) (taken_other t xs ys e w)

pub returns : goal.returns
returns c = next_other _ _ c.token.result c.map.result (sym c.if-opens_group.ensures) c.token.ensures c.map.ensures.cases
