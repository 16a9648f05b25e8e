-- POSIX brackets inside a character class.
use Rattle.std.specs.Prelude.{ℕ, Bool, true, false, cond, not, ◌&&◌, List, [], ◌∷◌, ◌++◌, length, take, drop, Some, None, codes, Option, Result, ◌==◌}
use Rattle.std.specs.List.{find, flat_map}
use Rattle.buffer.specs.Appends.{WroteNext}
use Rattle.tokens.specs.declared.class.ClassState.{ClassState}
use Rattle.tokens.specs.declared.class.ClassState.TheVariants.{Start, Negated, Inside, Escaped}
use Rattle.tokens.specs.declared.class.ClassWalker.{ClassWalker}
use Rattle.tokens.specs.declared.posix.PosixClass.{PosixClass}
use Rattle.tokens.specs.declared.posix.PosixClass.TheVariants.{Alpha, Alnum, Lower, Upper, Digit}
use Rattle.tokens.specs.Cut.{cut}
use Rattle.tokens.specs.Starts.{starts}
use Rattle.tokens.specs.Tokens.{Token, escape, final, class, comment, plain, spelled, tokens, class_length}
use Rattle.tokens.specs.Classes.{opened}

abbrev pub bracket_of : PosixClass → List ℕ
bracket_of Alpha = codes "[:alpha:]"
bracket_of Alnum = codes "[:alnum:]"
bracket_of Lower = codes "[:lower:]"
bracket_of Upper = codes "[:upper:]"
bracket_of Digit = codes "[:digit:]"

-- the Unicode properties that stand for it; 92 is the backslash
abbrev pub property_of : PosixClass → List ℕ
property_of Alpha = 92 ∷ codes "p{L}"
property_of Alnum = 92 ∷ (codes "p{L}" ++ 92 ∷ codes "p{N}")
property_of Lower = 92 ∷ codes "p{Ll}"
property_of Upper = 92 ∷ codes "p{Lu}"
property_of Digit = 92 ∷ codes "p{Nd}"

abbrev pub first_of : List PosixClass → List ℕ → Option PosixClass
first_of ps bs = find (λ p. starts (bracket_of p) bs) ps

abbrev pub posix_classes : List PosixClass
posix_classes = Alpha ∷ Alnum ∷ Lower ∷ Upper ∷ Digit ∷ []

-- the POSIX bracket that stands here, if one does
abbrev pub bracket_at : List ℕ → Option PosixClass
bracket_at bs = first_of posix_classes bs

-- The members of a class, behind its `[`: an escape, a POSIX bracket, any other byte.
pub data Member : Type 0 where
  escaped : ℕ → Member
  bracket : PosixClass → Member
  single : ℕ → Member

abbrev pub spelled_member : Member → List ℕ
spelled_member (escaped b) = 92 ∷ b ∷ []
spelled_member (bracket p) = bracket_of p
spelled_member (single b) = b ∷ []

abbrev pub bracket_or : Option PosixClass → ℕ → Member
bracket_or None b = single b
bracket_or (Some p) b = bracket p

abbrev pub escaped_or : List ℕ → ℕ → Member
escaped_or [] b = single b
escaped_or (c ∷ bs) b = escaped c

unfoldable pub first_member : List ℕ → Member
first_member [] = single 0
first_member (b ∷ bs) = cond (b == 92) (escaped_or bs b) (cond (b == 91) (bracket_or (bracket_at (b ∷ bs)) b) (single b))

abbrev pub members : List ℕ → List Member
members = cut first_member spelled_member

abbrev pub with_property : Member → List ℕ
with_property (escaped b) = spelled_member (escaped b)
with_property (bracket p) = property_of p
with_property (single b) = spelled_member (single b)

-- a class, its `[` first, with properties in the place of POSIX brackets
abbrev pub class_with_properties : List ℕ → List ℕ
class_with_properties [] = []
class_with_properties (b ∷ bs) = b ∷ flat_map with_property (members bs)

abbrev pub token_with_properties : Token → List ℕ
token_with_properties (escape b) = spelled (escape b)
token_with_properties final = spelled final
token_with_properties (class bs) = class_with_properties bs
token_with_properties (comment bs) = spelled (comment bs)
token_with_properties (plain b) = spelled (plain b)

abbrev pub with_properties : List ℕ → List ℕ
with_properties bs = flat_map token_with_properties (tokens bs)

-- The walk through a class, as far as it has come: what the rest of the class becomes, and what stands behind the class.
abbrev pub replaced_from : ClassState → List ℕ → List ℕ
replaced_from Start bs = flat_map with_property (members bs)
replaced_from Negated bs = flat_map with_property (members bs)
replaced_from Inside bs = flat_map with_property (members bs)
replaced_from Escaped [] = []
replaced_from Escaped (b ∷ bs) = b ∷ flat_map with_property (members bs)

abbrev pub rest_replaced : ClassWalker → List ℕ → List ℕ
rest_replaced w bs = replaced_from w.state (take (class_length w bs) bs)

abbrev pub rest_behind : ClassWalker → List ℕ → List ℕ
rest_behind w bs = drop (class_length w bs) bs

abbrev pub is_escaped : ClassState → Bool
is_escaped Start = false
is_escaped Negated = false
is_escaped Inside = false
is_escaped Escaped = true

-- the bracket that stands here, where the walk looks for one
abbrev pub bracket_here : ClassWalker → List ℕ → Option PosixClass
bracket_here w [] = None
bracket_here w (b ∷ bs) = cond (b == 91 && not (is_escaped w.state)) (bracket_at (b ∷ bs)) None

-- behind a bracket
abbrev pub passed : ClassWalker → ClassWalker
passed w = record { state = Inside; negated = w.negated; depth = w.depth; newline = w.newline }

-- the class at the front of a text
abbrev pub class_text : List ℕ → List ℕ
class_text [] = []
class_text (b ∷ bs) = b ∷ take (class_length opened bs) bs

-- What is still to be written where the walk stands in a class, or in none.
abbrev pub left_from : Option ClassWalker → List ℕ → List ℕ
left_from None bs = with_properties bs
left_from (Some w) bs = rest_replaced w bs ++ with_properties (rest_behind w bs)

abbrev pub depth_in : Option ClassWalker → ℕ
depth_in None = 0
depth_in (Some w) = w.depth

-- the next piece is written from one place of the walk to another
abbrev pub WroteFrom : {V E : Type 0} → Option ClassWalker → List ℕ → Option ClassWalker → List ℕ → Option (Result V E) → List ℕ → List ℕ → Type 0
WroteFrom w bs w' bs' result items items' = WroteNext (left_from w bs) (left_from w' bs') (length bs) (length bs') result items items'
