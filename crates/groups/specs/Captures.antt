-- Which groups of a pattern are numbered, and which of them capture text that is consumed.
use Rattle.std.specs.Prelude.{ℕ, ◌+◌, ◌-◌, ◌<◌, Bool, true, false, cond, ◌&&◌, ◌||◌, List, [], ◌∷◌, ◌++◌, take, drop, Some, None, Option, ◌==◌, nat_le}
use Rattle.groups.specs.declared.captures.Group.{Group}
use Rattle.groups.specs.declared.captures.Group.TheVariants.{Capturing, Lookaround, Other}
use Rattle.groups.specs.declared.captures.Opening.{Opening}
use Rattle.groups.specs.declared.captures.Opening.TheVariants.{Last, Plain, Asked, Lookahead, Lookbehind, Angled, Quoted, Python, Unnamed}
use Rattle.tokens.specs.Cut.{cut}
use Rattle.tokens.specs.Tokens.{Token, escape, final, class, comment, plain, spelled, first, opens_group}

-- The opening of a group, by the bytes behind its `(`.
abbrev pub angled : List ℕ → Opening
angled [] = Angled
angled (b ∷ bs) = cond (b == 61 || b == 33) Lookbehind Angled

abbrev pub python : List ℕ → Opening
python [] = Unnamed
python (b ∷ bs) = cond (b == 60) Python Unnamed

abbrev pub asked : List ℕ → Opening
asked [] = Asked
asked (b ∷ bs) = cond (b == 61 || b == 33) Lookahead
    (cond (b == 60) (angled bs) (cond (b == 39) Quoted (cond (b == 80) (python bs) Unnamed)))

abbrev pub opening : List ℕ → Opening
opening [] = Last
opening (b ∷ bs) = cond (b == 63) (asked bs) Plain

-- how many bytes the opening takes, its `(` among them
abbrev pub width : Opening → ℕ
width Last = 1
width Plain = 1
width Asked = 2
width Lookahead = 3
width Lookbehind = 4
width Angled = 3
width Quoted = 3
width Python = 3
width Unnamed = 3

-- a letter, a digit, `_`, or a byte of a character beyond ASCII
abbrev pub name_byte : ℕ → Bool
name_byte b = (nat_le 48 b && nat_le b 57) || ((nat_le 65 b && nat_le b 90) || ((nat_le 97 b && nat_le b 122) || (b == 95 || nat_le 128 b)))

abbrev pub name_ends : ℕ → List ℕ → Bool
name_ends close [] = false
name_ends close (b ∷ bs) = b == close || (name_byte b && name_ends close bs)

-- one or more bytes of a name, and then the byte that closes it
abbrev pub named : ℕ → List ℕ → Bool
named close [] = false
named close (b ∷ bs) = name_byte b && name_ends close bs

abbrev pub capturing_if : Bool → Group
capturing_if true = Capturing
capturing_if false = Other

abbrev pub group_of : Opening → List ℕ → Group
group_of Last bs = Other
group_of Plain bs = Capturing
group_of Asked bs = Other
group_of Lookahead bs = Lookaround
group_of Lookbehind bs = Lookaround
group_of Angled bs = capturing_if (named 62 (drop 2 bs))
group_of Quoted bs = capturing_if (named 39 (drop 2 bs))
group_of Python bs = Capturing
group_of Unnamed bs = Other

-- A pattern as openings of groups and other tokens.
pub data Mark : Type 0 where
  group : Group → List ℕ → Mark
  token : Token → Mark

abbrev pub spelled_mark : Mark → List ℕ
spelled_mark (group g bs) = bs
spelled_mark (token t) = spelled t

unfoldable pub first_mark : List ℕ → Mark
first_mark [] = token final
first_mark (b ∷ bs) = cond (opens_group (b ∷ bs))
    (group (group_of (opening bs) bs) (take (width (opening bs)) (b ∷ bs))) (token (first (b ∷ bs)))

abbrev pub marks : List ℕ → List Mark
marks = cut first_mark spelled_mark

-- The groups that are open, the innermost first: for each, whether it is a lookaround.
abbrev pub closing : Token → List Bool → List Bool
closing (escape b) groups = groups
closing final groups = groups
closing (class bs) groups = groups
closing (comment bs) groups = groups
closing (plain b) groups = cond (b == 41) (drop 1 groups) groups

abbrev pub groups_after : List Bool → Mark → List Bool
groups_after groups (group Capturing bs) = false ∷ groups
groups_after groups (group Lookaround bs) = true ∷ groups
groups_after groups (group Other bs) = false ∷ groups
groups_after groups (token t) = closing t groups

abbrev pub in_lookaround : List Bool → Bool
in_lookaround [] = false
in_lookaround (l ∷ groups) = l || in_lookaround groups

-- the number of the last capturing group so far
abbrev pub number_after : ℕ → Mark → ℕ
number_after n (group Capturing bs) = n + 1
number_after n (group Lookaround bs) = n
number_after n (group Other bs) = n
number_after n (token t) = n

-- the number that a mark adds to those that are valid: a capturing group's, unless a lookaround is open around it
abbrev pub valid_number : List Bool → ℕ → Mark → List ℕ
valid_number groups n (group Capturing bs) = cond (in_lookaround groups) [] ((n + 1) ∷ [])
valid_number groups n (group Lookaround bs) = []
valid_number groups n (group Other bs) = []
valid_number groups n (token t) = []

abbrev pub valid_numbers : List Bool → ℕ → List Mark → List ℕ
valid_numbers groups n [] = []
valid_numbers groups n (m ∷ ms) = valid_number groups n m ++ valid_numbers (groups_after groups m) (number_after n m) ms

-- 0 is the whole match
abbrev pub consuming_captures : List ℕ → List ℕ
consuming_captures bs = 0 ∷ valid_numbers [] 0 (marks bs)

-- How many groups are open from the outermost lookaround inwards: all that the numbering has to keep of them.
abbrev pub depth_in_lookaround : List Bool → ℕ
depth_in_lookaround [] = 0
depth_in_lookaround (l ∷ groups) = cond (depth_in_lookaround groups == 0) (cond l 1 0) (depth_in_lookaround groups + 1)

abbrev pub entered : ℕ → ℕ
entered depth = cond (depth == 0) 0 (depth + 1)

abbrev pub left : Token → ℕ → ℕ
left (escape b) depth = depth
left final depth = depth
left (class bs) depth = depth
left (comment bs) depth = depth
left (plain b) depth = cond (b == 41) (depth - 1) depth

-- the depth behind a mark, and the number that the mark adds, by the depth before it
abbrev pub depth_after : ℕ → Mark → ℕ
depth_after depth (group Capturing bs) = entered depth
depth_after depth (group Lookaround bs) = depth + 1
depth_after depth (group Other bs) = entered depth
depth_after depth (token t) = left t depth

abbrev pub found_number : ℕ → ℕ → Mark → Option ℕ
found_number depth n (group Capturing bs) = cond (depth == 0) (Some (n + 1)) None
found_number depth n (group Lookaround bs) = None
found_number depth n (group Other bs) = None
found_number depth n (token t) = None

abbrev pub listed : Option ℕ → List ℕ
listed None = []
listed (Some n) = n ∷ []

-- The numbers that are valid from here on, by what the numbering keeps.
abbrev pub numbers_from : ℕ → ℕ → List Mark → List ℕ
numbers_from depth n [] = []
numbers_from depth n (m ∷ ms) = listed (found_number depth n m) ++ numbers_from (depth_after depth m) (number_after n m) ms

-- each number is less than the next
abbrev pub Rising : List ℕ → Type 0
Rising [] = Unit {0}
Rising (x ∷ []) = Unit {0}
Rising (x ∷ y ∷ zs) = (x < y) × Rising (y ∷ zs)
