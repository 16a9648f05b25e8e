-- The flow form from below: blanks, integers, strings and the three words.
-- A relation on `bytes` and `rest` says that a thing stands at the front of `bytes`, and that `rest` is what follows it.
use Rattle.std.specs.Prelude.{◌≡◌, ℕ, ◌+◌, ◌-◌, ◌*◌, ◌^◌, ◌<◌, ◌≤◌, Bool, true, false, cond, ◌||◌, List, [], ◌∷◌, ◌++◌, length, take, drop, ℤ, pos, neg_ℤ, Some, None, codes, encode_utf8, Option, ◌==◌, ◌≢◌, nat_lt, slice_index}
use Rattle.std.proofs.Math.Utf8.{scalar}
use Rattle.std.specs.Str.{all_ascii_digits}

-- space, tab, carriage return, line feed
abbrev pub is_blank : ℕ → Bool
is_blank b = b == 32 || (b == 9 || (b == 13 || b == 10))

-- the number that digits write, behind the number of the digits before them
abbrev pub decimal : ℕ → List ℕ → ℕ
decimal n [] = n
decimal n (d ∷ ds) = decimal (10 * n + (d - 48)) ds

-- digits, one at least, and then the rest; their number
pub record Digits (bytes rest : List ℕ) (n : ℕ) : Type 0 where
  pub digits : List ℕ
  pub whole : bytes ≡ digits ++ rest
  pub all : all_ascii_digits digits ≡ true
  pub some : 0 < length digits
  pub number : n ≡ decimal 0 digits

-- an integer of 64 bits
pub data Integer : List ℕ → List ℕ → ℤ → Type 0 where
  plain : {bytes rest : List ℕ} {n : ℕ} → Digits bytes rest n → n < 2 ^ 63 → Integer bytes rest (pos n)
  minus : {bytes rest : List ℕ} {n : ℕ} → Digits bytes rest n → n ≤ 2 ^ 63 → Integer (45 ∷ bytes) rest (neg_ℤ (pos n))

-- the byte that a backslash and this byte stand for
abbrev pub escaped : ℕ → Option ℕ
escaped b =
    cond (b == 34 || (b == 92 || b == 47)) (Some b)
    (cond (b == 98) (Some 8) (cond (b == 116) (Some 9) (cond (b == 110) (Some 10)
    (cond (b == 102) (Some 12) (cond (b == 114) (Some 13) None)))))

-- what a hexadecimal digit counts
abbrev pub hex_value : ℕ → Option ℕ
hex_value b =
    cond (nat_lt b 48) None (cond (nat_lt b 58) (Some (b - 48)) (cond (nat_lt b 65) None (cond (nat_lt b 71) (Some (b - 55))
    (cond (nat_lt b 97) None (cond (nat_lt b 103) (Some (b - 87)) None)))))

abbrev pub four_digits : Option ℕ → Option ℕ → Option ℕ → Option ℕ → Option ℕ
four_digits None b c d = None
four_digits (Some a) None c d = None
four_digits (Some a) (Some b) None d = None
four_digits (Some a) (Some b) (Some c) None = None
four_digits (Some a) (Some b) (Some c) (Some d) = Some ((a * 16 + b) * 256 + (c * 16 + d))

-- the number of a `\uXXXX` at the front
abbrev pub code_unit : List ℕ → Option ℕ
code_unit bs =
    cond (nat_lt (length bs) 6) None (cond (slice_index bs 0 == 92) (cond (slice_index bs 1 == 117)
    (four_digits (hex_value (slice_index bs 2)) (hex_value (slice_index bs 3)) (hex_value (slice_index bs 4)) (hex_value (slice_index bs 5))) None) None)

abbrev pub is_high : ℕ → Bool
is_high u = cond (nat_lt u 55296) false (nat_lt u 56320)

abbrev pub is_low : ℕ → Bool
is_low u = cond (nat_lt u 56320) false (nat_lt u 57344)

-- the character that two parts of a surrogate pair are
abbrev pub pair_of : ℕ → ℕ → Option ℕ
pair_of u v = cond (is_high u) (cond (is_low v) (Some (65536 + (u - 55296) * 1024 + (v - 56320))) None) None

abbrev pub taking : ℕ → Option ℕ → Option (ℕ × ℕ)
taking width None = None
taking width (Some c) = Some (c, width)

abbrev pub paired_with : ℕ → Option ℕ → Option (ℕ × ℕ)
paired_with u None = None
paired_with u (Some v) = taking 12 (pair_of u v)

abbrev pub character_from : List ℕ → Option ℕ → Option (ℕ × ℕ)
character_from bs None = None
character_from bs (Some u) = cond (scalar u) (Some (u, 6)) (paired_with u (code_unit (drop 6 bs)))

-- the character of the one or two `\uXXXX` at the front, and how many bytes they take
abbrev pub character : List ℕ → Option (ℕ × ℕ)
character bs = character_from bs (code_unit bs)

abbrev pub escape_from : Option (ℕ × ℕ) → Option ℕ → Option (List ℕ × ℕ)
escape_from (Some p) b = Some (encode_utf8 p.0, p.1)
escape_from None None = None
escape_from None (Some b) = Some (b ∷ [], 2)

-- the bytes that the escape at the front stands for, and how many bytes it takes
abbrev pub escape : List ℕ → Option (List ℕ × ℕ)
escape bs = escape_from (character bs) (cond (nat_lt (length bs) 2) None (escaped (slice_index bs 1)))

-- the same of a byte of a string, or an escape: bytes below 32 have to be escaped
abbrev pub piece : List ℕ → Option (List ℕ × ℕ)
piece bs = cond (slice_index bs 0 == 92) (escape bs) (cond (nat_lt (slice_index bs 0) 32) None (Some (slice_index bs 0 ∷ [], 1)))

-- the inside of a string and its closing quote: which bytes the string has
pub data Inside : List ℕ → List ℕ → List ℕ → Type 0 where
  closed : {rest : List ℕ} → Inside (34 ∷ rest) rest []
  more : {bytes rest these those : List ℕ} {width : ℕ} → (slice_index bytes 0 ≢ 34) → piece bytes ≡ Some (these, width) →
      Inside (drop width bytes) rest those → Inside bytes rest (these ++ those)

-- the three words, with the kind and the number of their node
pub data Word : List ℕ → List ℕ → ℕ → ℤ → Type 0 where
  truth : {rest : List ℕ} → Word (codes "true" ++ rest) rest 1 (pos 1)
  falsehood : {rest : List ℕ} → Word (codes "false" ++ rest) rest 1 (pos 0)
  nothing : {rest : List ℕ} → Word (codes "null" ++ rest) rest 0 (pos 0)

-- none of the three stands at the front
abbrev pub Wordless : List ℕ → Type 0
Wordless bytes = (take 4 bytes ≢ codes "true") × (take 5 bytes ≢ codes "false") × (take 4 bytes ≢ codes "null")
