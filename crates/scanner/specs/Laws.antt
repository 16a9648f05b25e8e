-- Laws of the rewritten patterns, over their definitions alone.
use Rattle.std.specs.Prelude.{◌≡◌, ℕ, ◌+◌, ◌<◌, true, false, List, [], ◌∷◌, ◌++◌, length, codes, IsUtf8, ◌≢◌, slice_index}
use Rattle.std.specs.List.{flat_map}
use Rattle.backrefs.specs.Backrefs.{has_backref, substituted, placeholder}
use Rattle.groups.specs.Captures.{consuming_captures}
use Rattle.newlines.specs.Newlines.{Piece, token, pieces, with_newline, for_newlines, without_newlines, for_no_newlines}
use Rattle.tokens.specs.Posix.{token_with_properties, with_properties}
use Rattle.tokens.specs.Tokens.{Token, comment, spelled, tokens}

-- no byte of the text is b
abbrev pub Without : ℕ → List ℕ → Type 0
Without b bs = (k : ℕ) → k < length bs → slice_index bs k ≢ b

-- nowhere in the text does a stand right before b
abbrev pub Apart : ℕ → ℕ → List ℕ → Type 0
Apart a b bs = (k : ℕ) → k + 1 < length bs → slice_index bs k ≡ a → slice_index bs (k + 1) ≢ b

-- The tokens of a pattern, joined, are the pattern.
abbrev pub TokensJoined : Type 0
TokensJoined = (bs : List ℕ) → flat_map spelled (tokens bs) ≡ bs

-- A pattern without `$` is the same for lines with a newline.
abbrev pub NewlinesUnchanged : Type 0
NewlinesUnchanged = (bs : List ℕ) → Without 36 bs → for_newlines bs ≡ bs

-- A pattern without `\n` is the same for lines without a newline.
abbrev pub NoNewlinesUnchanged : Type 0
NoNewlinesUnchanged = (bs : List ℕ) → Apart 92 110 bs → for_no_newlines bs ≡ bs

-- A pattern without `[:` is the same where POSIX brackets are replaced.
abbrev pub PropertiesUnchanged : Type 0
PropertiesUnchanged = (bs : List ℕ) → Apart 91 58 bs → with_properties bs ≡ bs

-- A comment stays as it is, for lines with a newline,
abbrev pub NewlinesKeepComments : Type 0
NewlinesKeepComments = (bs cs : List ℕ) (ts us : List Token) → tokens bs ≡ ts ++ comment cs ∷ us →
    for_newlines bs ≡ flat_map with_newline ts ++ (cs ++ flat_map with_newline us)

-- for lines without,
abbrev pub NoNewlinesKeepComments : Type 0
NoNewlinesKeepComments = (bs cs : List ℕ) (ps qs : List Piece) → pieces bs ≡ ps ++ token (comment cs) ∷ qs →
    for_no_newlines bs ≡ without_newlines ps ++ (cs ++ without_newlines qs)

-- and where POSIX brackets are replaced.
abbrev pub PropertiesKeepComments : Type 0
PropertiesKeepComments = (bs cs : List ℕ) (ts us : List Token) → tokens bs ≡ ts ++ comment cs ∷ us →
    with_properties bs ≡ flat_map token_with_properties ts ++ (cs ++ flat_map token_with_properties us)

-- A pattern that is UTF-8 stays UTF-8, for lines with a newline,
abbrev pub NewlinesUtf8 : Type 0
NewlinesUtf8 = (bs : List ℕ) → IsUtf8 bs → IsUtf8 (for_newlines bs)

-- for lines without,
abbrev pub NoNewlinesUtf8 : Type 0
NoNewlinesUtf8 = (bs : List ℕ) → IsUtf8 bs → IsUtf8 (for_no_newlines bs)

-- and where POSIX brackets are replaced.
abbrev pub PropertiesUtf8 : Type 0
PropertiesUtf8 = (bs : List ℕ) → IsUtf8 bs → IsUtf8 (with_properties bs)

-- Patterns and what becomes of them; 92 is the backslash.
pub record WorkedExamples : Type 0 where
  -- a$[$]\$ is a(?m:$)[$]\$
  pub newlines : for_newlines (codes "a$[$]" ++ 92 ∷ codes "$") ≡ codes "a(?m:$)[$]" ++ 92 ∷ codes "$"
  -- [^\n]\n is [^\n]$
  pub negated : for_no_newlines (codes "[^" ++ 92 ∷ codes "n]" ++ 92 ∷ codes "n") ≡ codes "[^" ++ 92 ∷ codes "n]$"
  -- [\n]+ is (?:[\n]|$)+
  pub class : for_no_newlines (codes "[" ++ 92 ∷ codes "n]+") ≡ codes "(?:[" ++ 92 ∷ codes "n]|$)+"
  -- \n? stays
  pub repeated : for_no_newlines (92 ∷ codes "n?") ≡ 92 ∷ codes "n?"
  -- (?:\n)? is (?:$|)
  pub optional : for_no_newlines (codes "(?:" ++ 92 ∷ codes "n)?") ≡ codes "(?:$|)"
  -- [(?:\n)?] is (?:[(?:\n)?]|$)
  pub optional_in_class : for_no_newlines (codes "[(?:" ++ 92 ∷ codes "n)?]") ≡ codes "(?:[(?:" ++ 92 ∷ codes "n)?]|$)"
  -- [[:alnum:]_] is [\p{L}\p{N}_]
  pub posix : with_properties (codes "[[:alnum:]_]") ≡ codes "[" ++ 92 ∷ codes "p{L}" ++ 92 ∷ codes "p{N}_]"
  -- [:alpha:] stays: it is a class
  pub posix_outside : with_properties (codes "[:alpha:]") ≡ codes "[:alpha:]"
  -- \[:alpha:] stays
  pub posix_escaped : with_properties (92 ∷ codes "[:alpha:]") ≡ 92 ∷ codes "[:alpha:]"
  -- (a)(?=(b))(?<n>c) has 0, 1, 3
  pub lookahead : consuming_captures (codes "(a)(?=(b))(?<n>c)") ≡ 0 ∷ 1 ∷ 3 ∷ []
  -- (?#(a) has 0 alone
  pub commented : consuming_captures (codes "(?#(a)") ≡ 0 ∷ []
  -- (?#(a)(b) has 0 and 1: the comment ends at the first `)`
  pub comment_ends : consuming_captures (codes "(?#(a)(b)") ≡ 0 ∷ 1 ∷ []
  -- (?#\))(a) has 0 and 1
  pub comment_escape : consuming_captures (codes "(?#" ++ 92 ∷ codes "))(a)") ≡ 0 ∷ 1 ∷ []
  -- \\1 has no backreference
  pub backslash : has_backref (92 ∷ 92 ∷ codes "1") ≡ false
  -- \1 has one
  pub backref : has_backref (92 ∷ codes "1") ≡ true
  -- a\1b is a<placeholder_1>b
  pub placed : substituted placeholder (codes "a" ++ 92 ∷ codes "1b") ≡ codes "a<placeholder_1>b"

pub record RewritingLaws : Type 0 where
  pub joined_tokens : TokensJoined
  pub newlines_unchanged : NewlinesUnchanged
  pub no_newlines_unchanged : NoNewlinesUnchanged
  pub properties_unchanged : PropertiesUnchanged
  pub newlines_keep_comments : NewlinesKeepComments
  pub no_newlines_keep_comments : NoNewlinesKeepComments
  pub properties_keep_comments : PropertiesKeepComments
  pub newlines_utf8 : NewlinesUtf8
  pub no_newlines_utf8 : NoNewlinesUtf8
  pub properties_utf8 : PropertiesUtf8
  pub examples : WorkedExamples
