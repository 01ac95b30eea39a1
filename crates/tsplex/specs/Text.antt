-- The lines and words of a text.
use Rattle.std.specs.Prelude.{ℕ, suc, ◌^◌, ◌-◌, ◌||◌, ◌==◌, Bool, true, false, not, min, if◌then◌else◌, List, [], ◌∷◌, ◌++◌, map, drop, filter}
use Rattle.std.specs.List.{slice_split, position_or_len}

-- space, tab and carriage return
abbrev pub is_blank : ℕ → Bool
is_blank b = b == 32 || b == 9 || b == 13

-- line feed
abbrev pub is_line_end : ℕ → Bool
is_line_end b = b == 10

-- what stands between words
abbrev pub is_space : ℕ → Bool
is_space b = is_blank b || is_line_end b

abbrev pub has_bytes : List ℕ → Bool
has_bytes [] = false
has_bytes (b ∷ bs) = true

-- the words of a line: what stands between its blanks
abbrev pub words : List ℕ → List (List ℕ)
words line = filter has_bytes (slice_split is_blank line)

-- the words of some lines, each with the number of its line; the first line has the number k
unfoldable pub numbered : ℕ → List (List ℕ) → List (ℕ × List ℕ)
numbered k [] = []
numbered k (line ∷ lines) = map (λ w. (k, w)) (words line) ++ numbered (suc k) lines

-- the words of a text whose first line has the number k, each with the number of its line
unfoldable pub tokens_from : ℕ → List ℕ → List (ℕ × List ℕ)
tokens_from k bytes = numbered k (slice_split is_line_end bytes)

-- the words of a text, whose lines count from 1
abbrev pub tokens : List ℕ → List (ℕ × List ℕ)
tokens bytes = tokens_from 1 bytes

-- the first of some words, where it stands on line k, else no bytes
unfoldable pub word_on : ℕ → List (ℕ × List ℕ) → List ℕ
word_on k [] = []
word_on k (t ∷ ts) = (if t.0 == k then t.1 else [])

-- the words behind line k, of words from line k on
unfoldable pub behind_line : ℕ → List (ℕ × List ℕ) → List (ℕ × List ℕ)
behind_line k [] = []
behind_line k (t ∷ ts) = (if t.0 == k then behind_line k ts else t ∷ ts)

-- some bytes from their first word on
unfoldable pub from_word : List ℕ → List ℕ
from_word bytes = drop (position_or_len (λ b. not (is_space b)) bytes) bytes

-- the number of line k as it is told: it stays at the greatest of 32 bits
abbrev pub told : ℕ → ℕ
told k = min k (2 ^ 32 - 1)
