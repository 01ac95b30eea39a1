-- Lines outside a section: a keyword, at most one colon, and a value, of which the first word counts.
use Rattle.std.specs.Prelude.{ℕ, ◌==◌, ◌||◌, nat_lt, nat_le, if◌then◌else◌, Bool, List, length, drop, Option, Some, None}
use Rattle.std.specs.List.{before_first, after_first, position_or_len, prefix_len}
use Rattle.tsplex.specs.Number.{first_is, natural_of}
use Rattle.tsplex.specs.Text.{is_blank, word_on}

-- a word and the number of its line
abbrev pub Token : Type 0
Token = ℕ × List ℕ

abbrev pub is_colon : ℕ → Bool
is_colon b = b == 58

-- the keyword of a line: what its first word has before a colon
abbrev pub name_of : List ℕ → List ℕ
name_of first = before_first is_colon first

-- the first word behind a colon: what that word has behind the colon, if anything, else the next word
abbrev pub behind_colon : List ℕ → List ℕ → List ℕ
behind_colon rest next = (if length rest == 0 then next else rest)

-- the first word of a value that begins with this word of line k, or behind the colon that it begins with
unfoldable pub after_colon : ℕ → List ℕ → List Token → List ℕ
after_colon k word ts = (if first_is 58 word then behind_colon (drop 1 word) (word_on k ts) else word)

-- the first word of the value of line k, or no bytes, from the line's first word and the words behind that
unfoldable pub value_of : ℕ → List ℕ → List Token → List ℕ
value_of k first ts = (if nat_lt (position_or_len is_colon first) (length first) then behind_colon (after_first is_colon first) (word_on k ts) else after_colon k (word_on k ts) (drop 1 ts))

abbrev pub three_or_more : Option ℕ → Option ℕ
three_or_more None = None
three_or_more (Some n) = (if nat_le 3 n then Some n else None)

-- a dimension is digits of value 3 to 2000
abbrev pub dimension_of : List ℕ → Option ℕ
dimension_of word = three_or_more (natural_of word 2000)

-- ---- the same, of the bytes of a line

-- some bytes without the blanks at their front
abbrev pub trimmed : List ℕ → List ℕ
trimmed bytes = drop (prefix_len is_blank bytes) bytes

-- some bytes without a colon at their front
abbrev pub without_colon : List ℕ → List ℕ
without_colon bytes = (if first_is 58 bytes then drop 1 bytes else bytes)

abbrev pub ends_keyword : ℕ → Bool
ends_keyword b = is_blank b || is_colon b

-- leading blanks are dropped, and the keyword runs to the first blank or colon
abbrev pub line_keyword : List ℕ → List ℕ
line_keyword line = before_first ends_keyword (trimmed line)

-- after it come blanks, at most one colon, blanks, and the value to the end of the line
abbrev pub line_value : List ℕ → List ℕ
line_value line = trimmed (without_colon (trimmed (drop (length (line_keyword line)) (trimmed line))))

-- the first word of a value that begins with no blank
abbrev pub first_word : List ℕ → List ℕ
first_word value = before_first is_blank value
