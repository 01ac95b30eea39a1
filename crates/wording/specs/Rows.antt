-- Rows of a table of refusals, and which of them a printed line is of.
use Rattle.std.specs.Prelude.{ℕ, ◌+◌, ◌-◌, ◌*◌, ◌^◌, ◌==◌, ◌++◌, nat_eq, min, Bool, List, [], ◌∷◌, take, drop, length, Option, Some, None, if◌then◌else◌, decimal, codes}
use Rattle.std.specs.Option.{option_and_then}
use Rattle.std.specs.List.{prefix_len}
use Rattle.std.specs.Cmp.Lexicographic.{pointwise}
use Rattle.std.specs.Char.{is_ascii_digit}
use Rattle.wording.specs.declared.rows.Row.{Row}
use Rattle.wording.specs.declared.rows.StatusRow.{StatusRow}

-- a text begins with these bytes
abbrev pub begins_with : List ℕ → List ℕ → Bool
begins_with front text = pointwise nat_eq front (take (length front) text)

-- what stands behind these bytes, if the text begins with them
abbrev pub behind : List ℕ → List ℕ → Option (List ℕ)
behind front text = if begins_with front text then Some (drop (length front) text) else None

-- the number that digits go on from n, at most 2^64 - 1
abbrev pub number_from : ℕ → List ℕ → ℕ
number_from n [] = n
number_from n (digit ∷ digits) = number_from (min (min (n * 10) (2 ^ 64 - 1) + (digit - 48)) (2 ^ 64 - 1)) digits

-- the number that the digits in front of a text spell, 0 where there are none
abbrev pub number_in : List ℕ → ℕ
number_in text = number_from 0 (take (prefix_len is_ascii_digit text) text)

-- what stands behind the digits in front of a text
abbrev pub behind_digits : List ℕ → List ℕ
behind_digits text = drop (prefix_len is_ascii_digit text) text

-- the number of the place that a line of this row names, 0 where it names none, behind the row's front
abbrev pub place_behind : Row → List ℕ → Option ℕ
place_behind row rest = if begins_with row.back.now (behind_digits rest) then Some (number_in rest) else None

-- The number of the place that a line names, 0 where it names none: the line begins with the row's front, digits or none, and the
-- row's back. None where it does not.
abbrev pub place_in : Row → List ℕ → Option ℕ
place_in row line = option_and_then (place_behind row) (behind row.front.now line)

-- the words of a status in the first row of it
abbrev pub words_of : List StatusRow → ℕ → Option (List ℕ)
words_of [] status = None
words_of (row ∷ rows) status = if row.status == status then Some row.words.now else words_of rows status

-- the number of a place, behind its kind
abbrev pub number_text : ℕ → List ℕ
number_text number = codes " " ++ decimal number

-- a place, and what is said of it
abbrev pub placed : List ℕ → ℕ → List ℕ → List ℕ
placed kind number words = ((kind ++ number_text number) ++ codes ": ") ++ words

-- the same, where 0 is no place
abbrev pub sentence : List ℕ → ℕ → List ℕ → List ℕ
sentence kind number words = if number == 0 then words else placed kind number words

-- what a row says of a place, or else the rest
abbrev pub said_or : List ℕ → List ℕ → Option ℕ → Option (List ℕ) → Option (List ℕ)
said_or kind words (Some number) rest = Some (sentence kind number words)
said_or kind words None rest = rest

-- what the first row that a line is of says
abbrev pub said : List ℕ → List Row → List ℕ → Option (List ℕ)
said kind [] line = None
said kind (row ∷ rows) line = said_or kind row.words.now (place_in row line) (said kind rows line)
