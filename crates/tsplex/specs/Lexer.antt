-- What a lexer has not read.
use Rattle.std.specs.Prelude.{ℕ, ◌+◌, List, length}
use Rattle.tsplex.specs.Text.{tokens_from}
use Rattle.tsplex.specs.declared.text.Lexer.{Lexer}

-- the number of the line that it stands on
abbrev pub line_of : Lexer → ℕ
line_of lexer = lexer.line

-- the bytes that it has not read
abbrev pub rest_of : Lexer → List ℕ
rest_of lexer = lexer.rest.now

-- the words that it has not read, each with the number of its line
abbrev pub left : Lexer → List (ℕ × List ℕ)
left lexer = tokens_from lexer.line lexer.rest.now

-- a number that no line which is left exceeds
abbrev pub last_line : Lexer → ℕ
last_line lexer = lexer.line + length lexer.rest.now
