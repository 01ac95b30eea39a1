-- The last line of a text that comes in pieces.
use Rattle.std.specs.Prelude.{◌≡◌, ℕ, ◌==◌, ◌||◌, ◌++◌, nat_lt, take, length, Bool, false, List, [], ◌∷◌, if◌then◌else◌}
use Rattle.wording.specs.declared.last_line.LastLine.{LastLine}

-- a front of the last line, and whether that line is at its end
pub record Line : Type 0 where
  pub bytes : List ℕ
  pub is_ended : Bool

abbrev pub line_of : LastLine → Line
line_of l = record { bytes = l.bytes.items; is_ended = l.is_ended }

-- what is kept of the line that the next byte belongs to: behind an end a line begins anew
abbrev pub kept : Line → List ℕ
kept line = if line.is_ended then [] else line.bytes

-- the text goes on with a byte, which is kept where the line has less than 256 bytes
abbrev pub with_byte : Line → ℕ → Line
with_byte line byte = record {
  bytes = if nat_lt (length (kept line)) 256 then kept line ++ byte ∷ [] else kept line;
  is_ended = byte == 10;
}

-- the text goes on with these bytes
abbrev pub with_bytes : Line → List ℕ → Line
with_bytes line [] = line
with_bytes line (byte ∷ bytes) = with_bytes (with_byte line byte) bytes

-- a line of the text ends in front of the text's last byte
abbrev pub goes_on : List ℕ → Bool
goes_on [] = false
goes_on (byte ∷ []) = false
goes_on (byte ∷ next ∷ bytes) = byte == 10 || goes_on (next ∷ bytes)

-- the last line of a text, with its end if it has one
abbrev pub last_line : List ℕ → List ℕ
last_line [] = []
last_line (byte ∷ bytes) = if goes_on (byte ∷ bytes) then last_line bytes else byte ∷ bytes

-- what is kept of no text
abbrev pub nothing : Line
nothing = record { bytes = []; is_ended = false }

-- whatever text comes, what is kept is the front of its last line, up to 256 bytes of it
abbrev pub KeptIsTheLastLine : Type 0
KeptIsTheLastLine = (text : List ℕ) → (with_bytes nothing text).bytes ≡ take 256 (last_line text)
