-- The law of refusals: each is that of the front of the text, and what is wrong there.
use Rattle.std.specs.Prelude.{◌≡◌, ℕ, zero, suc, ◌+◌, ◌-◌, ◌^◌, ◌<◌, ◌≤◌, ◌⊎◌, ◌==◌, if◌then◌else◌, List, [], ◌∷◌, ◌++◌, length}
use Rattle.tspdef.specs.Instances.{Instance}
use Rattle.certdef.specs.Items.{item_of}
use Rattle.certdef.specs.Accepted.{IsAcceptedText, most_bytes}
use Rattle.certdef.specs.Tests.{verifier}
use Rattle.certdef.specs.Verdicts.{yes, no}
use Rattle.certdef.specs.Bytes.{Reading, reads, start, bytes_on, verdict}
use Rattle.verdict.specs.Faults.{Fault}

-- the first m lines, each with its LF; all the bytes, where there are no more lines
abbrev pub first_lines : ℕ → List ℕ → List ℕ
first_lines zero bs = []
first_lines (suc m) [] = []
first_lines (suc m) (b ∷ bs) = b ∷ first_lines (if b == 10 then m else suc m) bs

-- the line behind the first m lines, without its LF
abbrev pub line_behind : ℕ → List ℕ → List ℕ
line_behind m [] = []
line_behind zero (b ∷ bs) = if b == 10 then [] else b ∷ line_behind zero bs
line_behind (suc m) (b ∷ bs) = line_behind (if b == 10 then m else suc m) bs

-- how many lines end in a LF
abbrev pub ended_lines : List ℕ → ℕ
ended_lines [] = 0
ended_lines (b ∷ bs) = (if b == 10 then 1 else 0) + ended_lines bs

-- The first q lines alone are a text that is accepted, or one that ends too early, which is told at the line that would come.
abbrev pub NothingIsRefused : Instance → ℕ → List ℕ → Type 0
NothingIsRefused i q bytes = (verdict i (first_lines q bytes) ≡ no 1 (q + 1)) ⊎ ((l : ℕ) × (b : ℕ) × (verdict i (first_lines q bytes) ≡ yes l b))

-- A text that begins with these bytes is refused at line `at` or later, if at all; or for a comb, an odd cut or a leaf that begins before.
abbrev pub IsRefusedFrom : Instance → List ℕ → ℕ → Type 0
IsRefusedFrom i front at = (more : List ℕ) (k line : ℕ) → verdict i (front ++ more) ≡ no k line → (at ≤ line) ⊎ (k ≡ 5) ⊎ (k ≡ 7)

-- The refusal k at line `at` is told once line m is read.
pub record IsTold (i : Instance) (bytes : List ℕ) (k at m : ℕ) : Type 0 where
  -- each text with the same first m lines has it, each that begins with these bytes has it, and none of them is accepted
  pub same : (other : List ℕ) → first_lines m other ≡ first_lines m bytes → verdict i other ≡ no k at
  pub always : (more : List ℕ) → verdict i (first_lines m bytes ++ more) ≡ no k at
  pub never : (more : List ℕ) (l b : ℕ) → ¬ IsAcceptedText i (first_lines m bytes ++ more) l b
  -- in fewer lines nothing is refused
  pub first : (q : ℕ) → q < m → NothingIsRefused i q bytes
  -- the line is m itself, but for a comb, an odd cut or a leaf, which begins there
  pub begins : 1 ≤ at
  pub ends : at ≤ m
  pub line : (at ≡ m) ⊎ (k ≡ 5) ⊎ (k ≡ 7)
  -- the lines before it begin no text that is refused before it
  pub later : IsRefusedFrom i (first_lines (at - 1) bytes) at
  -- how the reading stands where line m begins, and what is wrong with the line
  pub before : Reading
  pub clean : before.begun ≡ []
  pub stands : bytes_on (verifier i) (reads start) (first_lines (m - 1) bytes) ≡ reads before
  pub fault : Fault i before.stage m (item_of i.n (line_behind (m - 1) bytes)) k at

-- The bytes end before the tree does: nothing in them is refused, and `at` is the line that is begun or would come.
pub record EndsEarly (i : Instance) (bytes : List ℕ) (k at : ℕ) : Type 0 where
  pub refusal : k ≡ 1
  pub line : at ≡ ended_lines bytes + 1
  pub first : (q : ℕ) → q < at → NothingIsRefused i q bytes
  pub later : IsRefusedFrom i bytes at

-- There are more than 2^60 bytes: in the first 2^60 nothing is refused, and `at` is the line that is reached with them.
pub record IsTooLong (i : Instance) (bytes : List ℕ) (k at : ℕ) : Type 0 where
  pub refusal : k ≡ 10
  pub front : List ℕ
  pub rest : List ℕ
  pub split : bytes ≡ front ++ rest
  pub most : length front ≡ most_bytes
  pub some : 0 < length rest
  pub line : at ≡ ended_lines front + 1
  pub nothing : (verdict i front ≡ no 1 at) ⊎ ((l : ℕ) × (b : ℕ) × (verdict i front ≡ yes l b))

-- Each refusal is told once a line is read, or the bytes end too early, or they are too many.
abbrev pub RefusalsAreOfTheFront : Type 0
RefusalsAreOfTheFront = (i : Instance) (bytes : List ℕ) (k at : ℕ) → i.n < 2 ^ 32 → verdict i bytes ≡ no k at
    → ((m : ℕ) × IsTold i bytes k at m) ⊎ EndsEarly i bytes k at ⊎ IsTooLong i bytes k at

-- Bytes behind a tree stand behind the lines of an accepted text.
abbrev pub TrailingIsBehindAccepted : Type 0
TrailingIsBehindAccepted = (i : Instance) (bytes : List ℕ) (at : ℕ) → i.n < 2 ^ 32 → verdict i bytes ≡ no 9 at
    → (l : ℕ) × (b : ℕ) × IsAcceptedText i (first_lines (at - 1) bytes) l b
