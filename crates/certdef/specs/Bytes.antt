-- The verdict on the bytes of a text, byte by byte. Refusals by number: 1 a line that is not of the form at its place, or
-- the bytes end before the tree does; 2 another number of cities; 3 no canonical tour of the instance: not of its cities, not
-- canonical, or without a fixed pair; 4 not its length; 5 a bad cut, or a set of all cities; 6 a split of a decided pair, a fixed
-- one among them; 7 a leaf whose bound is too weak; 8 an open leaf; 9 bytes behind the tree; 10 more than 2^60 bytes; 11 a bound that
-- is told and is not below the length.
use Rattle.std.specs.Prelude.{ℕ, ◌+◌, ◌==◌, nat_lt, nat_le, if◌then◌else◌, List, [], ◌∷◌, ◌++◌, length}
use Rattle.tspdef.specs.Instances.{Instance}
use Rattle.certdef.specs.Items.{item_of, longest}
use Rattle.certdef.specs.Accepted.{most_bytes}
use Rattle.certdef.specs.Tests.{Tests, verifier}
use Rattle.certdef.specs.Verdicts.{Stage, wants_title, Verdict, no, Outcome, go, refused, line_step, is_end, at_end}

-- where a reading stands: the number of the line that is begun, the bytes read, which line must come, and what has come of it
pub record Reading : Type 0 where
  pub at : ℕ
  pub read : ℕ
  pub stage : Stage
  pub begun : List ℕ

pub data Read : Type 0 where
  reads : (reading : Reading) → Read
  stops : (refusal at : ℕ) → Read

abbrev pub start : Reading
start = record { at = 1; read = 0; stage = wants_title; begun = [] }

abbrev pub line_on : ℕ → ℕ → Outcome → Read
line_on at read (go s) = reads (record { at = at + 1; read = read + 1; stage = s; begun = [] })
line_on at read (refused k from) = stops k from

-- a byte past the most, and one behind the tree, are refused; a LF ends the line; a line that is too long is not of the form
abbrev pub byte_on : Tests → Reading → ℕ → Read
byte_on j r b =
    if nat_le most_bytes r.read then stops 10 r.at else
    if is_end r.stage then stops 9 r.at else
    if b == 10 then line_on r.at r.read (line_step j r.at r.stage (item_of j.n r.begun)) else
    if nat_lt (length r.begun) longest then reads (record { at = r.at; read = r.read + 1; stage = r.stage; begun = r.begun ++ b ∷ [] }) else
    stops 1 r.at

abbrev pub bytes_on : Tests → Read → List ℕ → Read
bytes_on j (stops k at) bs = stops k at
bytes_on j (reads r) [] = reads r
bytes_on j (reads r) (b ∷ bs) = bytes_on j (byte_on j r b) bs

-- the bytes end here
abbrev pub end_of : Reading → Verdict
end_of r = if nat_lt 0 (length r.begun) then no 1 r.at else at_end r.at r.stage

abbrev pub verdict_at_end : Read → Verdict
verdict_at_end (stops k at) = no k at
verdict_at_end (reads r) = end_of r

-- a verifier's verdict on the bytes of a text
abbrev pub verdict : Instance → List ℕ → Verdict
verdict i bytes = verdict_at_end (bytes_on (verifier i) (reads start) bytes)
