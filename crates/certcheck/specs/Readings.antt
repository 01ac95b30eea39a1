-- Where a reading of a text's bytes stands.
use Rattle.std.specs.Prelude.{◌≡◌, ◌≢◌, ℕ, ◌+◌, ◌<◌, ◌≤◌, false, List, ◌++◌, length, slice_index, Result, Ok, Err}
use Rattle.certdef.specs.Items.{longest}
use Rattle.certdef.specs.Accepted.{most_bytes}
use Rattle.certdef.specs.Verdicts.{is_end}
use Rattle.certdef.specs.Bytes as bytes
use Rattle.certdef.specs.Bytes.{Read, reads, stops}
use Rattle.verdict.specs.Parts as defs
use Rattle.certcheck.specs.Stages.{stage_of, Stands}
use Rattle.certcheck.specs.Keeping.{Keeps}
use Rattle.certcheck.specs.declared.purpose.Purpose.TheVariants as purposes
use Rattle.certcheck.specs.declared.reading.Reading.{Reading}
use Rattle.certcheck.specs.declared.answer.Trouble.{Trouble}
use Rattle.certcheck.specs.declared.answer.Trouble.TheVariants as troubles

abbrev pub reading_of : Reading → bytes.Reading
reading_of r = record { at = r.count.at; read = r.count.read; stage = stage_of r.progress; begun = r.begun.items }

-- the bytes were read on so, unless memory ran out
abbrev pub Reads : ℕ → Result (Unit {0}) Trouble → Reading → Read → Type 0
Reads n (Ok x) r q = (q ≡ reads (reading_of r)) × Stands n r.progress
Reads n (Err troubles.NoMemory) r q = Unit {0}
Reads n (Err (troubles.Refused k at)) r q = q ≡ stops k at

-- no byte ends a line
abbrev pub HasNoLineEnd : List ℕ → Type 0
HasNoLineEnd bytes = (k : ℕ) → k < length bytes → slice_index bytes k ≢ 10

-- so many bytes more leave the line and the text within their bounds, and the tree has not ended
pub record HasRoom (more : ℕ) (r : bytes.Reading) : Type 0 where
  pub goes_on : is_end r.stage ≡ false
  pub line : length r.begun + more ≤ longest
  pub text : r.read + more < most_bytes

-- in a body, what was kept goes on with these parts
abbrev pub SaysMore : Reading → Reading → List defs.Part → Type 0
SaysMore r q more = r.progress.purpose ≡ purposes.Resume → (said : List defs.Part) → Keeps r.parts said → Keeps q.parts (said ++ more)
