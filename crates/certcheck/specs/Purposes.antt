-- By what a text is judged, by what it is read for.
use Rattle.std.specs.Prelude.{ℕ, Bool, true, false, List, [], ◌∷◌, Option, Some, None}
use Rattle.tspdef.specs.Instances.{Instance}
use Rattle.tspdef.specs.Paths.{Condition}
use Rattle.certdef.specs.Proofs.{Listed, Duals}
use Rattle.certdef.specs.Tests.{Tests, verifier, closes_leaf}
use Rattle.verdict.specs.Bodies.{closes_merged}
use Rattle.verdict.specs.Parts as defs
use Rattle.certcheck.specs.declared.purpose.Purpose.{Purpose}
use Rattle.certcheck.specs.declared.purpose.Purpose.TheVariants as purposes
use Rattle.certcheck.specs.declared.part.Part.{Part}
use Rattle.certcheck.specs.Parts.{part_of}

abbrev pub closes_by : Purpose → Instance → ℕ → List Listed → List Condition → Duals → Bool
closes_by purposes.Verify i = closes_leaf i
closes_by purposes.Resume i = closes_merged i

abbrev pub opens_by : Purpose → Bool
opens_by purposes.Verify = false
opens_by purposes.Resume = true

-- a verifier's tests, or a resumer's
abbrev pub tests_by : Purpose → Instance → Tests
tests_by u i = record (verifier i) { closes = closes_by u i; opens = opens_by u }

-- the part that a line says, if any
abbrev pub parts_in : Option Part → List defs.Part
parts_in None = []
parts_in (Some p) = part_of p ∷ []
