-- What a desk is told when a body is written.
use Rattle.std.specs.Prelude.{ℕ, ◌<◌, List, length, take, Option}
use Rattle.tspdef.specs.Instances.{Instance}
use Rattle.tspdef.specs.Trees.{Tree}
use Rattle.ports.specs.Outside.{BothTell}
use Rattle.ports.specs.Desk.{Told, Adds}
use Rattle.ports.specs.declared.desk.Outlet.TheVariants as outlet
use Rattle.certform.specs.Written.{IsBody}

-- the outlet of proofs took exactly the body
abbrev pub AddsBody : Instance → List ℕ → ℕ → Tree → Option Told → Option Told → Type 0
AddsBody i tour b t old new = (body : List ℕ) × IsBody i tour b t body × BothTell (Adds outlet.Proof body) old new

-- the outlet of proofs took a front of the body, and not all of it
abbrev pub AddsFront : Instance → List ℕ → ℕ → Tree → Option Told → Option Told → Type 0
AddsFront i tour b t old new = (body : List ℕ) × (k : ℕ) × IsBody i tour b t body × (k < length body) × BothTell (Adds outlet.Proof (take k body)) old new
