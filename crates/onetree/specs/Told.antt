-- What a desk is told when a certificate is written.
use Rattle.std.specs.Prelude.{ℕ, ◌<◌, List, length, take, Option, ℤ}
use Rattle.tspdef.specs.Instances.{Instance}
use Rattle.ports.specs.Outside.{BothTell}
use Rattle.ports.specs.Desk.{Told, Adds}
use Rattle.ports.specs.declared.desk.Outlet.TheVariants as outlet
use Rattle.onetree.specs.Certificates.{IsBoundOf, text, certificate_of}

-- the outlet of proofs took the certificate of the duals and their bound
abbrev pub AddsCertificate : Instance → List ℤ → ℕ → Option Told → Option Told → Type 0
AddsCertificate i p b old new = IsBoundOf i p b × BothTell (Adds outlet.Proof (text (certificate_of p b))) old new

-- it took a front of it, and not all of it
abbrev pub AddsFront : Instance → List ℤ → Option Told → Option Told → Type 0
AddsFront i p old new = (b k : ℕ) × IsBoundOf i p b × (k < length (text (certificate_of p b))) × BothTell (Adds outlet.Proof (take k (text (certificate_of p b)))) old new
