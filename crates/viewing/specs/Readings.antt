-- What reading the two files does.
use Rattle.std.specs.Prelude.{◌≡◌, ℕ, List, []}
use Rattle.ports.specs.Desk.{Told, with_left, with_inlet_path}
use Rattle.ports.specs.declared.desk.Inlet.TheVariants as inlet
use Rattle.verification.specs.Transfers.{ReadsInstance, RefusesInstance}
use Rattle.viewing.specs.Pictures.{AreMapped}
use Rattle.viewing.specs.declared.reading.Reading.{Reading}
use Rattle.viewing.specs.declared.reading.Reading.TheVariants as reading

-- an instance was read, or its first refusal
abbrev pub IsReadingOf : List ℕ → Reading → Told → Told → Type 0
IsReadingOf word (reading.Mapped m) t u = ReadsInstance word m.instance t u
IsReadingOf word (reading.Refused r) t u = RefusesInstance word r t u

-- where an instance was read with points, they are a map of it
abbrev pub AreMappedIn : Reading → Type 0
AreMappedIn (reading.Mapped m) = AreMapped m
AreMappedIn (reading.Refused r) = Unit {0}

-- the inlet of proofs was bound to a word, and all bytes were taken
abbrev pub text_told : List ℕ → Told → Told
text_told word t = with_left inlet.Proof [] (with_inlet_path inlet.Proof word t)

-- the inlet of proofs is bound to a word, and all its bytes, which are these, are taken
pub record ReadsText (word bytes : List ℕ) (t u : Told) : Type 0 where
  pub whole : t.proof_in ≡ bytes
  pub others : u ≡ text_told word t
