-- Laws of distances.
use Rattle.std.specs.Prelude.{◌≡◌, ℤ}
use Rattle.tspdef.specs.Distances.{Rule, distance}

-- the way back is as long
abbrev pub IsTheSameBack : Type 0
IsTheSameBack = (rule : Rule) (a b : ℤ × ℤ) → distance rule a b ≡ distance rule b a

-- a point is no way from itself
abbrev pub IsNothingAtHome : Type 0
IsNothingAtHome = (rule : Rule) (a : ℤ × ℤ) → distance rule a a ≡ 0
