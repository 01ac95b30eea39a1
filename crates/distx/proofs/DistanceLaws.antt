-- Distances do not depend on the direction, and are 0 at home.
use Rattle.std.proofs.Common.{◌≡◌, ℤ, ◌-ℤ◌, nat_abs, refl, arith}
use Rattle.std.proofs.lemmas.Int.{ints}
use Rattle.tspdef.specs.Distances.{Rule, euclidean, rounded_up, pseudo_euclidean, manhattan, maximum, root, least}
use Rattle.distx.specs.Laws.{IsTheSameBack, IsNothingAtHome}

gap_turned : (a b : ℤ) → nat_abs (a -ℤ b) ≡ nat_abs (b -ℤ a)
gap_turned a b = omega (arith, ints)

no_gap : (a : ℤ) → nat_abs (a -ℤ a) ≡ 0
no_gap a = omega (arith, ints)

pub distance_turned : IsTheSameBack
distance_turned euclidean a b = rw (gap_turned a.0 b.0, gap_turned a.1 b.1) refl
distance_turned rounded_up a b = rw (gap_turned a.0 b.0, gap_turned a.1 b.1) refl
distance_turned pseudo_euclidean a b = rw (gap_turned a.0 b.0, gap_turned a.1 b.1) refl
distance_turned manhattan a b = rw (gap_turned a.0 b.0, gap_turned a.1 b.1) refl
distance_turned maximum a b = rw (gap_turned a.0 b.0, gap_turned a.1 b.1) refl

no_root : (rule : Rule) → root rule 0 ≡ 0
unfolding least
no_root rule = refl

pub no_distance : IsNothingAtHome
no_distance euclidean a = rw (no_gap a.0, no_gap a.1) (no_root euclidean)
no_distance rounded_up a = rw (no_gap a.0, no_gap a.1) (no_root rounded_up)
no_distance pseudo_euclidean a = rw (no_gap a.0, no_gap a.1) (no_root pseudo_euclidean)
no_distance manhattan a = rw (no_gap a.0, no_gap a.1) refl
no_distance maximum a = rw (no_gap a.0, no_gap a.1) refl
