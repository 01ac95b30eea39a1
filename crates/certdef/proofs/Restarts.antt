use Rattle.std.proofs.Common.{ℕ, ◌≤◌, arith}
use Rattle.std.specs.Prelude.{Option, Some, None}
use Rattle.certdef.specs.Accepted.{IsBoundOf}
use Rattle.certdef.specs.Restarts.{ClosedIsAccepted}

-- a bound is no greater than the length
pub bound_le : (told : Option ℕ) (l b : ℕ) → IsBoundOf told l b → b ≤ l
bound_le None l b h = omega arith
bound_le (Some k) l b h = let m = h.1 in omega arith

pub closed_is_accepted : ClosedIsAccepted
closed_is_accepted i l b p k none = record {
  about = k.about;
  accepted = record { is_tour = k.is_tour; canonical = k.canonical; long = k.long; below = bound_le p.bound l b k.about.bound; sound = k.sound; none_open = none };
}
