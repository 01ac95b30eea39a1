-- Tours that are offered.
use Rattle.std.proofs.Common.{ℕ, List, ◌≡◌, length, subst}
use Rattle.tspdef.specs.Tours.{IsTour, steps}
use Rattle.tspdef.specs.Fixed.{AreSteps}
use Rattle.tspdef.specs.Instances.{Instance, IsTourOf}
use Rattle.cyc.specs.Tour.{IsWhole}

-- a whole list of as many cities that has the fixed pairs is a tour
pub tour_of : (i : Instance) (tour cities : List ℕ) (pairs : List (ℕ × ℕ)) → cities ≡ tour → pairs ≡ i.fixed → length tour ≡ i.n → IsWhole tour → AreSteps (steps cities) pairs → IsTourOf i tour
tour_of i tour cities pairs same fixed n whole held = record {
  is_tour = subst (λ (m : ℕ). IsTour m tour) n whole.is_tour;
  holds_fixed = subst (λ (ps : List (ℕ × ℕ)). AreSteps (steps tour) ps) fixed (subst (λ (ts : List ℕ). AreSteps (steps ts) pairs) same held);
}
