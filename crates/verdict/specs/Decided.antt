-- The law that ties the tests to the definitions that they decide.
use Rattle.std.specs.Prelude.{◌≡◌, ℕ, ◌≤◌, ◌↔◌, true, List, Option, ◌<ℤ◌}
use Rattle.std.specs.List.{AllByRecursion}
use Rattle.tspdef.specs.Sets.{IsProper}
use Rattle.tspdef.specs.Tours.{IsTour, IsCanonical}
use Rattle.tspdef.specs.Fixed.{AreSteps}
use Rattle.tspdef.specs.Instances.{Instance, IsTourOf}
use Rattle.tspdef.specs.Cuts.{Cut, IsCut}
use Rattle.tspdef.specs.Paths.{Condition, IsClique}
use Rattle.tspdef.specs.Bounds.{bound, needed}
use Rattle.certdef.specs.Proofs.{Listed, Duals}
use Rattle.certdef.specs.Accepted.{from_zero, cuts_of, closing_of, is_clique}
use Rattle.certdef.specs.Tests.{is_tour, are_steps, is_tour_of, is_canonical, is_tour_from_one, is_proper, is_cut, closes_leaf}

-- A canonical tour of the instance, with its fixed pairs, of cities from 1.
pub record IsTourFromOne (i : Instance) (cs : List ℕ) : Type 0 where
  pub from_one : AllByRecursion (λ c. 1 ≤ c) cs
  pub is_tour : IsTourOf i (from_zero cs)
  pub canonical : IsCanonical (from_zero cs)

abbrev pub ToursAreDecided : Type 0
ToursAreDecided = (n : ℕ) (cs : List ℕ) → (is_tour n cs ≡ true) ↔ IsTour n cs

abbrev pub StepsAreDecided : Type 0
StepsAreDecided = (es pairs : List (ℕ × ℕ)) → (are_steps es pairs ≡ true) ↔ AreSteps es pairs

abbrev pub ToursOfInstancesAreDecided : Type 0
ToursOfInstancesAreDecided = (i : Instance) (cs : List ℕ) → (is_tour_of i cs ≡ true) ↔ IsTourOf i cs

abbrev pub CanonicalIsDecided : Type 0
CanonicalIsDecided = (cs : List ℕ) → (is_canonical cs ≡ true) ↔ IsCanonical cs

abbrev pub ToursFromOneAreDecided : Type 0
ToursFromOneAreDecided = (i : Instance) (cs : List ℕ) → (is_tour_from_one i cs ≡ true) ↔ IsTourFromOne i cs

abbrev pub ProperIsDecided : Type 0
ProperIsDecided = (n : ℕ) (s : List ℕ) → (is_proper n s ≡ true) ↔ IsProper n s

abbrev pub CutsAreDecided : Type 0
CutsAreDecided = (n : ℕ) (c : Cut) → (is_cut n c ≡ true) ↔ IsCut n c

abbrev pub CliquesAreDecided : Type 0
CliquesAreDecided = (c : Option Condition) → (is_clique c ≡ true) ↔ IsClique c

abbrev pub ClosedLeavesAreDecided : Type 0
ClosedLeavesAreDecided = (i : Instance) (b : ℕ) (cs : List Listed) (path : List Condition) (d : Duals)
    → (closes_leaf i b cs path d ≡ true) ↔ (needed b <ℤ bound i path (closing_of i.n (cuts_of i.n cs) d))
