-- What the bound rests on.
use Rattle.std.specs.Prelude.{◌≡◌, ℕ, ◌*◌, ◌<◌, ◌≤◌, List, ℤ, pos, ◌≤ℤ◌, ◌<ℤ◌}
use Rattle.tspdef.specs.Tours.{IsTour, steps}
use Rattle.tspdef.specs.Instances.{Instance, IsInstance, IsTourOf, length_in}
use Rattle.tspdef.specs.Bounds.{scale, needed}
use Rattle.onetree.specs.OneTrees.{IsOneTree, degree, IsHeldKarp, AreDuals}
use Rattle.onetree.specs.Certificates.{IsAccepted, IsBoundOf, text, certificate_of}

-- A tour is a one-tree.
abbrev pub ToursAreOneTrees : Type 0
ToursAreOneTrees = (n : ℕ) (tour : List ℕ) → 3 ≤ n → IsTour n tour → IsOneTree n (steps tour)

-- A tour meets each city twice.
abbrev pub ToursMeetTwice : Type 0
ToursMeetTwice = (n : ℕ) (tour : List ℕ) (c : ℕ) → 3 ≤ n → IsTour n tour → c < n → degree c (steps tour) ≡ 2

-- So the Held-Karp value of any duals is at most the length, in units, of each tour.
abbrev pub HeldKarpIsBelow : Type 0
HeldKarpIsBelow = (i : Instance) (p : List ℤ) (h : ℤ) (tour : List ℕ) → 3 ≤ i.n → IsTourOf i tour → IsHeldKarp i p h
    → h ≤ℤ pos (scale * length_in i tour)

-- No tour is shorter than a length b where the value of some duals exceeds the units of length b - 1.
abbrev pub NoTourIsShorter : Type 0
NoTourIsShorter = (i : Instance) (p : List ℤ) (h : ℤ) (b : ℕ) (tour : List ℕ) → 3 ≤ i.n → IsTourOf i tour → IsHeldKarp i p h → needed b <ℤ h
    → b ≤ length_in i tour

-- Some duals have one Held-Karp value at most.
abbrev pub HeldKarpIsOne : Type 0
HeldKarpIsOne = (i : Instance) (p : List ℤ) (h k : ℤ) → IsHeldKarp i p h → IsHeldKarp i p k → h ≡ k

-- The certificate of some duals with the greatest bound that they prove is accepted with it.
abbrev pub WrittenIsAccepted : Type 0
WrittenIsAccepted = (i : Instance) (p : List ℤ) (b : ℕ) → IsInstance i → AreDuals i.n p → IsBoundOf i p b → IsAccepted i (text (certificate_of p b)) b
