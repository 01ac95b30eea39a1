-- Tours that no exchange of two steps with a near replacement shortens.
use Rattle.std.specs.Prelude.{◌≡◌, ◌≢◌, ℕ, ◌+◌, ◌≤◌, Bool, true, false, ◌||◌, List}
use Rattle.tspdef.specs.Sets.{has}
use Rattle.tspdef.specs.Tours.{has_step}
use Rattle.tspdef.specs.Instances.{Instance, dist}
use Rattle.neigh.specs.Near.{Near, near_to}
use Rattle.flips.specs.Cycles.{Follows}

-- one of two cities lists the other
abbrev pub are_near : Near → ℕ → ℕ → Bool
are_near near a c = has (near_to near a) c || has (near_to near c) a

-- No two steps ab and cd of the tour, both read in its direction and neither of them fixed, are longer than ac and bd where one of
-- these is near.
abbrev pub IsAtRest : Instance → Near → List ℕ → Type 0
IsAtRest i near tour = (a b c d : ℕ) → Follows tour a b → Follows tour c d → a ≢ c
    → has_step i.fixed a b ≡ false → has_step i.fixed c d ≡ false → (are_near near a c || are_near near b d) ≡ true
    → dist i a b + dist i c d ≤ dist i a c + dist i b d
