-- The way up from a node of the tree to the root.
use Rattle.std.specs.Prelude.{◌≡◌, ℕ, zero, suc, List, [], ◌∷◌, length, take, Option, Some, None}
use Rattle.tspdef.specs.Sets.{IsProper}
use Rattle.tspdef.specs.Paths.{Condition, fixed, absent, present, two, four, IsPair}
use Rattle.pricer.specs.declared.trail.Step.{Step}
use Rattle.pricer.specs.declared.trail.Step.TheVariants.{Fixed, Absent, Present, Two, Four}

-- the condition that a step is
abbrev pub condition_of : Step → Condition
condition_of (Fixed u v) = fixed u v
condition_of (Absent u v) = absent u v
condition_of (Present u v) = present u v
condition_of (Two s) = two s.now.cities
condition_of (Four s) = four s.now.cities

-- the first conditions of a path
abbrev pub IsFront : List Condition → List Condition → Type 0
IsFront front path = front ≡ take (length front) path

-- how many fixed pairs a path begins with
abbrev pub fixed_in_front : List Condition → ℕ
fixed_in_front [] = zero
fixed_in_front (fixed u v ∷ cs) = suc (fixed_in_front cs)
fixed_in_front (absent u v ∷ cs) = zero
fixed_in_front (present u v ∷ cs) = zero
fixed_in_front (two s ∷ cs) = zero
fixed_in_front (four s ∷ cs) = zero

-- if it is a condition on a set, the set is a proper one of n cities
abbrev pub HasProperSet : ℕ → Option Condition → Type 0
HasProperSet n (Some (two s)) = IsProper n s
HasProperSet n (Some (four s)) = IsProper n s
HasProperSet n (Some (fixed u v)) = Unit {0}
HasProperSet n (Some (absent u v)) = Unit {0}
HasProperSet n (Some (present u v)) = Unit {0}
HasProperSet n None = Unit {0}

-- if it is a condition on a pair, the pair is one of n cities, the lower city first
abbrev pub IsPairBelow : ℕ → Condition → Type 0
IsPairBelow n (fixed u v) = IsPair n u v
IsPairBelow n (absent u v) = IsPair n u v
IsPairBelow n (present u v) = IsPair n u v
IsPairBelow n (two s) = Unit {0}
IsPairBelow n (four s) = Unit {0}
