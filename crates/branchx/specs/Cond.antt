-- Conditions of the code as those of the definitions.
use Rattle.std.specs.Prelude.{ℕ, Bool, true, false, List, map, Option, Some, None}
use Rattle.tspdef.specs.Tours.{joins}
use Rattle.tspdef.specs.Paths.{Condition, fixed, absent, present, two, four}
use Rattle.branchx.specs.declared.cond.Cond.{Cond}
use Rattle.branchx.specs.declared.cond.Cond.TheVariants.{Fixed, Absent, Present, Two, Four}

abbrev pub condition_of : Cond → Condition
condition_of (Fixed u v) = fixed u v
condition_of (Absent u v) = absent u v
condition_of (Present u v) = present u v
condition_of (Two set) = two set.cities
condition_of (Four set) = four set.cities

abbrev pub conditions_of : List Cond → List Condition
conditions_of conds = map condition_of conds

-- it is a fixed pair
abbrev pub is_fixed : Condition → Bool
is_fixed (fixed u v) = true
is_fixed (absent u v) = false
is_fixed (present u v) = false
is_fixed (two set) = false
is_fixed (four set) = false

-- the pair that a condition is on
abbrev pub pair_of : Condition → Option (ℕ × ℕ)
pair_of (fixed u v) = Some (u, v)
pair_of (absent u v) = Some (u, v)
pair_of (present u v) = Some (u, v)
pair_of (two set) = None
pair_of (four set) = None

-- the condition says whether u and v are joined
abbrev pub decides : Condition → ℕ → ℕ → Bool
decides (fixed a b) u v = joins u v (a, b)
decides (absent a b) u v = joins u v (a, b)
decides (present a b) u v = joins u v (a, b)
decides (two set) u v = false
decides (four set) u v = false
