-- Branching conditions, and the path of them from the root to a node of the tree.
use Rattle.std.specs.Prelude.{◌≡◌, ◌≢◌, ℕ, zero, suc, ◌<◌, ◌≤◌, Bool, true, false, ◌||◌, List, [], ◌∷◌, ◌++◌, Option, Some, None, map, slice_get}
use Rattle.std.specs.List.{AllByRecursion}
use Rattle.tspdef.specs.Sets.{has, IsProper, IsComplement}
use Rattle.tspdef.specs.Tours.{has_step, joins, crossings}
use Rattle.tspdef.specs.Instances.{Instance}

-- a fixed edge is used, on each path; an edge is not used, or used; a set is crossed exactly twice, or four times at least
-- (Applegate, Bixby, Chvátal, Cook)
pub data Condition : Type 0 where
  fixed : (u v : ℕ) → Condition
  absent : (u v : ℕ) → Condition
  present : (u v : ℕ) → Condition
  two : (set : List ℕ) → Condition
  four : (set : List ℕ) → Condition

-- steps of a tour meet a condition
abbrev pub Meets : List (ℕ × ℕ) → Condition → Type 0
Meets es (fixed u v) = has_step es u v ≡ true
Meets es (absent u v) = has_step es u v ≡ false
Meets es (present u v) = has_step es u v ≡ true
Meets es (two s) = crossings (has s) es ≡ 2
Meets es (four s) = 4 ≤ crossings (has s) es

-- steps of a tour meet each condition of a path
abbrev pub Obeys : List (ℕ × ℕ) → List Condition → Type 0
Obeys es path = AllByRecursion (Meets es) path

-- the path says that u and v are not joined
abbrev pub is_absent : List Condition → ℕ → ℕ → Bool
is_absent [] u v = false
is_absent (fixed a b ∷ cs) u v = is_absent cs u v
is_absent (absent a b ∷ cs) u v = joins u v (a, b) || is_absent cs u v
is_absent (present a b ∷ cs) u v = is_absent cs u v
is_absent (two s ∷ cs) u v = is_absent cs u v
is_absent (four s ∷ cs) u v = is_absent cs u v

-- the path says that u and v are joined
abbrev pub is_present : List Condition → ℕ → ℕ → Bool
is_present [] u v = false
is_present (fixed a b ∷ cs) u v = joins u v (a, b) || is_present cs u v
is_present (absent a b ∷ cs) u v = is_present cs u v
is_present (present a b ∷ cs) u v = joins u v (a, b) || is_present cs u v
is_present (two s ∷ cs) u v = is_present cs u v
is_present (four s ∷ cs) u v = is_present cs u v

-- the path says whether u and v are joined
abbrev pub is_decided : List Condition → ℕ → ℕ → Bool
is_decided path u v = is_absent path u v || is_present path u v

-- two different cities, the lower one first
abbrev pub IsPair : ℕ → ℕ → ℕ → Type 0
IsPair n u v = (u < v) × (v < n)

-- each pair is decided
abbrev pub DecidesAll : ℕ → List Condition → Type 0
DecidesAll n path = (u v : ℕ) → u < v → v < n → is_decided path u v ≡ true

-- the conditions behind the fixed pairs
abbrev pub branches : List Condition → List Condition
branches [] = []
branches (fixed u v ∷ cs) = branches cs
branches (absent u v ∷ cs) = absent u v ∷ branches cs
branches (present u v ∷ cs) = present u v ∷ branches cs
branches (two s ∷ cs) = two s ∷ branches cs
branches (four s ∷ cs) = four s ∷ branches cs

-- the condition may come next on a path: its pair is undecided, its set is proper; fixed pairs come first
abbrev pub MayFollow : ℕ → List Condition → Condition → Type 0
MayFollow n path (fixed u v) = (IsPair n u v × (is_decided path u v ≡ false)) × (branches path ≡ [])
MayFollow n path (absent u v) = IsPair n u v × (is_decided path u v ≡ false)
MayFollow n path (present u v) = IsPair n u v × (is_decided path u v ≡ false)
MayFollow n path (two s) = IsProper n s
MayFollow n path (four s) = IsProper n s

-- each condition of the rest may come next in its turn
abbrev pub ContinuesPath : ℕ → List Condition → List Condition → Type 0
ContinuesPath n path [] = Unit {0}
ContinuesPath n path (c ∷ cs) = MayFollow n path c × ContinuesPath n (path ++ c ∷ []) cs

-- a path of n cities, from the root: no pair is decided twice and each set is proper
abbrev pub IsPath : ℕ → List Condition → Type 0
IsPath n path = ContinuesPath n [] path

-- the conditions that fixed pairs are
abbrev pub fixed_conditions : List (ℕ × ℕ) → List Condition
fixed_conditions pairs = map (λ p. fixed p.0 p.1) pairs

-- the path of the root: the fixed pairs
abbrev pub root : Instance → List Condition
root i = fixed_conditions i.fixed

-- the condition at a depth; depths count from 1, and fixed pairs have none
abbrev pub condition_at : List Condition → ℕ → Option Condition
condition_at path zero = None
condition_at path (suc k) = slice_get (branches path) k

-- a condition on a set
abbrev pub IsClique : Option Condition → Type 0
IsClique (Some (two s)) = Unit {0}
IsClique (Some (four s)) = Unit {0}
IsClique (Some (fixed u v)) = ⊥
IsClique (Some (absent u v)) = ⊥
IsClique (Some (present u v)) = ⊥
IsClique None = ⊥

-- a condition that is on neither the set nor its complement
abbrev pub IsApartFrom : ℕ → List ℕ → Condition → Type 0
IsApartFrom n s (fixed u v) = Unit {0}
IsApartFrom n s (absent u v) = Unit {0}
IsApartFrom n s (present u v) = Unit {0}
IsApartFrom n s (two t) = (t ≢ s) × ¬ IsComplement n s t
IsApartFrom n s (four t) = (t ≢ s) × ¬ IsComplement n s t

-- no condition of the path is on the set or its complement
abbrev pub IsNew : ℕ → List Condition → List ℕ → Type 0
IsNew n path s = AllByRecursion (IsApartFrom n s) path
