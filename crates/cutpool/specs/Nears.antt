-- The pairs of each city, and what of them leaves sets.
use Rattle.std.specs.Prelude.{◌≡◌, ℕ, ◌+◌, Bool, cond, ◌==◌, List, [], sum_by, slice_index_or}
use Rattle.tspdef.specs.Sets.{has}
use Rattle.cyc.specs.declared.frac.Entry.{Entry}
use Rattle.cutpool.specs.declared.nears.Near.{Near}

-- what a pair adds where its other city is not in the set
abbrev pub left_by : (ℕ → Bool) → Near → ℕ
left_by p q = cond (p q.city) 0 q.x

-- the sum of the pairs of a city whose other city is not in the set
abbrev pub row_weight : List (List Near) → ℕ → (ℕ → Bool) → ℕ
row_weight rows c p = sum_by (left_by p) (slice_index_or rows c [])

-- what an entry adds to that
abbrev pub leaving : ℕ → (ℕ → Bool) → Entry → ℕ
leaving c p e = cond (c == e.u) (cond (p e.v) 0 e.x) 0 + cond (c == e.v) (cond (p e.u) 0 e.x) 0

-- the rows list the entries at both of their cities
abbrev pub AreRows : List Entry → List (List Near) → Type 0
AreRows es rows = (c : ℕ) (p : ℕ → Bool) → row_weight rows c p ≡ sum_by (leaving c p) es

-- what the rows say that crosses a set
abbrev pub set_weight : List (List Near) → List ℕ → ℕ
set_weight rows s = sum_by (λ c. row_weight rows c (has s)) s
