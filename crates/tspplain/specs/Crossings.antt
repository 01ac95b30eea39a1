-- What the values on pairs let cross a set of cities as bits.
use Rattle.std.specs.Prelude.{◌≡◌, ℕ, ◌+◌, ◌-◌, ◌*◌, ◌%◌, ◌^◌, ◌<◌, ◌≤◌, Bool, true, false, cond, nat_lt, ◌&&◌, ◌⊎◌, List, length, sum_by, ℤ, pos}
use Rattle.tspdef.specs.Sums.{sum_pairs}
use Rattle.tspdef.specs.Tours.{crosses}
use Rattle.cyc.specs.declared.frac.Entry.{Entry}
use Rattle.cyc.specs.Frac.{Values, value_of}
use Rattle.tspplain.specs.Bits.{in_bits}

-- exactly one of two cities is in the set; no pair with a city from 32 on crosses one
abbrev pub crosses_bits : ℕ → ℕ → ℕ → Bool
crosses_bits set u v = nat_lt u 32 && (nat_lt v 32 && crosses (in_bits set) (u, v))

-- what an entry adds to what crosses the set
abbrev pub entry_crossing : ℕ → Entry → ℕ
entry_crossing set e = cond (crosses_bits set e.u e.v) e.x 0

-- the sum of the values that cross the set
unfoldable pub crossing_of : List Entry → ℕ → ℕ
crossing_of es set = sum_by (entry_crossing set) es

-- the same as a sum over all pairs
abbrev pub crossing_weight : Values → ℕ → ℤ
crossing_weight x set = sum_pairs (λ u v. pos (value_of x.entries u v * cond (crosses (in_bits set) (u, v)) 1 0)) x.n

-- of the sets of a kind below a limit, the least that crosses one; the greatest number of 64 bits where there is no such set
pub record IsLeastCrossing (es : List Entry) (limit : ℕ) (kind : ℕ → Type 0) (least : ℕ) : Type 0 where
  pub within : (set : ℕ) → set < limit → kind set → least ≤ crossing_of es set
  pub attained : (least ≡ 2 ^ 64 - 1) ⊎ ((set : ℕ) × ((set < limit) × (kind set × (crossing_of es set ≡ least))))

-- the set has all of one set and none of another
pub record IsBetween (all none set : ℕ) : Type 0 where
  pub all_in : (city : ℕ) → in_bits all city ≡ true → in_bits set city ≡ true
  pub none_in : (city : ℕ) → in_bits none city ≡ true → in_bits set city ≡ false

-- what is asked of a handle and teeth, in units of 2^-20 of a length, as a number of 64 bits
abbrev pub asked_of : ℕ → ℕ
asked_of sets = ((sets * 3 % 2 ^ 64 + (2 ^ 64 - 2)) % 2 ^ 64 * 2 ^ 20) % 2 ^ 64

-- by how much less than that crosses them
abbrev pub missed_of : List Entry → List ℕ → ℕ
missed_of es sets = asked_of (length sets) - sum_by (crossing_of es) sets % 2 ^ 64

-- a handle and an odd number of teeth, three or more, whose comb the values miss by 2^10 units or more
pub record IsMissedComb (es : List Entry) (sets : List ℕ) : Type 0 where
  pub many : 4 ≤ length sets
  pub even : length sets % 2 ≡ 0
  pub far : 2 ^ 10 ≤ missed_of es sets
