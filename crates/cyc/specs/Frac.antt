-- Values on pairs of cities, as a list of entries.
use Rattle.std.specs.Prelude.{◌≡◌, ◌≢◌, ℕ, ◌+◌, ◌^◌, ◌<◌, ◌≤◌, Bool, false, cond, ◌||◌, List, [], ◌∷◌, length, take}
use Rattle.std.specs.List.{AllByRecursion}
use Rattle.tspdef.specs.Tours.{joins}
use Rattle.cyc.specs.declared.frac.Entry.{Entry}

-- n cities, and the entries
pub record Values : Type 0 where
  pub n : ℕ
  pub entries : List Entry

-- the value of a pair, in either order: 0 where no entry is of it
abbrev pub value_of : List Entry → ℕ → ℕ → ℕ
value_of [] u v = 0
value_of (e ∷ es) u v = cond (joins u v (e.u, e.v)) e.x (value_of es u v)

-- an entry is of this pair
abbrev pub is_listed : List Entry → ℕ → ℕ → Bool
is_listed [] u v = false
is_listed (e ∷ es) u v = joins u v (e.u, e.v) || is_listed es u v

-- a value of at most 2^30 on two different cities below n
pub record IsEntry (n : ℕ) (e : Entry) : Type 0 where
  pub u_below : e.u < n
  pub v_below : e.v < n
  pub apart : e.u ≢ e.v
  pub small : e.x ≤ 2 ^ 30

-- no two entries are of one pair
abbrev pub ArePairsDistinct : List Entry → Type 0
ArePairsDistinct [] = Unit {0}
ArePairsDistinct (e ∷ es) = (is_listed es e.u e.v ≡ false) × ArePairsDistinct es

-- entries of distinct pairs of n cities
pub record AreEntries (n : ℕ) (es : List Entry) : Type 0 where
  pub each : AllByRecursion (IsEntry n) es
  pub distinct : ArePairsDistinct es

-- the first k entries are in order, and with the next one they are not
pub record IsFirstBad (n : ℕ) (es : List Entry) (k : ℕ) : Type 0 where
  pub within : k < length es
  pub before : AreEntries n (take k es)
  pub with_it : ¬ AreEntries n (take (k + 1) es)
