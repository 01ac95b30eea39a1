-- The table of decided pairs, and the best of the pairs that it leaves open.
use Rattle.std.specs.Prelude.{◌≡◌, ℕ, ◌+◌, ◌*◌, ◌<◌, ◌≤◌, Bool, true, false, cond, nat_lt, List, length, slice_index_or, Option, Some, None, MatchOption}
use Rattle.tspdef.specs.Paths.{Condition, is_decided, IsPair}
use Rattle.cyc.specs.Frac.{Values}
use Rattle.branchx.specs.declared.nearest.Open.{Open}
use Rattle.branchx.specs.Choice.{from_half, ComesBefore}

-- whether a table says that the pair u < v of n cities is decided
abbrev pub tabled : ℕ → List Bool → ℕ → ℕ → Bool
tabled n table u v = slice_index_or table (u * n + v) false

-- the table has a place for each two of n cities, and says of each pair whether the path decides it
pub record IsTableOf (n : ℕ) (path : List Condition) (table : List Bool) : Type 0 where
  pub square : length table ≡ n * n
  pub right : (u v : ℕ) → u < v → v < n → tabled n table u v ≡ is_decided path u v

-- the first of the nearest among the open pairs before a place
pub record IsNearestBefore (x : Values) (table : List Bool) (a b : ℕ) (o : Open) : Type 0 where
  pub pair : IsPair x.n o.u o.v
  pub before : ComesBefore o.u o.v a b
  pub free : tabled x.n table o.u o.v ≡ false
  pub far : o.far ≡ from_half x o.u o.v
  pub nearest : (u v : ℕ) → u < v → v < x.n → ComesBefore u v a b → tabled x.n table u v ≡ false → o.far ≤ from_half x u v
  pub first : (u v : ℕ) → u < v → v < x.n → ComesBefore u v o.u o.v → tabled x.n table u v ≡ false → o.far < from_half x u v

-- that pair, or nothing where no pair before the place is open
abbrev pub IsBestBefore : Values → List Bool → ℕ → ℕ → Option Open → Type 0
IsBestBefore x table a b best = MatchOption best
    ((u v : ℕ) → u < v → v < x.n → ComesBefore u v a b → tabled x.n table u v ≡ true)
    (IsNearestBefore x table a b)

-- the nearer of the best so far and a later pair, the best so far on a tie
abbrev pub nearer : Option Open → Open → Open
nearer None pair = pair
nearer (Some best) pair = cond (nat_lt pair.far best.far) pair best
