-- The fields of a pool.
use Rattle.std.specs.Prelude.{ℕ, ◌≤◌, length}
use Rattle.std.specs.List.{All}
use Rattle.tspdef.specs.Cuts.{IsCut}
use Rattle.cutpool.specs.Pool.{Pool}
use Rattle.cutpool.specs.declared.pool.CutPool.TheInside.{Inside}

-- what the fields list
abbrev pub pool_of : Inside → Pool
pool_of p = record { n = p.n; cuts = p.cuts.keys }

-- cuts of 3 to 2,000 cities, 65,536 at most
pub record IsPool (p : Inside) : Type 0 where
  pub many : 3 ≤ p.n
  pub few : p.n ≤ 2000
  pub cuts : All (IsCut p.n) p.cuts.keys
  pub room : length p.cuts.keys ≤ 65536
