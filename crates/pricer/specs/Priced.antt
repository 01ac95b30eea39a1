-- Closings whose bounds are known.
use Rattle.std.specs.Prelude.{◌≡◌}
use Rattle.tspdef.specs.Instances.{Instance}
use Rattle.tspdef.specs.Closings.{Closing, Fits}
use Rattle.branchx.specs.Path.{Conditions}

-- a closing with the path and the instance for which it was priced
pub record PricedClosing : Type 0 where
  pub instance : Instance
  pub path : Conditions
  pub closing : Closing

-- the path is of the instance's cities, and the closing fits there
pub record IsPriced (p : PricedClosing) : Type 0 where
  pub cities : p.path.n ≡ p.instance.n
  pub fits : Fits p.instance.n p.path.conditions p.closing
