-- The fields of a closing whose bound is known.
use Rattle.std.specs.Prelude.{◌≡◌}
use Rattle.std.specs.Arc.{arc_value}
use Rattle.tspdef.specs.Bounds.{bound}
use Rattle.pricer.specs.Priced.{PricedClosing, IsPriced}
use Rattle.pricer.specs.declared.priced.Priced.TheInside.{Inside}

abbrev pub priced_of : Inside → PricedClosing
priced_of p = record { instance = arc_value p.instance; path = p.path; closing = p.closing }

-- the bound is that of the closing on the path, for the instance
pub record IsWellPriced (p : Inside) : Type 0 where
  pub is_priced : IsPriced (priced_of p)
  pub bound : p.bound ≡ bound (arc_value p.instance) p.path.conditions p.closing
