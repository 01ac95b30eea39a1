-- What pricing a closing answers.
use Rattle.std.specs.Prelude.{◌≡◌}
use Rattle.tspdef.specs.Instances.{Instance}
use Rattle.tspdef.specs.Closings.{Closing, Fits, IsMisfit}
use Rattle.branchx.specs.Path.{Conditions}
use Rattle.pricer.specs.declared.priced.Pricing.{Pricing}
use Rattle.pricer.specs.declared.priced.Pricing.TheVariants.{Priced, Misfit}

-- the closing with what it was priced for, where it fits; else the least that is wrong
abbrev pub IsPricing : Instance → Conditions → Closing → Pricing → Type 0
IsPricing i path c (Priced p) = (p ≡ record { instance = i; path = path; closing = c }) × Fits i.n path.conditions c
IsPricing i path c (Misfit k) = IsMisfit i.n path.conditions c k
