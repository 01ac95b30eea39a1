use Rattle.std.proofs.Common.{arith, refl}
use Rattle.pricer.proofs.bounds.losses.Goals as goal

pub lay_prices-requires : goal.lay_prices-requires
lay_prices-requires g c κs = ((refl, tt), (c.requires.cities, (c.requires.closing, (omega arith, c.zeros-price.ensures.empty))))

pub all_rows-requires : goal.all_rows-requires
all_rows-requires g c κs = ((refl, tt), (c.requires.few, (c.requires.cities, (c.requires.closing, (omega arith, c.lay_prices.ensures)))))
