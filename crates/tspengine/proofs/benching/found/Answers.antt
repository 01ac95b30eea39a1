use Rattle.tspengine.proofs.Beginnings.{found_of}
use Rattle.tspengine.proofs.benching.found.Goals as goal

pub returns : goal.returns
returns c =
    found_of c.few_cities_end.ensures c.args.instance.now c.args.budget c.in_ok-boss.field-0 c.in_ok-boss-2.boss c.in_ok-boss.ensures c.in_ok-boss-2.ensures c.snapshot-book.ensures.book
