use Rattle.tspround.proofs.Few.{few_cities_none_open}
use Rattle.tspround.proofs.laws.few_cities_end.Goals as goal

pub returns : goal.returns
returns c = few_cities_none_open
