use Rattle.tspdef.proofs.CycleLemmas.{same_cycle_is_same_tour, canonical_form_exists, canonical_form_is_one}
use Rattle.tspdef.proofs.tours_are_cycles.Goals as goal

pub returns-clause-same : goal.returns-clause-same
returns-clause-same c = same_cycle_is_same_tour

pub returns-clause-exists : goal.returns-clause-exists
returns-clause-exists c = canonical_form_exists

pub returns-clause-one : goal.returns-clause-one
returns-clause-one c = canonical_form_is_one
