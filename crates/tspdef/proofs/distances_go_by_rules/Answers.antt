use Rattle.tspdef.proofs.Roots.{distances_go_by_rules}
use Rattle.tspdef.proofs.distances_go_by_rules.Goals as goal

pub returns : goal.returns
returns c = distances_go_by_rules
