use Rattle.treebook.proofs.Covering.{closing_keeps_covers, splitting_keeps_covers}
use Rattle.treebook.proofs.laws.tables_cover.Goals as goal

pub returns-clause-closing : goal.returns-clause-closing
returns-clause-closing c = closing_keeps_covers c.bound_is_below.ensures.fitting c.trees_cover.ensures.closing

pub returns-clause-splitting : goal.returns-clause-splitting
returns-clause-splitting c = splitting_keeps_covers c.trees_cover.ensures.edge_split c.trees_cover.ensures.clique_split
