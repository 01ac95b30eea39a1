use Rattle.tspdef.proofs.Covering.{root_covers, edge_split_covers, clique_split_covers, closing_covers, covered_is_least}
use Rattle.tspdef.proofs.trees_cover.Goals as goal

pub returns-clause-root : goal.returns-clause-root
returns-clause-root c = root_covers

pub returns-clause-edge_split : goal.returns-clause-edge_split
returns-clause-edge_split c = edge_split_covers

pub returns-clause-clique_split : goal.returns-clause-clique_split
returns-clause-clique_split c = clique_split_covers

pub returns-clause-closing : goal.returns-clause-closing
returns-clause-closing c = closing_covers

pub returns-clause-least : goal.returns-clause-least
returns-clause-least c = covered_is_least
