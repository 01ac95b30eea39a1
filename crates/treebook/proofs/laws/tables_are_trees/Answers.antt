use Rattle.treebook.proofs.TreeLemmas.{fresh_is_table, paths_are_paths, open_nodes_are_open_leaves}
use Rattle.treebook.proofs.laws.tables_are_trees.Goals as goal

pub returns-clause-paths : goal.returns-clause-paths
returns-clause-paths c = paths_are_paths

pub returns-clause-leaves : goal.returns-clause-leaves
returns-clause-leaves c = open_nodes_are_open_leaves

pub returns-clause-fresh : goal.returns-clause-fresh
returns-clause-fresh c = fresh_is_table
