use Rattle.tspdef.proofs.RootLemmas.{roots_are_paths, tours_obey_roots}
use Rattle.tspdef.proofs.roots_are_paths.Goals as goal

pub returns-clause-paths : goal.returns-clause-paths
returns-clause-paths c = roots_are_paths

pub returns-clause-obeyed : goal.returns-clause-obeyed
returns-clause-obeyed c = tours_obey_roots
