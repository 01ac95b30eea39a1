use Rattle.verdict.proofs.Decisions.{tours_are_decided, steps_are_decided, tours_of_instances_are_decided, canonical_is_decided, tours_from_one_are_decided, proper_is_decided, cuts_are_decided, cliques_are_decided, closed_leaves_are_decided}
use Rattle.verdict.proofs.tests_decide.Goals as goal

pub returns-clause-tours : goal.returns-clause-tours
returns-clause-tours c = tours_are_decided

pub returns-clause-steps : goal.returns-clause-steps
returns-clause-steps c = steps_are_decided

pub returns-clause-tours_of_instances : goal.returns-clause-tours_of_instances
returns-clause-tours_of_instances c = tours_of_instances_are_decided

pub returns-clause-canonical : goal.returns-clause-canonical
returns-clause-canonical c = canonical_is_decided

pub returns-clause-tours_from_one : goal.returns-clause-tours_from_one
returns-clause-tours_from_one c = tours_from_one_are_decided

pub returns-clause-proper : goal.returns-clause-proper
returns-clause-proper c = proper_is_decided

pub returns-clause-cuts : goal.returns-clause-cuts
returns-clause-cuts c = cuts_are_decided

pub returns-clause-cliques : goal.returns-clause-cliques
returns-clause-cliques c = cliques_are_decided

pub returns-clause-closed_leaves : goal.returns-clause-closed_leaves
returns-clause-closed_leaves c = closed_leaves_are_decided
