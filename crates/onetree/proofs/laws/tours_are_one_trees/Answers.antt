use Rattle.onetree.proofs.Tours as lemmas
use Rattle.onetree.proofs.laws.tours_are_one_trees.Goals as goal

pub returns-clause-tours : goal.returns-clause-tours
returns-clause-tours c = lemmas.tours_are_one_trees

pub returns-clause-twice : goal.returns-clause-twice
returns-clause-twice c = lemmas.tours_meet_twice

pub returns-clause-below : goal.returns-clause-below
returns-clause-below c = lemmas.held_karp_is_below

pub returns-clause-one : goal.returns-clause-one
returns-clause-one c = lemmas.held_karp_is_one

pub returns-clause-shorter : goal.returns-clause-shorter
returns-clause-shorter c = lemmas.no_tour_is_shorter
