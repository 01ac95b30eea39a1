use Rattle.verdict.proofs.Refusing.{refusals_are_of_the_front, trailing_is_behind_accepted}
use Rattle.verdict.proofs.refusals_are_of_the_front.Goals as goal

pub returns-clause-told : goal.returns-clause-told
returns-clause-told c = refusals_are_of_the_front

pub returns-clause-trailing : goal.returns-clause-trailing
returns-clause-trailing c = trailing_is_behind_accepted
