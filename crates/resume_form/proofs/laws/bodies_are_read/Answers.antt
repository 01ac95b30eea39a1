use Rattle.resume_form.proofs.Taken.{bodies_are_read, one_tree}
use Rattle.resume_form.proofs.laws.bodies_are_read.Goals as goal

pub returns-clause-read : goal.returns-clause-read
returns-clause-read c = bodies_are_read c.yes_is_body_text.ensures.sound

pub returns-clause-one : goal.returns-clause-one
returns-clause-one c = one_tree c.spellings_are_apart.ensures.one
