use Rattle.resume_form.proofs.Taken.{one_reading}
use Rattle.resume_form.proofs.laws.bodies_have_one_reading.Goals as goal

pub returns : goal.returns
returns c = one_reading c.yes_is_body_text.ensures.exact c.yes_is_body_text.ensures.parts
