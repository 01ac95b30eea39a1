use Rattle.verdict.proofs.Bodies.{yes_is_body_text, resumed_is_sound}
use Rattle.verdict.proofs.SayingBytes.{bodies_say_their_parts}
use Rattle.verdict.proofs.yes_is_body_text.Goals as goal

pub returns-clause-exact : goal.returns-clause-exact
returns-clause-exact c = yes_is_body_text

pub returns-clause-parts : goal.returns-clause-parts
returns-clause-parts c = bodies_say_their_parts

pub returns-clause-sound : goal.returns-clause-sound
returns-clause-sound c = resumed_is_sound
