use Rattle.slotstore.proofs.Events as events
use Rattle.slotstore.proofs.laws.nothing_is_lost.Goals as goal

pub returns : goal.returns
returns c = events.nothing_is_lost
