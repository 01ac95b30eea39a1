-- How a call ends that goes no further than its instance: `solve` and `tour` share this.
use Rattle.tspwords.specs.Program.{instance_word}
use Rattle.verification.specs.Headline.{BadInstance}
use Rattle.verification.specs.Transfers.{Torn, TouchesInstance}
use Rattle.tspengine.specs.Calls.{Call, DeskMoved, SlotsKept}

-- BadInstance: the first refusal of the instance is printed.
pub record Refuses (c : Call) : Type 0 where
  pub desk : DeskMoved (BadInstance (instance_word c.words)) c
  pub slots : SlotsKept c

-- WriteFault: of that a front is printed.
pub record TornRefusal (c : Call) : Type 0 where
  pub desk : DeskMoved (Torn (BadInstance (instance_word c.words))) c
  pub slots : SlotsKept c

-- ReadFault or NoMemory: nothing was done, or the instance was bound and a front of it taken.
pub record Unread (c : Call) : Type 0 where
  pub desk : DeskMoved (TouchesInstance (instance_word c.words)) c
  pub slots : SlotsKept c
