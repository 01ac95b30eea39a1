use Rattle.std.specs.Prelude.{IfSome}
use Rattle.ports.specs.MemSlots.{told_of}
use Rattle.slotstore.specs.Standing.{StandsFor}
use Rattle.slot_cases.proofs.tests.crashes.lives.Given as goal

abbrev pub invariant-calls : goal.invariant-calls
invariant-calls l = IfSome l.store (λ store. StandsFor store (told_of l.slots))
