-- Slots over files as their callers see them.
use Rattle.std.specs.Prelude.{ℕ}
use Rattle.ports.specs.declared.file_slots.FileSlots.{FileSlots}

abbrev pub faults_of : {R F D : Type 0} → FileSlots R F D → ℕ
faults_of slots = slots.faults
