-- A desk over files as its callers see it.
use Rattle.std.specs.Prelude.{ℕ}
use Rattle.ports.specs.declared.file_desk.FileDesk.{FileDesk}

abbrev pub read_faults_of : {R F D : Type 0} → FileDesk R F D → ℕ
read_faults_of desk = desk.read_faults

abbrev pub write_faults_of : {R F D : Type 0} → FileDesk R F D → ℕ
write_faults_of desk = desk.write_faults
