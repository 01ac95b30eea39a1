-- A slot as a file.
use Rattle.std.specs.Prelude.{ℕ, List, string_bytes}
use Rattle.ports.specs.declared.slot_file.SlotFile.{SlotFile}

-- the path of the file
abbrev pub slot_path : {F : Type 0} → SlotFile F → List ℕ
slot_path slot = string_bytes slot.path
