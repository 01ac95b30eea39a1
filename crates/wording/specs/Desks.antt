-- A keeping desk as its callers see it.
use Rattle.std.specs.Prelude.{ℕ, List}
use Rattle.ports.specs.declared.desk.Outlet.{Outlet}
use Rattle.ports.specs.declared.desk.Outlet.TheVariants as outlet
use Rattle.wording.specs.LastLine.{Line, line_of, with_bytes}
use Rattle.wording.specs.declared.desk.KeepingDesk.{KeepingDesk}

-- the desk that the calls are passed on to
abbrev pub inner_of : {D : Type 0} → KeepingDesk D → D
inner_of keeping = keeping.desk

-- what it keeps of the last line that was printed
abbrev pub printed_by : {D : Type 0} → KeepingDesk D → Line
printed_by keeping = line_of keeping.last_line

-- an outlet took these bytes: those of the text are printed
abbrev pub with_printed : Outlet → List ℕ → Line → Line
with_printed outlet.Text bytes line = with_bytes line bytes
with_printed outlet.Proof bytes line = line
