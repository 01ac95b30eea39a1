use Rattle.std.specs.List.{All}
use Rattle.cyc.specs.Frac.{IsEntry}
use Rattle.sepblos.proofs.wider.teeth_but.Given as goal

abbrev pub invariant-loop-entry : goal.invariant-loop-entry
invariant-loop-entry l = All (IsEntry l.x.n) l.teeth.items
