use Rattle.std.proofs.Common.{◌≡◌, ◌-◌, []}
use Rattle.sepcomb.specs.Growth.{path_from}
use Rattle.sepcomb.proofs.growth.path_out.Given as goal

abbrev pub invariant-loop-step : goal.invariant-loop-step
invariant-loop-step l = path_from (l.x.n - l.step) l.x.entries l.handle.cities l.used l.path.items l.newest ≡ path_from l.x.n l.x.entries l.handle.cities l.used [] l.from
