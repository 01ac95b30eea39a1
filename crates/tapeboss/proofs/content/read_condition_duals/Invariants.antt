use Rattle.std.proofs.Common.{◌≡◌, ◌-◌, []}
use Rattle.tapeboss.specs.Messages as defs
use Rattle.tapeboss.proofs.content.read_condition_duals.Given as goal

abbrev pub invariant-loop : goal.invariant-loop
invariant-loop l = record {
  n : l.lines.n ≡ l.fn.lines.n;
  read : defs.condition_duals_on l.fn.lines.n l.duals.items (l.count - l.counter) l.lines.rest.now ≡ defs.condition_duals_on l.fn.lines.n [] l.fn.count l.fn.lines.rest.now;
}
