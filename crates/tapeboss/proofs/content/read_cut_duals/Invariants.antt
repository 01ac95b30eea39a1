use Rattle.std.proofs.Common.{◌≡◌, ◌-◌, []}
use Rattle.std.specs.List.{AllByRecursion}
use Rattle.certtests.specs.Places.{IsFromOne}
use Rattle.tapeboss.specs.Messages as defs
use Rattle.tapeboss.proofs.content.read_cut_duals.Given as goal

abbrev pub invariant-loop : goal.invariant-loop
invariant-loop l = record {
  n : l.lines.n ≡ l.fn.lines.n;
  listed : l.listed ≡ l.fn.listed;
  read : defs.cut_duals_on l.fn.lines.n l.fn.listed l.duals.items (l.count - l.counter) l.lines.rest.now ≡ defs.cut_duals_on l.fn.lines.n l.fn.listed [] l.fn.count l.fn.lines.rest.now;
  numbers : AllByRecursion (λ q. IsFromOne l.fn.listed q.0) l.duals.items;
}
