use Rattle.std.proofs.Common.{◌≡◌, ◌-◌, [], map}
use Rattle.std.specs.List.{AllByRecursion}
use Rattle.tspdef.specs.Cuts.{IsCut}
use Rattle.certtests.specs.Listed.{listed}
use Rattle.tapeboss.specs.Messages as defs
use Rattle.tapeboss.proofs.cuts.read_cuts.Given as goal

abbrev pub invariant-loop : goal.invariant-loop
invariant-loop l = record {
  n : l.lines.n ≡ l.fn.lines.n;
  read : defs.cuts_on l.fn.lines.n (map listed l.cuts.items) (l.count - l.counter) l.lines.rest.now ≡ defs.cuts_on l.fn.lines.n [] l.fn.count l.fn.lines.rest.now;
  cuts : AllByRecursion (IsCut l.fn.lines.n) l.cuts.items;
}
