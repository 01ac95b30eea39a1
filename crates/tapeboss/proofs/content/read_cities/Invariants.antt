use Rattle.std.proofs.Common.{◌≡◌, ◌-◌, []}
use Rattle.tapeboss.specs.Messages as defs
use Rattle.tapeboss.proofs.content.read_cities.Given as goal

abbrev pub invariant-loop : goal.invariant-loop
invariant-loop l = record {
  n : l.lines.n ≡ l.fn.lines.n;
  read : defs.cities_on l.fn.lines.n l.cities.items (l.count - l.counter) l.lines.rest.now ≡ defs.cities_on l.fn.lines.n [] l.fn.count l.fn.lines.rest.now;
}
