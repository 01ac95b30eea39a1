use Rattle.std.proofs.Common.{◌≡◌, ◌-◌, [], map}
use Rattle.cyc.specs.CitySet.{Members}
use Rattle.certtests.specs.Listed.{to_one}
use Rattle.tapeboss.specs.Messages as defs
use Rattle.tapeboss.proofs.cuts.read_teeth.Given as goal

abbrev pub invariant-loop : goal.invariant-loop
invariant-loop l = record {
  n : l.lines.n ≡ l.fn.lines.n;
  read : defs.teeth_on l.fn.lines.n (map (λ (t : Members). to_one t.cities) l.teeth.items) (l.count - l.counter) l.lines.rest.now ≡ defs.teeth_on l.fn.lines.n [] l.fn.count l.fn.lines.rest.now;
}
