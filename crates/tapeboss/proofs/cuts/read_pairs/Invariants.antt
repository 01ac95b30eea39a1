use Rattle.std.proofs.Common.{◌≡◌, ◌-◌, [], map}
use Rattle.certtests.specs.Listed.{pair_to_one}
use Rattle.tapeboss.specs.Messages as defs
use Rattle.tapeboss.proofs.cuts.read_pairs.Given as goal

abbrev pub invariant-loop : goal.invariant-loop
invariant-loop l = record {
  n : l.lines.n ≡ l.fn.lines.n;
  read : defs.pairs_on l.fn.lines.n (map pair_to_one l.pairs.items) (l.count - l.counter) l.lines.rest.now ≡ defs.pairs_on l.fn.lines.n [] l.fn.count l.fn.lines.rest.now;
}
