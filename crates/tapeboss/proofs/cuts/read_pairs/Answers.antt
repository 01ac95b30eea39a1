use Rattle.std.proofs.Common.{[], map, refl, ◌∙◌}
use Rattle.certtests.specs.Listed.{pair_to_one}
use Rattle.tapeboss.specs.Messages as defs
use Rattle.tapeboss.proofs.ReadLemmas.{one_read, none_read}
use Rattle.tapeboss.proofs.CutLemmas.{map_and_one}
use Rattle.tapeboss.proofs.cuts.read_pairs.Goals as goal

pub returns-in_default-clause-value : goal.returns-in_default-clause-value
returns-in_default-clause-value c =
    none_read defs.next_pair pair_to_one c.args.lines.now.n c.loop.lines.n c.args.count c.loop.counter (map pair_to_one c.loop.pairs.items) (map pair_to_one c.loop.pairs.items) c.loop.lines.rest.now c.next_pair.new.lines.rest.now
    c.in_ok-pair.field-0 (defs.pairs_on c.args.lines.now.n [] c.args.count c.args.lines.now.rest.now)
    c.loop-test.true c.loop.invariant.n refl c.in_ok-pair.ensures.value c.in_default.is c.loop.invariant.read

pub loop-preserved : goal.loop-preserved
loop-preserved c = record {
  n = c.in_ok-pair.ensures.same ∙ c.loop.invariant.n;
  read = one_read defs.next_pair pair_to_one c.args.lines.now.n c.loop.lines.n c.args.count c.loop.counter (map pair_to_one c.loop.pairs.items) (map pair_to_one c.loop.pairs.items) (map pair_to_one c.push.new.self.items) c.loop.lines.rest.now c.next_pair.new.lines.rest.now
      c.in_ok-pair.field-0 c.in-Some.pair (defs.pairs_on c.args.lines.now.n [] c.args.count c.args.lines.now.rest.now)
      c.loop-test.true c.loop.invariant.n refl c.in_ok-pair.ensures.value c.in-Some.is (map_and_one pair_to_one c.loop.pairs.items c.push.new.self.items c.in-Some.pair c.in_ok-push.ensures.items) c.loop.invariant.read;
}
