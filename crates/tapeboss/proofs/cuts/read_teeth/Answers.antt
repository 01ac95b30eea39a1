use Rattle.std.proofs.Common.{[], map, refl, ◌∙◌}
use Rattle.cyc.specs.CitySet.{Members}
use Rattle.certtests.specs.Listed.{to_one}
use Rattle.tapeboss.specs.Messages as defs
use Rattle.tapeboss.proofs.ReadLemmas.{one_read, none_read}
use Rattle.tapeboss.proofs.CutLemmas.{map_and_one}
use Rattle.tapeboss.proofs.cuts.read_teeth.Goals as goal

pub returns-in_default-clause-value : goal.returns-in_default-clause-value
returns-in_default-clause-value c =
    none_read defs.next_tooth (λ (t : Members). to_one t.cities) c.args.lines.now.n c.loop.lines.n c.args.count c.loop.counter (map (λ (t : Members). to_one t.cities) c.loop.teeth.items) (map (λ (t : Members). to_one t.cities) c.loop.teeth.items) c.loop.lines.rest.now c.next_tooth.new.lines.rest.now
    c.in_ok-tooth.field-0 (defs.teeth_on c.args.lines.now.n [] c.args.count c.args.lines.now.rest.now)
    c.loop-test.true c.loop.invariant.n refl c.in_ok-tooth.ensures.value c.in_default.is c.loop.invariant.read

pub loop-preserved : goal.loop-preserved
loop-preserved c = record {
  n = c.in_ok-tooth.ensures.same ∙ c.loop.invariant.n;
  read = one_read defs.next_tooth (λ (t : Members). to_one t.cities) c.args.lines.now.n c.loop.lines.n c.args.count c.loop.counter (map (λ (t : Members). to_one t.cities) c.loop.teeth.items) (map (λ (t : Members). to_one t.cities) c.loop.teeth.items) (map (λ (t : Members). to_one t.cities) c.push.new.self.items) c.loop.lines.rest.now c.next_tooth.new.lines.rest.now
      c.in_ok-tooth.field-0 c.in-Some.tooth (defs.teeth_on c.args.lines.now.n [] c.args.count c.args.lines.now.rest.now)
      c.loop-test.true c.loop.invariant.n refl c.in_ok-tooth.ensures.value c.in-Some.is (map_and_one (λ (t : Members). to_one t.cities) c.loop.teeth.items c.push.new.self.items c.in-Some.tooth c.in_ok-push.ensures.items) c.loop.invariant.read;
}
