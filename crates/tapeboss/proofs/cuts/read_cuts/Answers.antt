use Rattle.std.proofs.Common.{[], map, refl, sym, ◌∙◌, subst}
use Rattle.std.specs.List.{AllByRecursion}
use Rattle.tspdef.specs.Cuts.{IsCut}
use Rattle.certtests.specs.Listed.{listed}
use Rattle.tapeboss.specs.Messages as defs
use Rattle.tapeboss.proofs.ReadLemmas.{one_read, none_read, all_and_one}
use Rattle.tapeboss.proofs.CutLemmas.{map_and_one}
use Rattle.tapeboss.proofs.cuts.read_cuts.Goals as goal

pub returns-in_default-clause-value : goal.returns-in_default-clause-value
returns-in_default-clause-value c =
    none_read defs.next_cut listed c.args.lines.now.n c.loop.lines.n c.args.count c.loop.counter (map listed c.loop.cuts.items) (map listed c.loop.cuts.items) c.loop.lines.rest.now c.read_cut.new.lines.rest.now
    c.in_ok-cut.field-0 (defs.cuts_on c.args.lines.now.n [] c.args.count c.args.lines.now.rest.now)
    c.loop-test.true c.loop.invariant.n refl c.in_ok-cut.ensures.value c.in_default.is c.loop.invariant.read

pub loop-preserved : goal.loop-preserved
loop-preserved c = record {
  n = c.in_ok-cut.ensures.same ∙ c.loop.invariant.n;
  read = one_read defs.next_cut listed c.args.lines.now.n c.loop.lines.n c.args.count c.loop.counter (map listed c.loop.cuts.items) (map listed c.loop.cuts.items) (map listed c.push.new.self.items) c.loop.lines.rest.now c.read_cut.new.lines.rest.now
      c.in_ok-cut.field-0 c.in-Some.cut (defs.cuts_on c.args.lines.now.n [] c.args.count c.args.lines.now.rest.now)
      c.loop-test.true c.loop.invariant.n refl c.in_ok-cut.ensures.value c.in-Some.is (map_and_one listed c.loop.cuts.items c.push.new.self.items c.in-Some.cut c.in_ok-push.ensures.items) c.loop.invariant.read;
  cuts = subst (AllByRecursion (IsCut c.args.lines.now.n)) (sym c.in_ok-push.ensures.items)
      (all_and_one (IsCut c.args.lines.now.n) c.loop.cuts.items c.in-Some.cut c.loop.invariant.cuts (subst (λ m. IsCut m c.in-Some.cut) c.loop.invariant.n (rw c.in-Some.is at c.in_ok-cut.ensures.is_cut)));
}
