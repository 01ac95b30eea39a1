use Rattle.std.proofs.Common.{[], refl, sym, ◌∙◌, subst}
use Rattle.std.specs.List.{AllByRecursion}
use Rattle.certtests.specs.Places.{IsFromOne}
use Rattle.tapeboss.specs.Messages as defs
use Rattle.tapeboss.proofs.ReadLemmas.{one_read, none_read, all_and_one}
use Rattle.tapeboss.proofs.content.read_cut_duals.Goals as goal

pub returns-in_default-clause-value : goal.returns-in_default-clause-value
returns-in_default-clause-value c =
    none_read (λ n. defs.next_cut_dual n c.args.listed) (λ p. p) c.args.lines.now.n c.loop.lines.n c.args.count c.loop.counter c.loop.duals.items c.deref.result.now c.loop.lines.rest.now c.next_cut_dual.new.lines.rest.now
    c.in_ok-dual.field-0 (defs.cut_duals_on c.args.lines.now.n c.args.listed [] c.args.count c.args.lines.now.rest.now)
    c.loop-test.true c.loop.invariant.n c.deref.ensures.value c.in_ok-dual.ensures.value c.in_default.is c.loop.invariant.read

pub loop-preserved : goal.loop-preserved
loop-preserved c = record {
  n = c.in_ok-dual.ensures.same ∙ c.loop.invariant.n;
  listed = refl;
  read = one_read (λ n. defs.next_cut_dual n c.args.listed) (λ p. p) c.args.lines.now.n c.loop.lines.n c.args.count c.loop.counter c.loop.duals.items c.deref.result.now c.push.new.self.items c.loop.lines.rest.now c.next_cut_dual.new.lines.rest.now
      c.in_ok-dual.field-0 c.in-Some.dual (defs.cut_duals_on c.args.lines.now.n c.args.listed [] c.args.count c.args.lines.now.rest.now)
      c.loop-test.true c.loop.invariant.n c.deref.ensures.value c.in_ok-dual.ensures.value c.in-Some.is c.in_ok-push.ensures.items c.loop.invariant.read;
  numbers = subst (AllByRecursion (λ q. IsFromOne c.args.listed q.0)) (sym c.in_ok-push.ensures.items)
      (all_and_one (λ q. IsFromOne c.args.listed q.0) c.loop.duals.items c.in-Some.dual c.loop.invariant.numbers (rw c.in-Some.is at c.in_ok-dual.ensures.number));
}
