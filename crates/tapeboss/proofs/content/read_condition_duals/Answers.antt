use Rattle.std.proofs.Common.{[], ◌∙◌}
use Rattle.tapeboss.specs.Messages as defs
use Rattle.tapeboss.proofs.ReadLemmas.{one_read, none_read}
use Rattle.tapeboss.proofs.content.read_condition_duals.Goals as goal

pub returns-in_default-clause-value : goal.returns-in_default-clause-value
returns-in_default-clause-value c =
    none_read defs.next_condition_dual (λ p. p) c.args.lines.now.n c.loop.lines.n c.args.count c.loop.counter c.loop.duals.items c.deref.result.now c.loop.lines.rest.now c.next_condition_dual.new.lines.rest.now
    c.in_ok-dual.field-0 (defs.condition_duals_on c.args.lines.now.n [] c.args.count c.args.lines.now.rest.now)
    c.loop-test.true c.loop.invariant.n c.deref.ensures.value c.in_ok-dual.ensures.value c.in_default.is c.loop.invariant.read

pub loop-preserved : goal.loop-preserved
loop-preserved c = record {
  n = c.in_ok-dual.ensures.same ∙ c.loop.invariant.n;
  read = one_read defs.next_condition_dual (λ p. p) c.args.lines.now.n c.loop.lines.n c.args.count c.loop.counter c.loop.duals.items c.deref.result.now c.push.new.self.items c.loop.lines.rest.now c.next_condition_dual.new.lines.rest.now
      c.in_ok-dual.field-0 c.in-Some.dual (defs.condition_duals_on c.args.lines.now.n [] c.args.count c.args.lines.now.rest.now)
      c.loop-test.true c.loop.invariant.n c.deref.ensures.value c.in_ok-dual.ensures.value c.in-Some.is c.in_ok-push.ensures.items c.loop.invariant.read;
}
