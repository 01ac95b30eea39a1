use Rattle.std.proofs.Common.{arith, ◌-◌}
use Rattle.pricer.proofs.GroupLemmas.{grouped_next, no_groups}
use Rattle.pricer.proofs.groups.+mark_groups.Goals as goal

pub returns-then-count-gt0 : goal.returns-then-count-gt0
returns-then-count-gt0 t c =
    grouped_next c.args.n c.args.size (c.args.count - 1) c.args.count c.mark_cuts.new.marks c.mark_groups.new.marks c.args.cuts.now _ _ (omega (arith, c.if-count-gt0.true))
    (let kept = c.mark_cuts.auto.marks in let long = c.split_at_mut-own.ensures.front_len in omega arith)
    c.part.ensures.first c.part.ensures.others (λ v h. (c.mark_cuts.ensures v h).1) c.mark_groups.ensures

pub returns-else-count-gt0 : goal.returns-else-count-gt0
returns-else-count-gt0 t c = no_groups c.args.n c.args.size c.args.count c.args.marks.now c.args.cuts.now (omega (arith, c.if-count-gt0.false))
