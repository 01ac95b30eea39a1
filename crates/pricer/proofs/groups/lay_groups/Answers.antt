use Rattle.std.proofs.Common.{◌-◌, ◌^◌, arith, length, Some}
use Rattle.pricer.specs.Weights.{weight}
use Rattle.pricer.proofs.GroupLemmas.{each_of_others, group_light, size_next, laid_next, first_marks, other_marks, room_others}
use Rattle.pricer.proofs.groups.lay_groups.Goals as goal

pub lay_group-requires-clause-light : goal.lay_group-requires-clause-light
lay_group-requires-clause-light c =
    let less = c.loop-left.invariant.less in
    let light = c.requires.light in
    (group_light (2 ^ 46) c.args.size c.loop-left.rest.now _ _ c.part.ensures.first c.part.ensures.others (omega arith)).0

pub lay_group-requires-clause-marks : goal.lay_group-requires-clause-marks
lay_group-requires-clause-marks c =
    first_marks c.args.n c.args.size (c.loop-left.left - 1) c.loop-left.left c.loop-left.behind.now _ c.loop-left.rest.now _ (omega (arith, c.loop-left-test.true))
    c.split_at.ensures.front c.part.ensures.first c.loop-left.invariant.groups

pub loop-left-preserved : goal.loop-left-preserved
loop-left-preserved c =
    let rest = c.loop-left.rest.now in
    record {
      so_far = λ v. laid_next _ _ _ c.args.size rest _ _ (Some c.args.v) v c.part.ensures.first c.part.ensures.others (c.loop-left.invariant.so_far v) (c.lay_group.ensures v);
      cuts = rw c.part.ensures.others (each_of_others _ c.args.size rest c.loop-left.invariant.cuts);
      less = (group_light (weight c.args.cuts.now) c.args.size rest _ _ c.part.ensures.first c.part.ensures.others c.loop-left.invariant.less).1;
      size = λ v. size_next (weight c.args.cuts.now) c.args.size _ _ rest _ _ (Some c.args.v) v c.part.ensures.first c.part.ensures.others c.loop-left.invariant.less
          (c.loop-left.invariant.size v) (c.lay_group.ensures v);
      room = (let long = c.split_at.ensures.back_len in
          room_others c.args.n c.loop-left.left (c.loop-left.left - 1) (length c.loop-left.behind.now) _ (omega (arith, c.loop-left-test.true)) c.loop-left.invariant.room (omega arith));
      groups = other_marks c.args.n c.args.size (c.loop-left.left - 1) c.loop-left.left c.loop-left.behind.now _ rest _ (omega (arith, c.loop-left-test.true))
          c.split_at.ensures.back c.part.ensures.others c.loop-left.invariant.groups;
    }
