use Rattle.std.proofs.Common.{◌∙◌, arith}
use Rattle.std.specs.Prelude.{pos}
use Rattle.std.proofs.lemmas.Int.{ints}
use Rattle.std.proofs.lemmas.List.{length-set, get_or-set_other}
use Rattle.onetree.specs.OneTrees.{reduced}
use Rattle.onetree.proofs.Growing.{done_step}
use Rattle.onetree.proofs.frontier.relax.Goals as goal

pub loop-v-preserved : goal.loop-v-preserved
loop-v-preserved c =
    let l = c.loop-v in
    let t = l.invariant in
    let a = t.near in
    let b = t.least in
    let less = c.loop-v-test.true in
    let same = c.n-v-end.ensures.same in record {
      near = length-set _ _ _ ∙ t.near;
      least = length-set _ _ _ ∙ t.least;
      done = done_step c.args.instance.now.n (reduced c.args.instance.now c.args.duals.now) c.args.city l.v c.args.near.now l.near c.args.least.now l.least c.closer.new.near c.closer.new.least _
          (omega arith) (omega arith) c.requires.some c.requires.below (omega arith) (let e = c.cost-new.ensures.value in omega (arith, ints)) c.closer.ensures t.done (t.ahead_near l.v (omega arith)) (t.ahead_least l.v (omega arith));
      ahead_near = λ k h. get_or-set_other l.near l.v k c.closer.new.near 0 (λ e. omega arith) ∙ t.ahead_near k (omega arith);
      ahead_least = λ k h. get_or-set_other l.least l.v k c.closer.new.least (pos 0) (λ e. omega arith) ∙ t.ahead_least k (omega arith);
    }

pub returns-clause-nearest : goal.returns-clause-nearest
returns-clause-nearest c = λ s a k k0 kn. c.loop-v.invariant.done s a k k0 (omega arith) kn
