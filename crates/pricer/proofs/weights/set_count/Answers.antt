use Rattle.std.proofs.Common.{ℕ, length, ap, arith}
use Rattle.cutform.proofs.PartLemmas.{wide_few, pairs_few}
use Rattle.pricer.proofs.WeightLemmas.{sets_counted, kept_counted}
use Rattle.pricer.proofs.weights.set_count.Goals as goal

pub overflow_cast-result : goal.overflow_cast-result
overflow_cast-result c =
    let kept = kept_counted c.args.cut.now c.sets.result.now c.sets.ensures in
    let few = wide_few c.args.n c.args.cut.now c.requires.few c.requires.cut in
    omega arith

pub overflow_add-result : goal.overflow_add-result
overflow_add-result c =
    let kept = kept_counted c.args.cut.now c.sets.result.now c.sets.ensures in
    let few = wide_few c.args.n c.args.cut.now c.requires.few c.requires.cut in
    omega arith

pub overflow_add-result-2 : goal.overflow_add-result-2
overflow_add-result-2 c =
    let kept = kept_counted c.args.cut.now c.sets.result.now c.sets.ensures in
    let few = wide_few c.args.n c.args.cut.now c.requires.few c.requires.cut in
    let pairs = ap (length {A = ℕ × ℕ}) c.pairs.ensures in
    let fewer = pairs_few c.args.n c.args.cut.now c.requires.cut in
    omega arith

pub returns-clause-value : goal.returns-clause-value
returns-clause-value c =
    let all = sets_counted c.args.cut.now in
    let kept = kept_counted c.args.cut.now c.sets.result.now c.sets.ensures in
    let pairs = ap (length {A = ℕ × ℕ}) c.pairs.ensures in
    let few = wide_few c.args.n c.args.cut.now c.requires.few c.requires.cut in
    let fewer = pairs_few c.args.n c.args.cut.now c.requires.cut in
    omega arith

pub returns-clause-size : goal.returns-clause-size
returns-clause-size c =
    let kept = kept_counted c.args.cut.now c.sets.result.now c.sets.ensures in
    let pairs = ap (length {A = ℕ × ℕ}) c.pairs.ensures in
    let few = wide_few c.args.n c.args.cut.now c.requires.few c.requires.cut in
    let fewer = pairs_few c.args.n c.args.cut.now c.requires.cut in
    omega arith
