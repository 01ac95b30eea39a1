use Rattle.std.proofs.Common.{◌≡◌, ◌∙◌, length, ap, arith}
use Rattle.certdef.specs.Accepted.{from_zero as lowered}
use Rattle.certtests.proofs.Listing.{lowered_each, all_written}
use Rattle.certtests.proofs.sets.from_zero.Goals as goal

pub returns : goal.returns
returns c =
    let xs = c.args.set.items in
    let from = c.deref_mut-city-items.result.now in
    let ys = c.loop-city.city-items in
    let same = c.deref_mut-city-items.ensures.value in
    let as_long = ap length same in
    let long : length ys ≡ length xs = omega arith in
    all_written c.args.set.len xs ys (omega (arith, c.args.set.ok.0)) long
    ∙ (lowered_each from ys (omega arith) (λ k h. c.loop-city.invariant.below k (omega arith)) ∙ ap lowered same)
