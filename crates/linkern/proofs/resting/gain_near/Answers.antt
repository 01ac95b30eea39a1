use Rattle.std.proofs.Common.{◌≡◌, true, sym, subst, arith}
use Rattle.tspdef.specs.Sets.{has}
use Rattle.linkern.specs.Exchanges.{IsPairAtRest}
use Rattle.linkern.proofs.RestLemmas.{has_place}
use Rattle.linkern.proofs.resting.gain_near.Goals as goal

pub returns : goal.returns
returns c = λ z h.
    let list = c.of-list.result.now in
    let w = has_place list z (subst (λ xs. has xs z ≡ true) (sym c.of-list.ensures.value) h) in
    let i = w.inside in
    subst (λ v. IsPairAtRest c.args.instance.now c.args.tour.now c.args.a v) w.is (c.loop-place.invariant w.place (omega arith))
