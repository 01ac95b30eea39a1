use Rattle.std.proofs.Common.{ℤ, ◌≡◌, arith, inr, ap, to_z, of_z, w64}
use Rattle.std.proofs.lemmas.Int.{ints}
use Rattle.lpcheck.specs.Steps.{step_gain}
use Rattle.lpcheck.proofs.BestSteps.{seen_more}
use Rattle.lpcheck.proofs.step.better.Goals as goal

pub returns-then-gain-best-clause-kept : goal.returns-then-gain-best-clause-kept
returns-then-gain-best-clause-kept c =
    let p = c.args.place.now in
    let next : ℤ = to_z w64 (of_z w64 c.moved-next.result) in
    let same : next ≡ c.moved-next.result = omega (arith, ints) in
    let own : to_z w64 (of_z w64 p.y) ≡ p.y = omega (arith, ints) in
    inr (record {
      dual = c.is_dual.ensures.0 c.if-not-is_dual.false;
      gains = omega (arith, ints, c.trial-gain.ensures, ap (λ (y : ℤ). step_gain p.sense p.rhs c.args.pieces.now y next) own);
      above = omega (arith, ints);
      below = omega (arith, ints);
    })

pub returns-then-gain-best-clause-seen : goal.returns-then-gain-best-clause-seen
returns-then-gain-best-clause-seen c =
    let p = c.args.place.now in
    seen_more p.sense p.rhs c.args.pieces.now p.y c.args.power c.args.up c.moved-next.result (to_z w64 (of_z w64 p.y)) (to_z w64 (of_z w64 c.moved-next.result)) c.trial-gain.result _
    (omega (arith, ints)) (omega (arith, ints)) c.moved-next.ensures.is c.trial-gain.ensures (omega (arith, ints))

pub returns-clause-seen : goal.returns-clause-seen
returns-clause-seen c =
    let p = c.args.place.now in
    seen_more p.sense p.rhs c.args.pieces.now p.y c.args.power c.args.up c.moved-next.result (to_z w64 (of_z w64 p.y)) (to_z w64 (of_z w64 c.moved-next.result)) c.trial-gain.result _
    (omega (arith, ints)) (omega (arith, ints)) c.moved-next.ensures.is c.trial-gain.ensures (omega (arith, ints))
