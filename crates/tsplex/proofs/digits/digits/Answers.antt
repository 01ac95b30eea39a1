use Rattle.std.proofs.Common.{◌+◌, ◌*◌, arith}
use Rattle.tsplex.proofs.digits.digits.Goals as goal

pub loop-digit-preserved : goal.loop-digit-preserved
loop-digit-preserved c = record {
  keeps = λ v k.
      let before = c.loop-digit.invariant.keeps v k in
      (before.0 * 10 + c.in-Some.digit, c.push-kept.ensures.keeps before.0 before.1, (cc (c.in-Some.ensures.value before.0, before.2)));
  count = omega (arith, c.in-Some.ensures.count, c.loop-digit.invariant.count);
  behind = cc (c.in-Some.ensures.behind, c.loop-digit.invariant.behind);
  room = omega (arith, c.in-Some.ensures.rest);
  zeros = omega arith;
}
