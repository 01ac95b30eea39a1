use Rattle.certline.specs.Spelling.{digits}
use Rattle.certline.proofs.Numbers.{none_left}
use Rattle.certline.proofs.digits.digits_of.Goals as goal
use Rattle.certline.proofs.digits.digits_of.Goals.{else-loop-value-test, then-loop-value-test+in_default}
use Rattle.std.proofs.Common.{arith}
use Rattle.std.specs.Str.Parse.{digits_value}

pub returns-clause-all : goal.returns-clause-all
returns-clause-all c small = elim c.loop-value-test.branch [
  | else-loop-value-test w ↦ none_left c.loop-value.value (digits c.loop-value.rest.now) (digits_value 10 (digits c.args.bytes.now)) c.loop-value.invariant.value (let great = w.loop-value-test.false in omega arith) small
  | then-loop-value-test+in_default w ↦ w.in_default.ensures.none.0
]
