use Rattle.std.proofs.Common.{arith}
use Rattle.tsplex.proofs.KeptLemmas.{push_zero, push_first, push_far, push_near}
use Rattle.tsplex.proofs.digits.Kept.push.Goals as goal

pub returns-then-digit-eq0-clause-keeps : goal.returns-then-digit-eq0-clause-keeps
returns-then-digit-eq0-clause-keeps c = λ v k. push_zero _ _ v _ k (omega arith)

pub returns-then-self-eq0-clause-keeps : goal.returns-then-self-eq0-clause-keeps
returns-then-self-eq0-clause-keeps c = λ v k. push_first _ _ v _ k (omega arith) (omega arith) (omega arith)

pub returns-then-self-ge9-clause-keeps : goal.returns-then-self-ge9-clause-keeps
returns-then-self-ge9-clause-keeps c = λ v k. push_far _ _ v _ k (omega arith) (omega arith) (omega arith) (omega arith)

pub returns-clause-keeps : goal.returns-clause-keeps
returns-clause-keeps c = λ v k. push_near _ _ v _ _ k (omega arith) (omega arith) c.appended.ensures
