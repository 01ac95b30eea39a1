use Rattle.std.proofs.Common.{length, ap, arith}
use Rattle.certline.proofs.Numbers.{follows, not_followed}
use Rattle.certline.proofs.Runs.{set_parts}
use Rattle.certline.proofs.lists.set.Goals as goal

pub returns-in_default-clause-none : goal.returns-in_default-clause-none
returns-in_default-clause-none c s h e =
    let p = set_parts c.args.n s (omega arith) h in
    not_followed c.args.tail.now c.in_default.ensures.none (length s) s p.1 e

pub returns-in_default-2-clause-none : goal.returns-in_default-2-clause-none
returns-in_default-2-clause-none c s h e =
    let p = set_parts c.args.n s (omega arith) h in
    let f = follows c.args.tail.now c.in-Some.many c.in-Some.rest.now (length s) s c.in-Some.ensures.some p.1 e in
    let never = rw c.in_default-2.is at c.in_ok-cities.ensures.none in
    never s p.2 f.1

pub returns-then-many-eq0-clause-none : goal.returns-then-many-eq0-clause-none
returns-then-many-eq0-clause-none c s h e =
    let p = set_parts c.args.n s (omega arith) h in
    let f = follows c.args.tail.now c.in-Some.many c.in-Some.rest.now (length s) s c.in-Some.ensures.some p.1 e in
    let none = c.if-many-eq0.true in
    let some = p.0 in
    let same = f.0 in
    omega arith

pub returns-else-len-many-clause-none : goal.returns-else-len-many-clause-none
returns-else-len-many-clause-none c s h e =
    let p = set_parts c.args.n s (omega arith) h in
    let f = follows c.args.tail.now c.in-Some.many c.in-Some.rest.now (length s) s c.in-Some.ensures.some p.1 e in
    let only = rw c.in-Some-2.is at c.in_ok-cities.ensures.only in
    let same = ap length (only s p.2 f.1) in
    let many = f.0 in
    c.if-len-many.false (omega (arith, c.in-Some-2.cities.ok.0))
