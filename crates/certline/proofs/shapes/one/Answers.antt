use Rattle.std.proofs.Common.{[], length, ap, arith}
use Rattle.std.proofs.lemmas.Bool.{eq-eqb}
use Rattle.certline.proofs.Numbers.{follows}
use Rattle.certline.proofs.shapes.one.Goals as goal

pub returns-then-not-is_empty-clause-none : goal.returns-then-not-is_empty-clause-none
returns-then-not-is_empty-clause-none c x small e =
    let f = follows c.args.tail.now c.in-Some.x c.in-Some.rest.now x [] c.in-Some.ensures.some (let m = c.requires in omega arith) e in
    let same = eq-eqb (length c.in-Some.rest.now) 0 (ap length f.1) in
    let was = c.is_empty.ensures in
    let no = c.if-not-is_empty.true in
    cc

pub returns-else-x-most-clause-none : goal.returns-else-x-most-clause-none
returns-else-x-most-clause-none c x small e =
    let f = follows c.args.tail.now c.in-Some.x c.in-Some.rest.now x [] c.in-Some.ensures.some (let m = c.requires in omega arith) e in
    let same = f.0 in
    let great = c.if-x-most.false in
    omega arith
