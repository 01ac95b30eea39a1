use Rattle.std.proofs.Common.{[], length, ap}
use Rattle.std.proofs.lemmas.Bool.{eq-eqb}
use Rattle.certline.proofs.Numbers.{begins_once}
use Rattle.certline.proofs.shapes.size_of_dual.Goals as goal

pub returns-then-not-is_empty-clause-none : goal.returns-then-not-is_empty-clause-none
returns-then-not-is_empty-clause-none c y d h =
    let f = begins_once c.args.word.now c.in-Some.y y c.in-Some.rest.now [] c.in-Some.ensures.some h in
    let same = eq-eqb (length c.in-Some.rest.now) 0 (ap length f.1) in
    let was = c.is_empty.ensures in
    let no = c.if-not-is_empty.true in
    cc

pub returns-else-is_dual-clause-none : goal.returns-else-is_dual-clause-none
returns-else-is_dual-clause-none c y d h =
    let f = begins_once c.args.word.now c.in-Some.y y c.in-Some.rest.now [] c.in-Some.ensures.some h in
    let same = f.0 in
    let was = c.is_dual.ensures in
    let no = c.if-is_dual.false in
    cc
