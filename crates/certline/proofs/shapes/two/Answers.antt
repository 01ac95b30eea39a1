use Rattle.std.proofs.Common.{[], ◌∷◌, length, ap}
use Rattle.std.proofs.lemmas.Bool.{eq-eqb}
use Rattle.certline.proofs.Numbers.{follows, not_followed}
use Rattle.certline.proofs.shapes.two.Goals as goal

pub returns-in_default-next-clause-none : goal.returns-in_default-next-clause-none
returns-in_default-next-clause-none c a b p q e =
    let f = follows c.args.tail.now c.in-Some.a c.in-Some.behind.now a (b ∷ []) c.in-Some.ensures.some p e in
    not_followed c.in-Some.behind.now c.in_default-next.ensures.none b [] q f.1

pub returns-else-is_empty-clause-none : goal.returns-else-is_empty-clause-none
returns-else-is_empty-clause-none c a b p q e =
    let f = follows c.args.tail.now c.in-Some.a c.in-Some.behind.now a (b ∷ []) c.in-Some.ensures.some p e in
    let g = follows c.in-Some.behind.now c.in-Some-next.b c.in-Some-next.rest.now b [] c.in-Some-next.ensures.some q f.1 in
    let same = eq-eqb (length c.in-Some-next.rest.now) 0 (ap length g.1) in
    let was = c.is_empty.ensures in
    let no = c.if-is_empty.false in
    cc
