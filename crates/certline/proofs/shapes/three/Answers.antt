use Rattle.std.proofs.Common.{[], ◌∷◌}
use Rattle.certline.proofs.Numbers.{follows}
use Rattle.certline.proofs.shapes.three.Goals as goal

pub returns-in-None-clause-none : goal.returns-in-None-clause-none
returns-in-None-clause-none c x y z p q r e =
    let f = follows c.args.tail.now c.in-Some.a c.in-Some.rest.now x (y ∷ z ∷ []) c.in-Some.ensures.some p e in
    c.in-None.ensures.none y z q r f.1
