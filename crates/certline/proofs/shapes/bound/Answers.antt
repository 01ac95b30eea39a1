use Rattle.std.proofs.Common.{◌^◌, [], ◌∷◌, codes, refl, arith}
use Rattle.std.proofs.lemmas.Bool.{le-leb, leb-true}
use Rattle.certdef.specs.Items.{bound_line}
use Rattle.certline.proofs.Lines.{numbers_read, no_bound}
use Rattle.certline.proofs.shapes.bound.Goals as goal

pub returns-in-Some : goal.returns-in-Some
returns-in-Some c =
    let x = c.in-Some.bound in
    let small = c.in-Some.ensures.small in
    numbers_read c.args.n (bound_line x) (codes "BOUND") c.args.tail.now (x ∷ []) (omega arith) refl c.in-Some.ensures.some (le-leb x (2 ^ 42) (omega arith)) c.requires.short

pub returns-in-None : goal.returns-in-None
returns-in-None c = no_bound c.args.n c.args.tail.now c.requires.tail (λ m b e. c.in-None.ensures.none m (leb-true m (2 ^ 42) b) e)
