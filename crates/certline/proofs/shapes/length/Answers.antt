use Rattle.std.proofs.Common.{◌^◌, [], ◌∷◌, codes, refl, arith}
use Rattle.std.proofs.lemmas.Bool.{le-leb, leb-true}
use Rattle.certdef.specs.Items.{length_line}
use Rattle.certline.proofs.Lines.{numbers_read, no_length}
use Rattle.certline.proofs.shapes.length.Goals as goal

pub returns-in-Some : goal.returns-in-Some
returns-in-Some c =
    let x = c.in-Some.long in
    let small = c.in-Some.ensures.small in
    numbers_read c.args.n (length_line x) (codes "LENGTH") c.args.tail.now (x ∷ []) (omega arith) refl c.in-Some.ensures.some (le-leb x (2 ^ 42) (omega arith)) c.requires.short

pub returns-in-None : goal.returns-in-None
returns-in-None c = no_length c.args.n c.args.tail.now c.requires.tail (λ m b e. c.in-None.ensures.none m (leb-true m (2 ^ 42) b) e)
