use Rattle.std.proofs.Common.{◌^◌, [], ◌∷◌, codes, refl, arith}
use Rattle.std.proofs.lemmas.Bool.{lt-ltb, ltb-true}
use Rattle.certdef.specs.Items.{size_line}
use Rattle.certline.proofs.Lines.{numbers_read, no_size}
use Rattle.certline.proofs.shapes.size.Goals as goal

pub returns-in-Some : goal.returns-in-Some
returns-in-Some c =
    let x = c.in-Some.cities in
    let small = c.in-Some.ensures.small in
    numbers_read c.args.n (size_line x) (codes "N") c.args.tail.now (x ∷ []) (omega arith) refl c.in-Some.ensures.some (lt-ltb x (2 ^ 32) (omega arith)) c.requires.short

pub returns-in-None : goal.returns-in-None
returns-in-None c = no_size c.args.n c.args.tail.now c.requires.tail (λ m b e. c.in-None.ensures.none m (let l = ltb-true m (2 ^ 32) b in omega arith) e)
