use Rattle.std.proofs.Common.{◌∷◌, length, codes, refl, arith}
use Rattle.certdef.specs.Items.{tooth_line}
use Rattle.certline.proofs.Lines.{numbers_read, no_tooth}
use Rattle.certline.proofs.lists.tooth.Goals as goal

pub returns-in-Some : goal.returns-in-Some
returns-in-Some c =
    let s = c.in-Some.set.items in
    let said = rw c.in-Some.is at c.in_ok-set.ensures.some in
    let is = rw c.in-Some.is at c.in_ok-set.ensures.set in
    numbers_read c.args.n (tooth_line s) (codes "T") c.args.tail.now (length s ∷ s) (omega arith) refl said is c.requires.short

pub returns-in-None : goal.returns-in-None
returns-in-None c = no_tooth c.args.n c.args.tail.now c.requires.tail (rw c.in-None.is at c.in_ok-set.ensures.none)
