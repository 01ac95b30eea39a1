use Rattle.std.proofs.Common.{[], length, codes, refl, sym, ap, ◌∙◌, arith}
use Rattle.std.proofs.lemmas.Bool.{eq-eqb, eqb-true}
use Rattle.certdef.specs.Items.{open_line}
use Rattle.certline.proofs.Lines.{no_open, numbers_read}
use Rattle.certline.proofs.Numbers.{empty}
use Rattle.certline.proofs.shapes.open_leaf.Goals as goal

pub returns-then-is_empty : goal.returns-then-is_empty
returns-then-is_empty c = numbers_read c.args.n open_line (codes "O") c.args.tail.now [] (omega arith) refl (empty c.args.tail.now (eqb-true (length c.args.tail.now) 0 (sym c.is_empty.ensures ∙ c.if-is_empty.true))) refl c.requires.short

pub returns-else-is_empty : goal.returns-else-is_empty
returns-else-is_empty c = no_open c.args.n c.args.tail.now c.requires.tail (λ e.
    let some = eq-eqb (length c.args.tail.now) 0 (ap length e) in
    let same = c.is_empty.ensures in
    let no = c.if-is_empty.false in
    cc)
