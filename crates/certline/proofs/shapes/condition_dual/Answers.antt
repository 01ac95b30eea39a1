use Rattle.std.proofs.Common.{◌^◌, [], ◌∷◌, codes, refl, arith}
use Rattle.std.proofs.lemmas.Bool.{and_parts, and_from}
use Rattle.std.specs.Prelude.{nat_lt, ◌&&◌}
use Rattle.certdef.specs.Items.{condition_line, is_dual}
use Rattle.certline.proofs.Lines.{numbers_read, no_condition_dual}
use Rattle.certline.proofs.shapes.condition_dual.Goals as goal

pub returns-in-Some : goal.returns-in-Some
returns-in-Some c =
    let k = c.in-Some.depth in
    let y = c.in-Some.dual in
    numbers_read c.args.n (condition_line k y) (codes "Z") c.args.tail.now (k ∷ y ∷ []) (omega arith) refl c.in-Some.ensures.some
    (and_from (nat_lt 0 k && nat_lt k (2 ^ 32)) (is_dual y) c.in-Some.ensures.number c.in-Some.ensures.dual) c.requires.short

pub returns-in-None : goal.returns-in-None
returns-in-None c = no_condition_dual c.args.n c.args.tail.now c.requires.tail (λ k y b e.
    let p = and_parts (nat_lt 0 k && nat_lt k (2 ^ 32)) (is_dual y) b in
    c.in-None.ensures.none k y p.0 p.1 e)
