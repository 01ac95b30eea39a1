use Rattle.std.proofs.Common.{[], ◌∷◌, codes, refl, sym, ◌∙◌, arith}
use Rattle.std.proofs.lemmas.Bool.{and_parts, leb-true}
use Rattle.std.specs.Prelude.{nat_le, ◌&&◌}
use Rattle.certdef.specs.Items.{leaf_line}
use Rattle.certline.proofs.Numbers.{spaced_same}
use Rattle.certline.proofs.Lines.{numbers_read, no_leaf}
use Rattle.certline.proofs.shapes.leaf.Goals as goal

pub returns-then-are_counts : goal.returns-then-are_counts
returns-then-are_counts c =
    let x = c.in-Some.a in
    let y = c.in-Some.b in
    let z = c.in-Some.c in
    numbers_read c.args.n (leaf_line x y z) (codes "L") c.args.tail.now (x ∷ y ∷ z ∷ []) (omega arith) refl c.in-Some.ensures.some (sym c.are_counts.ensures.same ∙ c.if-are_counts.true) c.requires.short

pub returns-else-are_counts : goal.returns-else-are_counts
returns-else-are_counts c = no_leaf c.args.n c.args.tail.now c.requires.tail (λ x y z b e.
    let n = c.args.n in
    let p = and_parts (nat_le x n) (nat_le y 4096 && nat_le z 4096) b in
    let q = and_parts (nat_le y 4096) (nat_le z 4096) p.1 in
    let first = leb-true x n p.0 in
    let second = leb-true y 4096 q.0 in
    let third = leb-true z 4096 q.1 in
    let small = c.in-Some.ensures.small in
    let same = spaced_same (x ∷ y ∷ z ∷ []) (c.in-Some.a ∷ c.in-Some.b ∷ c.in-Some.c ∷ []) (omega arith, (omega arith, (omega arith, tt))) (small.0, (small.1, (small.2, tt))) (sym e ∙ c.in-Some.ensures.some) in
    let was = c.are_counts.ensures.same in
    let no = c.if-are_counts.false in
    cc)

pub returns-in-None : goal.returns-in-None
returns-in-None c = no_leaf c.args.n c.args.tail.now c.requires.tail (λ x y z b e.
    let n = c.args.n in
    let p = and_parts (nat_le x n) (nat_le y 4096 && nat_le z 4096) b in
    let q = and_parts (nat_le y 4096) (nat_le z 4096) p.1 in
    let first = leb-true x n p.0 in
    let second = leb-true y 4096 q.0 in
    let third = leb-true z 4096 q.1 in
    c.in-None.ensures.none x y z (omega arith) (omega arith) (omega arith) e)
