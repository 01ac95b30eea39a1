use Rattle.std.proofs.Common.{[], ◌∷◌, codes, refl, sym, ◌∙◌, arith}
use Rattle.std.proofs.lemmas.Bool.{and_parts, ltb-true, leb-true}
use Rattle.std.specs.Prelude.{nat_lt, nat_le, ◌&&◌}
use Rattle.certdef.specs.Items.{pair_line}
use Rattle.certline.proofs.Numbers.{spaced_same}
use Rattle.certline.proofs.Lines.{numbers_read, no_pair}
use Rattle.certline.proofs.shapes.pair.Goals as goal

pub returns-then-is_pair : goal.returns-then-is_pair
returns-then-is_pair c =
    let u = c.in-Some.u in
    let v = c.in-Some.v in
    numbers_read c.args.n (pair_line u v) (codes "F") c.args.tail.now (u ∷ v ∷ []) (omega arith) refl c.in-Some.ensures.some (sym c.is_pair.ensures.same ∙ c.if-is_pair.true) c.requires.short

pub returns-else-is_pair : goal.returns-else-is_pair
returns-else-is_pair c = no_pair c.args.n c.args.tail.now c.requires.tail (λ u v b e.
    let n = c.args.n in
    let p = and_parts (nat_lt 0 u) (nat_lt u v && nat_le v n) b in
    let q = and_parts (nat_lt u v) (nat_le v n) p.1 in
    let below = ltb-true u v q.0 in
    let most = leb-true v n q.1 in
    let small = c.in-Some.ensures.small in
    let same = spaced_same (u ∷ v ∷ []) (c.in-Some.u ∷ c.in-Some.v ∷ []) (omega arith, (omega arith, tt)) (small.0, (small.1, tt)) (sym e ∙ c.in-Some.ensures.some) in
    let was = c.is_pair.ensures.same in
    let no = c.if-is_pair.false in
    cc)

pub returns-in-None : goal.returns-in-None
returns-in-None c = no_pair c.args.n c.args.tail.now c.requires.tail (λ u v b e.
    let n = c.args.n in
    let p = and_parts (nat_lt 0 u) (nat_lt u v && nat_le v n) b in
    let q = and_parts (nat_lt u v) (nat_le v n) p.1 in
    let below = ltb-true u v q.0 in
    let most = leb-true v n q.1 in
    c.in-None.ensures.none u v (omega arith) (omega arith) e)
