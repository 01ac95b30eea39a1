use Rattle.std.proofs.Common.{◌^◌, [], ◌∷◌, sym, ◌∙◌, arith}
use Rattle.std.proofs.lemmas.Bool.{and_parts, ltb-true, leb-true}
use Rattle.std.specs.Prelude.{nat_lt, nat_le}
use Rattle.certline.proofs.Numbers.{spaced_same}
use Rattle.certline.proofs.shapes.numbered_dual.Goals as goal

pub returns-then-not-is_number-clause-none : goal.returns-then-not-is_number-clause-none
returns-then-not-is_number-clause-none c k y p q e =
    let b = ltb-true k (2 ^ 32) (and_parts (nat_lt 0 k) (nat_lt k (2 ^ 32)) p).1 in
    let d = leb-true y (2 ^ 62) (and_parts (nat_lt 0 y) (nat_le y (2 ^ 62)) q).1 in
    let small = c.in-Some.ensures.small in
    let same = spaced_same (k ∷ y ∷ []) (c.in-Some.k ∷ c.in-Some.y ∷ []) (omega arith, (omega arith, tt)) (small.0, (small.1, tt)) (sym e ∙ c.in-Some.ensures.some) in
    let was = c.is_number.ensures.same in
    let no = c.if-not-is_number.true in
    cc

pub returns-else-is_dual-clause-none : goal.returns-else-is_dual-clause-none
returns-else-is_dual-clause-none c k y p q e =
    let b = ltb-true k (2 ^ 32) (and_parts (nat_lt 0 k) (nat_lt k (2 ^ 32)) p).1 in
    let d = leb-true y (2 ^ 62) (and_parts (nat_lt 0 y) (nat_le y (2 ^ 62)) q).1 in
    let small = c.in-Some.ensures.small in
    let same = spaced_same (k ∷ y ∷ []) (c.in-Some.k ∷ c.in-Some.y ∷ []) (omega arith, (omega arith, tt)) (small.0, (small.1, tt)) (sym e ∙ c.in-Some.ensures.some) in
    let was = c.is_dual.ensures in
    let no = c.if-is_dual.false in
    cc
