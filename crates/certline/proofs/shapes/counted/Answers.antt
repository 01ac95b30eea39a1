use Rattle.std.proofs.Common.{◌≡◌, ◌∷◌, [], sym, ◌∙◌, arith}
use Rattle.certline.proofs.Numbers.{spaced_same}
use Rattle.certline.proofs.shapes.counted.Goals as goal

pub returns-else-x-gt0-clause-none : goal.returns-else-x-gt0-clause-none
returns-else-x-gt0-clause-none c x some most e =
    let m = c.requires in
    let small = c.in-Some.ensures.small in
    let same = spaced_same (x ∷ []) (c.in-Some.x ∷ []) (omega arith, tt) (omega arith, tt) (sym e ∙ c.in-Some.ensures.some) in
    let none = c.if-x-gt0.false in
    let first : x ≡ c.in-Some.x = cc in
    omega arith
