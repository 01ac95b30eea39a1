use Rattle.std.proofs.Common.{◌≡◌, ◌∙◌, false, pos, sym, arith}
use Rattle.std.specs.Prelude.{int_lt}
use Rattle.std.proofs.lemmas.Int.{ints}
use Rattle.pricer.proofs.RoundLemmas.{positive_push, positive_push_none}
use Rattle.pricer.proofs.rounding.round_positive.Goals as goal

-- one that is kept
pub loop-item-preserved-in-Continue-branch-2 : goal.loop-item-preserved-in-Continue-branch-2
loop-item-preserved-in-Continue-branch-2 g c =
    let more = positive_push c.loop-item.yielded (c.in-Some.item, c.in-Some.dual) in
    grind (arith, more)

-- one that is left out
pub loop-item-preserved : goal.loop-item-preserved
loop-item-preserved g c =
    let out : int_lt (pos 0) c.in-Some.dual ≡ false = grind (arith, ints, c.if-is_positive.false) in
    c.loop-item.invariant ∙ sym (positive_push_none c.loop-item.yielded c.in-Some.item c.in-Some.dual out)
