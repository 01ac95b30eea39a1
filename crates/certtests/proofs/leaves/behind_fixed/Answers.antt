use Rattle.std.proofs.Common.{◌≡◌, ◌-◌, length, take, drop, sym, ap, ◌∙◌, subst, arith}
use Rattle.std.proofs.lemmas.List.{take_all, length-drop}
use Rattle.tspdef.specs.Paths.{IsPath, branches}
use Rattle.branchx.specs.Cond.{conditions_of}
use Rattle.certtests.proofs.PathLemmas.{behind_fixed_pairs, fixed_more}
use Rattle.certtests.proofs.leaves.behind_fixed.Goals as goal

pub returns-then-not-is_fixed : goal.returns-then-not-is_fixed
returns-then-not-is_fixed c =
    let path = c.args.path.now in
    let xs = c.conditions-conditions.result.now in
    let k = c.loop-place.place in
    let all : take (length xs - k) (drop k xs) ≡ drop k xs = take_all (length xs - k) (drop k xs) (rw (length-drop k xs) (omega arith)) in
    let is_path : IsPath path.n (conditions_of xs) = subst (IsPath path.n) (sym c.conditions-conditions.ensures.value) c.conditions-conditions.ensures.is_path in
    ap conditions_of all
    ∙ (behind_fixed_pairs path.n xs k c.index-conditions-place.result is_path (omega (arith, c.loop-place-test.true)) c.index-conditions-place.is c.loop-place.invariant (sym c.is_fixed.ensures ∙ c.if-not-is_fixed.true)
    ∙ ap branches c.conditions-conditions.ensures.value)

pub loop-place-preserved : goal.loop-place-preserved
loop-place-preserved c =
    fixed_more c.conditions-conditions.result.now c.loop-place.place c.index-conditions-place.result (omega (arith, c.loop-place-test.true)) c.index-conditions-place.is c.loop-place.invariant (sym c.is_fixed.ensures ∙ c.if-not-is_fixed.false)
