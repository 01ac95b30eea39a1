use Rattle.std.proofs.Common.{◌≡◌, ◌^◌, ◌*ℤ◌, ◌-ℤ◌, ℤ, pos, List, length, map, take, get_or, to_z, of_z, w64, ap, sym, subst, ◌∙◌, ◌<◌, arith}
use Rattle.std.specs.List.{All}
use Rattle.std.proofs.lemmas.Int.{ints}
use Rattle.std.proofs.lemmas.List.{length-map, length-take}
use Rattle.std.proofs.lemmas.List.Elements.{All-take}
use Rattle.lpcheck.specs.Sizes.{IsWithin}
use Rattle.lpcheck.specs.Rows.{signed, coef, reduced, IsSmall}
use Rattle.lpcheck.specs.Cells.{cells_from, AreWithin, lowered}
use Rattle.lpcheck.specs.declared.row.Row.{Row}
use Rattle.lpcheck.specs.declared.cells.Cell.{Cell}
use Rattle.lpcheck.proofs.Bounds.{costs_within}
use Rattle.lpcheck.proofs.CellLemmas.{cells_at, cells_within, cells_few, lowered_is}
use Rattle.lpcheck.proofs.Sums.{reduced_more}
use Rattle.lpcheck.proofs.reduced.lower_by_rows.Goals as goal
use Rattle.lpcheck.proofs.reduced.lower_by_rows.Goals.{After-lower-arg-1}

cells_are : (c : After-lower-arg-1) → c.list.result.now ≡ cells_from 0 c.index-rows-at.result c.args.cols.now
cells_are c =
    c.list.ensures ∙ cells_at c.args.rows.now c.args.cols.now c.args.table.now c.loop-at.at c.index-rows-at.result c.index-table-at.result c.requires.table c.loop-at-test.true c.index-rows-at.is c.index-table-at.is

pub lower-requires-clause-within : goal.lower-requires-clause-within
lower-requires-clause-within c =
    let all = ap (λ (l : List ℤ). length l) c.loop-at.invariant ∙ length-map c.args.cols.now _ in
    subst (AreWithin (length c.loop-at.rs)) (sym (cells_are c)) (cells_within 0 (length c.loop-at.rs) c.index-rows-at.result c.args.cols.now (omega (arith, all)))

pub lower-requires-clause-few : goal.lower-requires-clause-few
lower-requires-clause-few c =
    let same = ap (λ (l : List Cell). length l) (cells_are c) in
    let few = cells_few 0 c.index-rows-at.result c.args.cols.now in
    omega (arith, same, few, c.requires.few_cols)

pub lower-requires-clause-size : goal.lower-requires-clause-size
lower-requires-clause-size c =
    let i = c.loop-at.at in
    subst (All (IsWithin (2 ^ 100))) (sym c.loop-at.invariant)
    (costs_within (take i c.args.rows.now) (take i c.args.ys.now) c.args.cols.now (All-take IsSmall i c.args.rows.now c.requires.small) (All-take (IsWithin (2 ^ 62)) i c.args.ys.now c.requires.sizes) (let e = length-take i c.args.rows.now in let m = c.requires.few in omega (arith, e, m)) c.requires.cheap)

pub loop-at-preserved : goal.loop-at-preserved
loop-at-preserved c =
    let i = c.loop-at.at in
    let rows = c.args.rows.now in
    let cols = c.args.cols.now in
    let ys = c.args.ys.now in
    let r = c.index-rows-at.result in
    let d : ℤ = to_z w64 (of_z w64 c.signed.result) in
    let in_ys : i < length ys = omega (arith, c.loop-at-test.true, c.requires.size) in
    let size = c.requires.sizes i (pos 0) in_ys in
    let read : to_z w64 (of_z w64 (get_or ys i (pos 0))) ≡ get_or ys i (pos 0) = omega (arith, ints, size.low, size.high) in
    let back : d ≡ c.signed.result = omega (arith, ints) in
    let is_d : d ≡ signed r.sense (get_or ys i (pos 0)) = back ∙ c.signed.ensures.value ∙ ap (λ (q : Row). signed q.sense (to_z w64 (of_z w64 (get_or ys i (pos 0))))) (sym c.index-rows-at.is) ∙ ap (signed r.sense) read in
    c.lower.ensures ∙ ap (lowered d c.list.result.now) c.loop-at.invariant ∙ ap (λ (l : List Cell). lowered d l (map (reduced (take i rows) (take i ys)) cols)) (cells_are (goal.at.loop-at-preserved c).After-lower-arg-1)
    ∙ lowered_is cols r d (reduced (take i rows) (take i ys))
    ∙ ap (λ (e : ℤ). map (λ c. reduced (take i rows) (take i ys) c -ℤ e *ℤ pos (coef r c.u c.v)) cols) is_d
    ∙ sym (reduced_more rows ys cols i r (pos 0) c.requires.size c.loop-at-test.true c.index-rows-at.is)
