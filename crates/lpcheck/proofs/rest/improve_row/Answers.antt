use Rattle.std.proofs.Common.{◌≡◌, ℕ, ◌≤◌, ◌≤ℤ◌, ◌<ℤ◌, ◌-ℤ◌, ◌^◌, ℤ, pos, List, length, get_or, to_z, of_z, w64, ap, sym, subst, ◌∙◌, arith}
use Rattle.std.specs.List.{All}
use Rattle.std.proofs.lemmas.Int.{ints}
use Rattle.std.proofs.lemmas.List.{length-map}
use Rattle.lpcheck.specs.Sizes.{IsWithin}
use Rattle.lpcheck.specs.Rows.{signed}
use Rattle.lpcheck.specs.Rests.{IsDual}
use Rattle.lpcheck.specs.Cells.{cells_from, AreWithin}
use Rattle.lpcheck.specs.Steps.{pieces_gain, step_gain}
use Rattle.lpcheck.specs.declared.cells.Cell.{Cell}
use Rattle.lpcheck.specs.declared.piece.Piece.{Piece}
use Rattle.lpcheck.proofs.Bounds.{duals_within, costs_within}
use Rattle.lpcheck.proofs.CellLemmas.{cells_at, cells_within, cells_few}
use Rattle.lpcheck.proofs.Sweeps.{tells_row, costs_step, lower_step, row_rests, duals_step}
use Rattle.lpcheck.proofs.rest.improve_row.Goals as goal
use Rattle.lpcheck.proofs.rest.improve_row.Goals.{After-list-cells}

cells_are : (c : After-list-cells) → c.list-cells.result.now ≡ cells_from 0 c.index-rows-at.result c.args.cols.now
cells_are c =
    c.list-cells.ensures ∙ cells_at c.args.rows.now c.args.cols.now c.args.table.now c.args.at c.index-rows-at.result c.index-table-at.result c.requires.table c.requires.place c.index-rows-at.is c.index-table-at.is

few_cells : (c : After-list-cells) → length c.list-cells.result.now ≤ 4194304
few_cells c =
    let same = ap (λ (l : List Cell). length l) (cells_are c) in
    let few = cells_few 0 c.index-rows-at.result c.args.cols.now in
    omega (arith, same, few, c.requires.few_cols)

sizes : (c : After-list-cells) → All (IsWithin (2 ^ 100)) c.args.rs.now
sizes c =
    subst (All (IsWithin (2 ^ 100))) (sym c.requires.costs)
    (costs_within c.args.rows.now c.args.ys.now c.args.cols.now c.requires.small (duals_within c.args.rows.now c.args.ys.now c.requires.duals) c.requires.few c.requires.cheap)

within : (c : After-list-cells) (n : ℕ) → length c.args.cols.now ≤ n → AreWithin n c.list-cells.result.now
within c n h = subst (AreWithin n) (sym (cells_are c)) (cells_within 0 n c.index-rows-at.result c.args.cols.now (omega (arith, h)))

pub pieces_of-requires-clause-within : goal.pieces_of-requires-clause-within
pieces_of-requires-clause-within c = within (goal.at.pieces_of-requires-clause-within c).After-list-cells (length c.args.cols.now) (omega arith)

pub pieces_of-requires-clause-sizes : goal.pieces_of-requires-clause-sizes
pieces_of-requires-clause-sizes c = sizes (goal.at.pieces_of-requires-clause-sizes c).After-list-cells

pub best_step-best-requires : goal.best_step-best-requires
best_step-best-requires c =
    let few = few_cells (goal.at.best_step-best-requires c).After-list-cells in
    let same = ap (λ (l : List Piece). length l) c.deref.ensures.value in
    record { few = omega (arith, few, same, c.in_ok-pieces.ensures.few) }

pub returns-then-best-lt1024-clause-rests : goal.returns-then-best-lt1024-clause-rests
returns-then-best-lt1024-clause-rests c = λ same none.
    let y = get_or c.args.ys.now c.args.at (pos 0) in
    let here = (goal.at.returns-then-best-lt1024-clause-rests c).After-list-cells in
    let size = duals_within c.args.rows.now c.args.ys.now c.requires.duals c.args.at (pos 0) (omega (arith, c.requires.place, c.requires.duals.all)) in
    let small : c.best_step-best.result.gain <ℤ pos 1024 = grind (arith, ints, c.if-best-lt1024.true) in
    row_rests c.args.rows.now c.args.cols.now c.args.ys.now c.args.at c.index-rows-at.result c.deref.result.now (to_z w64 (of_z w64 y)) c.best_step-best.result.gain
    c.requires.place c.requires.duals.all c.index-rows-at.is (omega (arith, ints, size.low, size.high))
    (tells_row c.args.rows.now c.args.cols.now c.args.ys.now c.args.rs.now c.index-rows-at.result c.list-cells.result.now c.deref.result.now c.requires.costs (cells_are here)
    (λ d. ap (λ (ps : List Piece). pieces_gain ps d) c.deref.ensures.value ∙ c.in_ok-pieces.ensures.gains d))
    c.best_step-best.ensures.none small none

pub lower-requires-clause-within : goal.lower-requires-clause-within
lower-requires-clause-within c =
    let all = ap (λ (l : List ℤ). length l) c.requires.costs ∙ length-map c.args.cols.now _ in
    within (goal.at.lower-requires-clause-within c).After-list-cells (length c.args.rs.now) (omega (arith, all))

pub lower-requires-clause-few : goal.lower-requires-clause-few
lower-requires-clause-few c = few_cells (goal.at.lower-requires-clause-few c).After-list-cells

pub lower-requires-clause-size : goal.lower-requires-clause-size
lower-requires-clause-size c = sizes (goal.at.lower-requires-clause-size c).After-list-cells

pub returns-clause-duals : goal.returns-clause-duals
returns-clause-duals c =
    let large : pos 1024 ≤ℤ c.best_step-best.result.gain = grind (arith, ints, c.if-best-lt1024.false) in
    let next : ℤ = to_z w64 (of_z w64 c.best_step-best.result.next) in
    let same : next ≡ c.best_step-best.result.next = omega (arith, ints) in
    duals_step c.args.rows.now c.args.ys.now c.args.at c.index-rows-at.result next c.requires.place c.index-rows-at.is
    c.requires.duals (subst (IsDual c.index-rows-at.result.sense) (sym same) (c.best_step-best.ensures.found large).dual)

pub returns-clause-costs : goal.returns-clause-costs
returns-clause-costs c =
    let y = get_or c.args.ys.now c.args.at (pos 0) in
    let r = c.index-rows-at.result in
    let here = (goal.at.returns-clause-costs c).After-list-cells in
    let size = duals_within c.args.rows.now c.args.ys.now c.requires.duals c.args.at (pos 0) (omega (arith, c.requires.place, c.requires.duals.all)) in
    let next : ℤ = to_z w64 (of_z w64 c.best_step-best.result.next) in
    let d : ℤ = to_z w64 (of_z w64 c.change.result) in
    let read : to_z w64 (of_z w64 y) ≡ y = omega (arith, ints, size.low, size.high) in
    let back : d ≡ c.change.result = omega (arith, ints) in
    let is_d : d ≡ signed r.sense next -ℤ signed r.sense y =
    back ∙ c.change.ensures ∙ ap (λ (z : ℤ). signed r.sense next -ℤ signed r.sense z) read in
    costs_step c.args.rows.now c.args.cols.now c.args.ys.now c.args.rs.now c.lower.new.rs c.args.at r c.list-cells.result.now next d
    c.requires.place c.requires.duals.all c.index-rows-at.is c.requires.costs (cells_are here) is_d c.lower.ensures

pub returns-clause-better : goal.returns-clause-better
returns-clause-better c = λ yes.
    let y = get_or c.args.ys.now c.args.at (pos 0) in
    let here = (goal.at.returns-clause-better c).After-list-cells in
    let size = duals_within c.args.rows.now c.args.ys.now c.requires.duals c.args.at (pos 0) (omega (arith, c.requires.place, c.requires.duals.all)) in
    let large : pos 1024 ≤ℤ c.best_step-best.result.gain = grind (arith, ints, c.if-best-lt1024.false) in
    let same : to_z w64 (of_z w64 c.best_step-best.result.next) ≡ c.best_step-best.result.next = omega (arith, ints) in
    let lower = lower_step c.args.rows.now c.args.cols.now c.args.ys.now c.args.at c.index-rows-at.result c.deref.result.now (to_z w64 (of_z w64 y)) (to_z w64 (of_z w64 c.best_step-best.result.next))
    c.requires.place c.requires.duals.all c.index-rows-at.is (omega (arith, ints, size.low, size.high))
    (tells_row c.args.rows.now c.args.cols.now c.args.ys.now c.args.rs.now c.index-rows-at.result c.list-cells.result.now c.deref.result.now c.requires.costs (cells_are here)
    (λ d. ap (λ (ps : List Piece). pieces_gain ps d) c.deref.ensures.value ∙ c.in_ok-pieces.ensures.gains d)) in
    let gained = (c.best_step-best.ensures.found large).gains in
    let at_next = ap (λ (z : ℤ). step_gain c.index-rows-at.result.sense c.index-rows-at.result.rhs c.deref.result.now (to_z w64 (of_z w64 y)) z) same in
    omega (arith, ints, lower, gained, at_next, large)
