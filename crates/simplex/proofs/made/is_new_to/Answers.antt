use Rattle.std.proofs.Common.{ℕ, Bool, ◌||◌, ℤ, List, length, take, drop, ap, sym, ◌∙◌}
use Rattle.std.proofs.lemmas.List.{take-map, drop-map}
use Rattle.lpcheck.specs.Rows.{reduced}
use Rattle.lpcheck.specs.Cells.{cells_of}
use Rattle.lpcheck.specs.Added.{any_missed, any_negative, any_below}
use Rattle.lpcheck.specs.declared.cells.Cell.{Cell}
use Rattle.lpcheck.proofs.Bounds.{duals_within}
use Rattle.simplex.proofs.DualLemmas.{negative_is}
use Rattle.simplex.proofs.made.is_new_to.Goals as goal

pub reduced_costs-requires-clause-table : goal.reduced_costs-requires-clause-table
reduced_costs-requires-clause-table c =
    let k = length c.args.ys.now in
    ap (λ (t : List (List Cell)). take k t) c.requires.table ∙ take-map (cells_of c.args.cols.now) k c.args.rows.now

pub reduced_costs-requires-clause-sizes : goal.reduced_costs-requires-clause-sizes
reduced_costs-requires-clause-sizes c = duals_within (take (length c.args.ys.now) c.args.rows.now) c.args.ys.now c.requires.duals

pub returns : goal.returns
returns c =
    let k = length c.args.ys.now in
    let rows = c.args.rows.now in
    let cols = c.args.cols.now in
    let ys = c.args.ys.now in
    let f = λ (r : List ℤ). any_below (drop c.args.old_cols r) in
    let missed = ap (λ (xs : List ℕ). any_missed cols xs (drop k rows)) (c.deref.ensures.value ∙ c.in_ok-xs.ensures) in
    let none = sym missed ∙ sym c.misses_any.ensures ∙ c.if-misses_any.false in
    let negative = any_negative (take k rows) ys (drop c.args.old_cols cols) in
    c.falls_any.ensures ∙ ap f (c.deref-2.ensures.value ∙ c.in_ok-rs.ensures.costs) ∙ ap any_below (drop-map (reduced (take k rows) ys) c.args.old_cols cols)
    ∙ negative_is (take k rows) ys (drop c.args.old_cols cols)
    ∙ ap (λ (b : Bool). b || negative) (sym none)
