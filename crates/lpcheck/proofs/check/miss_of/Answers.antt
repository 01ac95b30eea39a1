use Rattle.std.proofs.Common.{ℕ, ◌*◌, List, length, ap, sym, subst, ◌∙◌, arith}
use Rattle.tspdef.specs.Bounds.{scale}
use Rattle.lpcheck.specs.Answers.{short}
use Rattle.lpcheck.specs.Cells.{AreWithin, dot}
use Rattle.lpcheck.specs.declared.cells.Cell.{Cell}
use Rattle.lpcheck.proofs.CellLemmas.{cells_within, cells_few, dot_is}
use Rattle.lpcheck.proofs.check.miss_of.Goals as goal

pub activity_of-requires-clause-within : goal.activity_of-requires-clause-within
activity_of-requires-clause-within c =
    subst (AreWithin (length c.args.xs.now)) (sym c.requires.cells) (cells_within 0 (length c.args.xs.now) c.args.row.now c.args.cols.now (omega (arith, c.requires.size)))

pub activity_of-requires-clause-few : goal.activity_of-requires-clause-few
activity_of-requires-clause-few c =
    let same = ap (λ (l : List Cell). length l) c.requires.cells in
    let few = cells_few 0 c.args.row.now c.args.cols.now in
    omega (arith, same, few, c.requires.few_cols)

pub returns-clause-value : goal.returns-clause-value
returns-clause-value c =
    let row = c.args.row.now in
    c.short_of.ensures.value
    ∙ ap (λ (a : ℕ). short row.sense a (scale * row.rhs))
    (c.activity_of.ensures.value ∙ ap (λ (l : List Cell). dot l c.args.xs.now) c.requires.cells ∙ dot_is c.args.cols.now row c.args.xs.now c.requires.size)
