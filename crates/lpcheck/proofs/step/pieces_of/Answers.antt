use Rattle.std.proofs.Common.{ap, List, arith}
use Rattle.std.proofs.lemmas.Int.{ints}
use Rattle.std.proofs.lemmas.List.{drop_more}
use Rattle.lpcheck.specs.Steps.{cells_gain}
use Rattle.lpcheck.specs.declared.cells.Cell.{Cell}
use Rattle.lpcheck.proofs.step.pieces_of.Goals as goal

abbrev nothing : Cell
nothing = record { column = 0; coef = 0 }

pub loop-cell-preserved : goal.loop-cell-preserved
loop-cell-preserved c = record {
  gains = λ d.
      let more = ap (λ (l : List Cell). cells_gain c.args.cols.now c.args.rs.now l d) (drop_more c.args.cells.now c.loop-cell.cell-index nothing c.loop-cell-test.true) in
      let added = c.in_ok-add_piece.ensures.gains d in
      let before = c.loop-cell.invariant.gains d in
      omega (arith, ints, more, added, before);
  few = omega (arith, c.in_ok-add_piece.ensures.one, c.loop-cell.invariant.few);
}
