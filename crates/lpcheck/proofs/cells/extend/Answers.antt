use Rattle.std.proofs.Common.{◌++◌, List, drop, ap, ◌∙◌}
use Rattle.lpcheck.specs.Cells.{cells_from}
use Rattle.lpcheck.specs.declared.cells.Cell.{Cell}
use Rattle.lpcheck.proofs.CellLemmas.{cells_known}
use Rattle.lpcheck.proofs.cells.extend.Goals as goal

pub loop-place-init : goal.loop-place-init
loop-place-init c =
    ap (λ (l : List Cell). l ++ cells_from c.args.from c.args.row.now (drop c.args.from c.args.cols.now)) c.requires.known
    ∙ cells_known c.args.cols.now c.args.from c.args.row.now
