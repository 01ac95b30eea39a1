use Rattle.lpcheck.specs.Cells.{no_column}
use Rattle.simplex.proofs.ColumnLemmas.{column_within}
use Rattle.simplex.proofs.made.values_of.Goals as goal

pub x-requires-clause-u_below : goal.x-requires-clause-u_below
x-requires-clause-u_below c = (column_within c.args.x.now.n c.args.cols.now c.loop-column.column-index no_column c.requires c.loop-column-test.true).0

pub x-requires-clause-v_below : goal.x-requires-clause-v_below
x-requires-clause-v_below c = (column_within c.args.x.now.n c.args.cols.now c.loop-column.column-index no_column c.requires c.loop-column-test.true).1
