use Rattle.std.proofs.Common.{length, arith}
use Rattle.lpcheck.proofs.CellLemmas.{known_at}
use Rattle.lpcheck.proofs.cells.widen.Goals as goal

pub grow-requires-clause-known : goal.grow-requires-clause-known
grow-requires-clause-known c =
    known_at c.args.rows.now c.args.cols.now c.args.from (length c.args.table.now.items) c.loop-at.at c.loop-at.table.items c.args.table.now.items c.index-rows-at.result c.index_mut.result.now
    c.requires.known c.loop-at.invariant.rest (omega (arith, c.loop-at-test.true, c.len-at-end.ensures, c.args.table.now.ok.0)) c.requires.fewer c.index-rows-at.is c.index_mut.ensures.value
