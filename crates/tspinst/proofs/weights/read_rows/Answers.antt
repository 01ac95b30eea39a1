use Rattle.std.proofs.Common.{sym, ◌∙◌, arith}
use Rattle.tspinst.proofs.WeightLemmas.{rows_step}
use Rattle.tspinst.proofs.weights.read_rows.Goals as goal

pub loop-i-preserved : goal.loop-i-preserved
loop-i-preserved c =
    let read = rw c.in_ok-read_row.was at c.read_row.ensures.read in
    record {
      read = sym (rows_step c.args.format c.args.n _ _ _ _ _ (c.read_row.new.table, c.read_row.new.words) (omega arith) read) ∙ c.loop-i.invariant.read;
      table = c.read_row.ensures.table;
    }
