use Rattle.std.proofs.Common.{sym, ◌∙◌, arith}
use Rattle.tspinst.proofs.WeightLemmas.{row_step, row_done}
use Rattle.tspinst.proofs.weights.read_row.Goals as goal

pub loop-j-preserved : goal.loop-j-preserved
loop-j-preserved c =
    let read = rw c.in_ok-read_entry.was at c.read_entry.ensures.read in
    record {
      read = sym (row_step c.args.format c.args.n c.args.i _ _ _ _ _ (c.read_entry.new.table, c.read_entry.new.words) (omega arith) read) ∙ c.loop-j.invariant.read;
      table = c.read_entry.ensures.table;
    }

pub returns-clause-read : goal.returns-clause-read
returns-clause-read c = sym c.loop-j.invariant.read ∙ row_done c.args.format c.args.n c.args.i c.loop-j.j _ c.loop-j.table c.loop-j.words (omega arith)
