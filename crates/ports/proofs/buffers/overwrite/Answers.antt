use Rattle.std.proofs.Common.{◌+◌, ◌∙◌, ap, arith}
use Rattle.std.proofs.lemmas.List.Edits.{paste_more}
use Rattle.std.specs.Prelude.{slice_set, slice_index_or}
use Rattle.ports.proofs.buffers.overwrite.Goals as goal

pub loop-i-preserved : goal.loop-i-preserved
loop-i-preserved c =
    let byte = slice_index_or c.args.piece.now c.loop-i.i 0 in record {
      items = ap (λ s. slice_set s (c.args.at + c.loop-i.i) byte) c.loop-i.invariant.items ∙ paste_more c.args.list.now.items c.args.at c.args.piece.now c.loop-i.i 0 (omega (arith, c.args.list.now.ok.0)) (omega arith);
      len = c.loop-i.invariant.len;
      capacity = c.loop-i.invariant.capacity;
    }
