use Rattle.std.proofs.Common.{arith}
use Rattle.tspplain.proofs.BitLemmas.{tested}
use Rattle.tspplain.proofs.bits.holds.Goals as goal

pub returns : goal.returns
returns c = rw c.bit.ensures (tested c.args.set c.args.city (omega arith))
