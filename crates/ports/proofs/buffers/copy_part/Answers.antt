use Rattle.std.proofs.Common.{◌-◌, ◌+◌, arith}
use Rattle.std.proofs.lemmas.List.{length-take}
use Rattle.ports.proofs.Lists.{copied_front}
use Rattle.ports.proofs.buffers.copy_part.Goals as goal

pub returns-clause-bytes : goal.returns-clause-bytes
returns-clause-bytes c =
    let at = c.args.at in
    let count = c.min-count.result in
    copied_front c.args.from.now c.copy_from_slice.new.self _ at count (at + count - at) c.copy_from_slice.ensures.after (omega arith) (omega (arith, c.copy_from_slice.ensures.len, length-take count c.args.buf.now))
