use Rattle.std.proofs.Common.{◌∙◌, ap, take, drop}
use Rattle.ports.proofs.Lists.{moved_front}
use Rattle.ports.proofs.buffers.Source.take.Goals as goal

pub returns-clause-moved : goal.returns-clause-moved
returns-clause-moved c =
    let at = c.args.self.now.at in
    let count = c.copy_part-count.result in
    moved_front c.args.self.now.bytes.items c.copy_part-count.new.buf at count (c.copy_part-count.ensures.bytes ∙ ap (λ bytes. take count (drop at bytes)) c.deref.ensures.value)
