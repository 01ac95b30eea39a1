use Rattle.std.proofs.Common.{◌+◌, ◌-◌, ◌<◌, ◌++◌, ◌∙◌, ap, take, drop, length, vec_len, arith}
use Rattle.std.proofs.lemmas.Bool.Decides.{nat_tests}
use Rattle.ports.proofs.Lists.{put_over_zeros}
use Rattle.ports.proofs.buffers.put.Goals as goal

pub returns-clause-items : goal.returns-clause-items
returns-clause-items c =
    let old = c.args.list.now.items in
    let piece = c.args.piece.now in
    let pos = c.args.pos in
    let some : 0 < length piece = (let test = c.if-is_empty.ensures in grind (arith, nat_tests)) in
    c.overwrite.ensures.items ∙ ap (λ s. take pos s ++ (piece ++ drop (pos + length piece) s)) c.lengthen.ensures.items
    ∙ put_over_zeros old piece pos (pos + length piece - vec_len c.args.list.now) some (omega (arith, c.args.list.now.ok.0))
