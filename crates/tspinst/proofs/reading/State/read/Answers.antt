use Rattle.std.proofs.Common.{◌-◌, sym, ◌∙◌, length, arith}
use Rattle.tspinst.specs.Views.{said_of}
use Rattle.tspinst.proofs.LineLemmas.{lines_step, lines_stop, stopped}
use Rattle.tspinst.proofs.reading.State.read.Goals as goal

pub returns-in-Err : goal.returns-in-Err
returns-in-Err c =
    let h = c.in-Some.ensures.some in
    let told = rw (h.3, h.4, h.5) at c.in-Err.ensures in
    stopped c.in-Err.error (said_of c.hear.new.self, c.hear.new.words) _ _ told
    (λ r e. sym c.loop-i.invariant ∙ lines_stop (length c.args.bytes.now - c.loop-i._i) (said_of c.loop-i.state) _ h.1 (c.in-Some.header.line, h.0) r (omega arith) h.2 e)

pub loop-i-preserved : goal.loop-i-preserved
loop-i-preserved c =
    let h = c.in-Some.ensures.some in
    let told = rw (h.3, h.4, h.5) at c.in-Ok.ensures in
    sym (lines_step (length c.args.bytes.now - c.loop-i._i) _ (said_of c.loop-i.state) _ h.1 (c.in-Some.header.line, h.0) (said_of c.hear.new.self, c.hear.new.words) (omega arith) h.2 told) ∙ c.loop-i.invariant
