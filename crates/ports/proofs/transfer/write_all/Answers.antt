use Rattle.std.proofs.Common.{◌≤◌, ◌-◌, ◌+◌, take, drop, length, ◌∙◌, arith, refl}
use Rattle.std.proofs.lemmas.List.{length-take, length-drop}
use Rattle.ports.proofs.Transfers.{adds_none, adds_more, take_more_of}
use Rattle.ports.proofs.transfer.write_all.Goals as goal

pub loop-done-init : goal.loop-done-init
loop-done-init g c = record {
  within = omega arith;
  so_far = adds_none c.args.to (g.D.Desk.told c.args.desk.now);
  writes = omega arith;
  reads = refl;
}

pub loop-done-preserved : goal.loop-done-preserved
loop-done-preserved g c =
    let done = c.loop-done.done in
    let piece = c.args.piece.now in
    let wrote = c.in_ok-done.ensures in
    let few : c.in_ok-done.field-0 ≤ length piece - done =
    omega (arith, wrote.within, length-take (length piece - done) (drop done piece), length-drop done piece) in record {
      within = omega (arith, c.loop-done.invariant.within);
      so_far = adds_more c.args.to (take done piece) (take c.in_ok-done.field-0 (take (length piece - done) (drop done piece))) (take (done + c.in_ok-done.field-0) piece) _ _ _ c.loop-done.invariant.so_far wrote.bytes
          (take_more_of piece done c.in_ok-done.field-0 c.loop-done.invariant.within few);
      writes = omega (arith, wrote.cause.later);
      reads = wrote.same ∙ c.loop-done.invariant.reads;
    }
