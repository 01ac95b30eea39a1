use Rattle.std.proofs.Common.{◌≡◌, ◌≤◌, ◌++◌, length, take, drop, ◌∙◌, ap, arith}
use Rattle.std.proofs.lemmas.List.{take-append-le, length-take}
use Rattle.slotstore.proofs.Reading.{reads_more}
use Rattle.slotstore.proofs.body.read_to.Goals as goal

pub loop-pos-preserved : goal.loop-pos-preserved
loop-pos-preserved g c =
    let now = c.loop-pos in
    let so = now.invariant in
    let read = c.in_ok-count.ensures in
    let buf = c.read_at.new.buf in
    let size = c.min-size.result in
    let count = c.in_ok-count.count in
    let pushed = c.in_ok-extend_from_slice.ensures in
    let few : count ≤ size = omega (arith, read.within, c.read_at.auto.buf, length-take size now.piece) in
    let within : count ≤ length buf = omega (arith, read.within, c.read_at.auto.buf) in
    let taken = take-append-le count buf (drop size now.piece) within in
    let more = pushed.items ∙ ap (λ s. now.body.items ++ s) taken in
    let long : length (take count (buf ++ drop size now.piece)) ≡ count = ap length taken ∙ omega (arith, length-take count buf) in
    record {
      front = omega (arith, so.front);
      within = omega (arith, few, so.within, c.loop-pos-test.true, c.min-size.ensures);
      size = omega (arith, pushed.len, long, so.size, so.front);
      so_far = reads_more c.args.slot now.body.items c.extend_from_slice.new.self.items buf now.pos count (g.L.Slots.told c.args.slots.now) (g.L.Slots.told now.slots) so.front more so.told so.so_far read.bytes;
      told = read.told ∙ so.told;
      past = read.past ∙ so.past;
      faults = omega (arith, read.cause.later, so.faults);
    }
