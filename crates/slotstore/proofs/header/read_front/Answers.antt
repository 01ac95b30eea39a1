use Rattle.std.proofs.Common.{◌≡◌, ◌≤◌, ◌-◌, ◌++◌, length, take, drop, ◌∙◌, arith}
use Rattle.std.proofs.lemmas.List.{take-append-le, length-take, length-drop}
use borrow.Rule.Slice.PartMut.{same_len_mid, post_of}
use Rattle.ports.specs.Slots.{slot_of}
use Rattle.slotstore.proofs.Changes.{where_all, where_both, where_moved}
use Rattle.slotstore.proofs.Reading.{reads_on}
use Rattle.slotstore.proofs.header.read_front.Goals as goal

pub loop-done-preserved : goal.loop-done-preserved
loop-done-preserved g c =
    let done = c.loop-done.done in
    let front = c.loop-done.front in
    let read = c.in_ok-count.ensures in
    let room = length front - done in
    let size : length c.read_at.new.buf ≡ length (take room (drop done front)) = c.read_at.auto.buf in
    let held = same_len_mid done room front c.read_at.new.buf size in
    let few : c.in_ok-count.count ≤ room = omega (arith, read.within, length-take room (drop done front), length-drop done front) in
    let same = take-append-le c.in_ok-count.count c.read_at.new.buf (post_of done room front) (omega (arith, size, read.within)) in record {
      within = omega (arith, held, c.loop-done.invariant.within);
      size = held ∙ c.loop-done.invariant.size;
      so_far = reads_on c.args.slot front (c.read_at.new.buf ++ post_of done room front) done c.in_ok-count.count _ c.loop-done.invariant.within c.loop-done.invariant.so_far
          (where_moved (λ t. take c.in_ok-count.count (c.read_at.new.buf ++ post_of done room front) ≡ take c.in_ok-count.count (drop done (slot_of c.args.slot t).bytes)) _ _ c.loop-done.invariant.told
          (where_both (λ t. take c.in_ok-count.count c.read_at.new.buf ≡ take c.in_ok-count.count (drop done (slot_of c.args.slot t).bytes)) (λ t. Unit {0}) _ (λ t x y. same ∙ x) _ read.bytes (where_all (λ t. Unit {0}) (λ t. tt) _)));
      told = read.told ∙ c.loop-done.invariant.told;
      past = read.past ∙ c.loop-done.invariant.past;
      faults = omega (arith, read.cause.later, c.loop-done.invariant.faults);
    }
