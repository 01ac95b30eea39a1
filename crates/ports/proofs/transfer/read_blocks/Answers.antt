use Rattle.std.proofs.Common.{◌≡◌, ◌+◌, ◌++◌, length, take, drop, sym, ap, ◌∙◌, subst, refl, arith}
use Rattle.std.proofs.lemmas.List.{length-take, take-append-le}
use Rattle.ports.specs.Outside.{BothTell}
use Rattle.ports.specs.Desk.{Takes}
use Rattle.ports.proofs.Transfers.{takes_none, takes_more, takes_then_stops, takes_once_more, takes_all, takes_too_much, no_memory_is_no_fault}
use Rattle.ports.proofs.transfer.read_blocks.Goals as goal

pub until_end-init : goal.until_end-init
until_end-init g c = record {
  so_far = subst (λ bytes. BothTell (Takes c.args.from bytes) (g.D.Desk.told c.args.desk.now) (g.D.Desk.told c.args.desk.now)) (sym c.requires.empty) (takes_none c.args.from (g.D.Desk.told c.args.desk.now));
  reads = omega arith;
  writes = refl;
  short = omega (arith, c.args.bytes.now.ok.0, ap length c.requires.empty);
}

pub returns-in_err-count-clause-taken : goal.returns-in_err-count-clause-taken
returns-in_err-count-clause-taken g c =
    takes_then_stops c.args.from c.until_end.bytes.items (c.args.limit + 1) _ _ _ c.until_end.invariant.so_far c.in_err-count.ensures.err (omega (arith, c.until_end.bytes.ok.0))

pub returns-in_err-count-clause-cause : goal.returns-in_err-count-clause-cause
returns-in_err-count-clause-cause g c = record {
  later = omega (arith, c.read.ensures.cause.later);
  rose = λ _. let h = c.in_err-count.ensures.cause.rose refl in omega arith;
}

pub returns-then-count-eq0-clause-all : goal.returns-then-count-eq0-clause-all
returns-then-count-eq0-clause-all g c =
    let read = c.in_ok-count.ensures in
    takes_all c.args.from c.until_end.bytes.items (take c.in_ok-count.count c.read.new.buf) _ _ _ c.until_end.invariant.so_far read.bytes (ap (λ k. take k c.read.new.buf) c.if-count-eq0.true)
    (read.end c.if-count-eq0.true (omega (arith, length-take (c.min-room.result + 1) c.until_end.block, c.requires.room, c.until_end.auto.block)))

pub returns-then-count-eq0-clause-taken : goal.returns-then-count-eq0-clause-taken
returns-then-count-eq0-clause-taken g c =
    let read = c.in_ok-count.ensures in
    takes_once_more c.args.from c.until_end.bytes.items (take c.in_ok-count.count c.read.new.buf) (c.args.limit + 1) _ _ _ c.until_end.invariant.so_far read.bytes
    (omega (arith, length-take c.in_ok-count.count c.read.new.buf, c.until_end.bytes.ok.0))

pub returns-then-count-eq0-clause-cause : goal.returns-then-count-eq0-clause-cause
returns-then-count-eq0-clause-cause g c = record {
  later = omega (arith, c.read.ensures.cause.later);
  rose = λ h. absurd (cc h);
}

pub until_end-preserved : goal.until_end-preserved
until_end-preserved g c =
    let read = c.in_ok-count.ensures in
    let grown = c.in_ok-extend_from_slice.ensures in
    let front : length c.read.new.buf ≡ length (take (c.min-room.result + 1) c.until_end.block) = c.read.auto.buf in
    let same = take-append-le c.in_ok-count.count c.read.new.buf (drop (c.min-room.result + 1) c.until_end.block) (omega (arith, front, read.within)) in record {
      so_far = takes_more c.args.from c.until_end.bytes.items (take c.in_ok-count.count c.read.new.buf) c.extend_from_slice.new.self.items _ _ _ c.until_end.invariant.so_far read.bytes (◌∙◌ {b = c.until_end.bytes.items ++ take c.in_ok-count.count (c.read.new.buf ++ drop (c.min-room.result + 1) c.until_end.block)} grown.items (ap (λ s. c.until_end.bytes.items ++ s) same));
      reads = omega (arith, read.cause.later);
      writes = read.same ∙ c.until_end.invariant.writes;
      short = omega (arith, grown.len, ap length same, length-take c.in_ok-count.count c.read.new.buf, length-take (c.min-room.result + 1) c.until_end.block, read.within);
    }

pub returns-in_err-extend_from_slice-clause-taken :
    goal.returns-in_err-extend_from_slice-clause-taken
returns-in_err-extend_from_slice-clause-taken g c =
    let read = c.in_ok-count.ensures in
    takes_once_more c.args.from c.until_end.bytes.items (take c.in_ok-count.count c.read.new.buf) (c.args.limit + 1) _ _ _ c.until_end.invariant.so_far read.bytes
    (omega (arith, length-take c.in_ok-count.count c.read.new.buf, length-take (c.min-room.result + 1) c.until_end.block, c.until_end.bytes.ok.0, read.within))

pub returns-in_err-extend_from_slice-clause-cause :
    goal.returns-in_err-extend_from_slice-clause-cause
returns-in_err-extend_from_slice-clause-cause g c = record {
  later = omega (arith, c.read.ensures.cause.later);
  rose = λ h. absurd (no_memory_is_no_fault c.from_residual-in_err-extend_from_slice.result c.from_residual-in_err-extend_from_slice.ensures.1 h);
}

pub returns-clause-too_long : goal.returns-clause-too_long
returns-clause-too_long g c = λ _. takes_too_much c.args.from c.until_end.bytes.items c.args.limit _ _ c.until_end.invariant.so_far (omega (arith, c.until_end.bytes.ok.0))

pub returns-clause-taken : goal.returns-clause-taken
returns-clause-taken g c =
    takes_then_stops c.args.from c.until_end.bytes.items (c.args.limit + 1) _ _ _ c.until_end.invariant.so_far refl (omega (arith, c.until_end.bytes.ok.0))

pub returns-clause-cause : goal.returns-clause-cause
returns-clause-cause g c = record {
  later = omega arith;
  rose = λ h. absurd (cc h);
}
