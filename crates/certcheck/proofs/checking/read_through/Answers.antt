use Rattle.std.proofs.Common.{◌+◌, ◌++◌, length, take, refl, ◌∙◌, arith, rules}
use Rattle.std.proofs.lemmas.List.{length-take, length-append}
use Rattle.ports.specs.declared.desk.Inlet.TheVariants as inlet
use Rattle.ports.proofs.Transfers.{takes_more, takes_then_stops, takes_once_more}
use Rattle.certdef.specs.Tests.{verifier}
use Rattle.certdef.specs.Bytes.{start}
use Rattle.certcheck.proofs.CheckerLemmas.{fed_on, refused_of, ended_of}
use Rattle.certcheck.proofs.CheckLemmas.{refusal_told, read_grows, ends_judged}
use Rattle.certcheck.proofs.TakenLemmas.{taken_after, taken_before}
use Rattle.certcheck.proofs.checking.read_through.Goals as goal

pub returns-in_err-count-clause-taken : goal.returns-in_err-count-clause-taken
returns-in_err-count-clause-taken g c =
    let k = takes_then_stops inlet.Proof c.loop-checker.invariant.bytes (length c.loop-checker.invariant.bytes) _ _ _ c.loop-checker.invariant.takes c.in_err-count.ensures.err (omega arith) in
    (k.0, k.2)

pub returns-then-count-eq0-clause-taken : goal.returns-then-count-eq0-clause-taken
returns-then-count-eq0-clause-taken g c =
    let old = c.loop-checker.invariant.bytes in
    let new = take c.in_ok-count.count c.read.new.buf in
    let k = takes_once_more inlet.Proof old new (length old + length new) _ _ _ c.loop-checker.invariant.takes c.in_ok-count.ensures.bytes (omega arith) in
    (k.0, k.2)

pub loop-checker-smaller : goal.loop-checker-smaller
loop-checker-smaller g c =
    let i = c.args.checker.instance in
    let old = c.loop-checker.invariant.bytes in
    let piece = take c.in_ok-count.count c.read.new.buf in
    let leads = fed_on i c.loop-checker.checker c.in-Ok.next old piece c.loop-checker.invariant.instance c.in-Ok.ensures.instance c.in-Ok.ensures.fed c.loop-checker.invariant.leads in
    let before = read_grows (verifier i) start c.loop-checker.checker.reading old c.loop-checker.invariant.leads in
    let after = read_grows (verifier i) start c.in-Ok.next.reading (old ++ piece) leads in
    let some = length-take c.in_ok-count.count c.read.new.buf in
    omega (arith, before, after, length-append old piece, some, c.in_ok-count.ensures.within, c.read.auto.buf, c.requires.room, c.loop-checker.auto.block, c.wanted-most.ensures.some, c.wanted-most.ensures.few)

pub loop-checker-preserved : goal.loop-checker-preserved
loop-checker-preserved g c =
    let i = c.args.checker.instance in
    let old = c.loop-checker.invariant.bytes in
    let new = take c.in_ok-count.count c.read.new.buf in record {
      bytes = old ++ new;
      instance = c.in-Ok.ensures.instance ∙ c.loop-checker.invariant.instance;
      leads = fed_on i c.loop-checker.checker c.in-Ok.next old new c.loop-checker.invariant.instance c.in-Ok.ensures.instance c.in-Ok.ensures.fed c.loop-checker.invariant.leads;
      takes = takes_more inlet.Proof old new (old ++ new) _ _ _ c.loop-checker.invariant.takes c.in_ok-count.ensures.bytes refl;
      reads_faults = omega (arith, c.read.ensures.cause.later);
      writes = c.in_ok-count.ensures.same ∙ c.loop-checker.invariant.writes;
    }

pub returns-in-Err-clause-judged : goal.returns-in-Err-clause-judged
returns-in-Err-clause-judged g c =
    let i = c.args.checker.instance in
    let old = c.loop-checker.invariant.bytes in
    let new = take c.in_ok-count.count c.read.new.buf in
    refusal_told i old new c.in-Err.trouble c.answer.result _ _ _ c.loop-checker.invariant.takes c.in_ok-count.ensures.bytes
    (refused_of i c.loop-checker.checker c.in-Err.trouble old new c.loop-checker.invariant.instance c.in-Err.ensures.refused c.loop-checker.invariant.leads) c.answer.ensures

pub returns-in-Err-clause-taken : goal.returns-in-Err-clause-taken
returns-in-Err-clause-taken g c =
    let old = c.loop-checker.invariant.bytes in
    let new = take c.in_ok-count.count c.read.new.buf in
    let k = takes_once_more inlet.Proof old new (length old + length new) _ _ _ c.loop-checker.invariant.takes c.in_ok-count.ensures.bytes (omega arith) in
    (k.0, k.2)

pub returns-in_err-count-clause-few : goal.returns-in_err-count-clause-few
returns-in_err-count-clause-few g c =
    (taken_before c.args.checker.instance c.loop-checker.invariant.bytes c.loop-checker.checker.reading _ _ _ c.loop-checker.invariant.takes c.in_err-count.ensures.err c.loop-checker.invariant.leads
    (omega (arith, c.requires.room, c.loop-checker.auto.block, c.wanted-most.ensures.some, c.wanted-most.ensures.few))).0

pub returns-in_err-count-clause-needed : goal.returns-in_err-count-clause-needed
returns-in_err-count-clause-needed g c =
    (taken_before c.args.checker.instance c.loop-checker.invariant.bytes c.loop-checker.checker.reading _ _ _ c.loop-checker.invariant.takes c.in_err-count.ensures.err c.loop-checker.invariant.leads
    (omega (arith, c.requires.room, c.loop-checker.auto.block, c.wanted-most.ensures.some, c.wanted-most.ensures.few))).1

pub returns-then-count-eq0-clause-judged : goal.returns-then-count-eq0-clause-judged
returns-then-count-eq0-clause-judged g c =
    let i = c.args.checker.instance in
    let old = c.loop-checker.invariant.bytes in
    let new = take c.in_ok-count.count c.read.new.buf in
    ends_judged i old new _ _ _ _ c.loop-checker.invariant.takes c.in_ok-count.ensures.bytes (search rules) (search rules)
    (ended_of i c.loop-checker.checker _ old c.loop-checker.invariant.instance c.finish.ensures c.loop-checker.invariant.leads)

pub returns-then-count-eq0-clause-few : goal.returns-then-count-eq0-clause-few
returns-then-count-eq0-clause-few g c =
    let new = take c.in_ok-count.count c.read.new.buf in
    let some = length-take c.in_ok-count.count c.read.new.buf in
    (taken_after c.args.checker.instance c.loop-checker.invariant.bytes new c.loop-checker.checker.reading _ _ _ c.loop-checker.invariant.takes c.in_ok-count.ensures.bytes c.loop-checker.invariant.leads
    (omega (arith, some, c.requires.piece, c.in_ok-count.ensures.within, c.read.auto.buf, c.wanted-most.ensures.fits, c.loop-checker.auto.block))
    (omega (arith, some, c.in_ok-count.ensures.within, c.read.auto.buf, c.wanted-most.ensures.few, c.loop-checker.auto.block))).0

pub returns-then-count-eq0-clause-needed : goal.returns-then-count-eq0-clause-needed
returns-then-count-eq0-clause-needed g c =
    let new = take c.in_ok-count.count c.read.new.buf in
    let some = length-take c.in_ok-count.count c.read.new.buf in
    (taken_after c.args.checker.instance c.loop-checker.invariant.bytes new c.loop-checker.checker.reading _ _ _ c.loop-checker.invariant.takes c.in_ok-count.ensures.bytes c.loop-checker.invariant.leads
    (omega (arith, some, c.requires.piece, c.in_ok-count.ensures.within, c.read.auto.buf, c.wanted-most.ensures.fits, c.loop-checker.auto.block))
    (omega (arith, some, c.in_ok-count.ensures.within, c.read.auto.buf, c.wanted-most.ensures.few, c.loop-checker.auto.block))).1

pub returns-in-Err-clause-few : goal.returns-in-Err-clause-few
returns-in-Err-clause-few g c =
    let new = take c.in_ok-count.count c.read.new.buf in
    let some = length-take c.in_ok-count.count c.read.new.buf in
    (taken_after c.args.checker.instance c.loop-checker.invariant.bytes new c.loop-checker.checker.reading _ _ _ c.loop-checker.invariant.takes c.in_ok-count.ensures.bytes c.loop-checker.invariant.leads
    (omega (arith, some, c.requires.piece, c.in_ok-count.ensures.within, c.read.auto.buf, c.wanted-most.ensures.fits, length-take c.wanted-most.result c.loop-checker.block, c.loop-checker.auto.block))
    (omega (arith, some, c.in_ok-count.ensures.within, c.read.auto.buf, c.wanted-most.ensures.few, length-take c.wanted-most.result c.loop-checker.block))).0

pub returns-in-Err-clause-needed : goal.returns-in-Err-clause-needed
returns-in-Err-clause-needed g c =
    let new = take c.in_ok-count.count c.read.new.buf in
    let some = length-take c.in_ok-count.count c.read.new.buf in
    (taken_after c.args.checker.instance c.loop-checker.invariant.bytes new c.loop-checker.checker.reading _ _ _ c.loop-checker.invariant.takes c.in_ok-count.ensures.bytes c.loop-checker.invariant.leads
    (omega (arith, some, c.requires.piece, c.in_ok-count.ensures.within, c.read.auto.buf, c.wanted-most.ensures.fits, length-take c.wanted-most.result c.loop-checker.block, c.loop-checker.auto.block))
    (omega (arith, some, c.in_ok-count.ensures.within, c.read.auto.buf, c.wanted-most.ensures.few, length-take c.wanted-most.result c.loop-checker.block))).1
