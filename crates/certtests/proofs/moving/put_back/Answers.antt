use Rattle.std.proofs.Common.{ℕ, ◌∙◌, ap, sym, Some}
use Rattle.std.specs.Prelude.{reverse}
use Rattle.tspdef.specs.Cuts.{Cut}
use Rattle.certdef.specs.Accepted.{cut_at}
use Rattle.certtests.specs.Moving.{named_in}
use Rattle.certtests.proofs.MovingLemmas.{put_next, left_named, last_of}
use Rattle.certtests.proofs.moving.put_back.Goals as goal

pub loop-first-preserved : goal.loop-first-preserved
loop-first-preserved c = λ before taken.
    let inv = c.loop-first.invariant before taken in
    let q = c.in-Some.first.now in
    let more = c.in-Some.more.now in
    let old = c.loop-first.cuts.items in
    let left = c.loop-first.left.items in
    let e = c.in-Some.ensures.cases.0 in
    let next = put_next before old q more c.loop-first.rest.now e inv.0 inv.1 inv.2 in
    let x : Cut × ℕ = (cut_at before q.0, q.1) in
    let split = left_named before q more c.loop-first.rest.now left e inv.3 in
    let last = last_of (reverse (named_in before more)) left x x _ (sym c.loop-first.left.ok.0) split in
    let some = c.pop.ensures.value x last.0 ∙ ap Some last.1 in
    (next.0.0, next.0.1, next.2 _ (c.in_ok-put_one.ensures x some next.1.0 next.1.1), c.pop.ensures.rest ∙ last.2)
