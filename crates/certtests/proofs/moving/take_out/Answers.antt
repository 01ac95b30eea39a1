use Rattle.std.proofs.Common.{◌∷◌, ◌∙◌, arith}
use Rattle.certtests.proofs.MovingLemmas.{out_next, left_next, named_next}
use Rattle.certtests.proofs.moving.take_out.Goals as goal

pub swap_remove-cut-requires : goal.swap_remove-cut-requires
swap_remove-cut-requires c =
    let inv = c.loop-last.invariant in
    let within = (out_next c.args.cuts.now.items c.loop-last.cuts.items c.args.duals.now c.loop-last.rest.now c.in-Some.more.now inv.0 c.in-Some.last.now c.in-Some.ensures.cases.0 inv.1
    c.requires.numbers c.requires.rising inv.2).1 in
    let long = c.loop-last.cuts.ok.0 in
    omega arith

pub loop-last-preserved : goal.loop-last-preserved
loop-last-preserved c =
    let inv = c.loop-last.invariant in
    let q = c.in-Some.last.now in
    let out = out_next c.args.cuts.now.items c.loop-last.cuts.items c.args.duals.now c.loop-last.rest.now c.in-Some.more.now inv.0 q c.in-Some.ensures.cases.0 inv.1
    c.requires.numbers c.requires.rising inv.2 in
    let cut = c.swap_remove-cut.result in (
      q ∷ inv.0,
      out.0,
      left_next c.args.cuts.now.items c.loop-last.cuts.items _ inv.0 q cut out.1 inv.2 c.swap_remove-cut.ensures.items,
      named_next c.args.cuts.now.items inv.0 q cut c.loop-last.named.items _ (c.swap_remove-cut.ensures.value ∙ out.2 cut) inv.3 c.in_ok-push.ensures.items,
    )
