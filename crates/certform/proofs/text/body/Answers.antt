use Rattle.std.proofs.Common.{◌∙◌, sym, ap, subst, ℕ, List, ◌<◌, length, arith}
use Rattle.std.specs.List.{AllByRecursion}
use Rattle.std.specs.Borrow.{Bor}
use Rattle.std.proofs.lemmas.List.{length-map}
use Rattle.tspdef.specs.Cuts.{Cut}
use Rattle.certform.specs.Walks.{node_cuts}
use Rattle.certform.proofs.Walking.{within_table}
use Rattle.certform.proofs.Numbering.{nodes_ready}
use Rattle.certform.proofs.Loops.{cuts_in}
use Rattle.certform.proofs.Bodies.{body_puts}
use Rattle.certform.proofs.text.body.Goals as goal

pub cuts_of-requires : goal.cuts_of-requires
cuts_of-requires c =
    let nodes = c.args.tree.now.nodes in
    subst (λ (ks : List ℕ). AllByRecursion (λ k. k < length nodes) ks) (sym c.deref.ensures.value) (within_table nodes c.in_ok-order.order.items _ c.in_ok-order.ensures)

pub put_nodes-requires : goal.put_nodes-requires
put_nodes-requires c =
    let nodes = c.args.tree.now.nodes in
    let same = c.deref.ensures.value ∙ sym c.deref-2.ensures.value in
    nodes_ready (cuts_in c.in_ok-cuts.cuts.keys) nodes c.deref-2.result.now (c.in_ok-cuts.ensures ∙ ap (λ (ks : List ℕ). node_cuts nodes ks) same)
    (subst (λ (ks : List ℕ). AllByRecursion (λ k. k < length nodes) ks) (sym c.deref-2.ensures.value) (within_table nodes c.in_ok-order.order.items _ c.in_ok-order.ensures))

pub returns : goal.returns
returns c =
    let l = length-map c.in_ok-cuts.cuts.keys (λ (k : Bor Cut). k.now) in
    body_puts c.args.instance.now c.args.tour.now c.in_ok-form.form (cuts_in c.in_ok-cuts.cuts.keys) c.args.tree.now.nodes c.in_ok-order.order.items c.deref.result.now c.deref-2.result.now c.len.result c.args.bound
    c.new-out.result.items c.put_head.new.out.items c.put_count.new.out.items c.put_cuts.new.out.items c.put_nodes.new.out.items
    c.in_ok-order.ensures c.deref.ensures.value c.deref-2.ensures.value c.in_ok-cuts.ensures (omega (arith, c.len.ensures.len))
    c.in_ok-form.ensures c.new-out.ensures.items c.in_ok-put_head.ensures c.in_ok-put_count.ensures c.in_ok-put_cuts.ensures c.in_ok-put_nodes.ensures
