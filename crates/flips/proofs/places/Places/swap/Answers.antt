use Rattle.std.proofs.Common.{arith}
use Rattle.std.proofs.lemmas.Grind.{get_or_default_zero}
use Rattle.flips.proofs.Swaps.{swap_back, swap_forth, swap_within}
use Rattle.flips.proofs.places.Places.swap.Goals as goal

pub invariant_of-self-clause-place_of_order : goal.invariant_of-self-clause-place_of_order
invariant_of-self-clause-place_of_order c = λ k h.
    let t = c.args.self.now in
    let e = get_or_default_zero t.order.items c.args.i c.index-a.result.now (search (arith, t.order_size, c.requires)) in
    let f = get_or_default_zero t.order.items c.args.j c.index-b.result.now (search (arith, t.order_size, c.requires)) in
    swap_back t.order.items t.place.items t.n c.args.i c.args.j c.index-a.result.now c.index-b.result.now k (omega (arith, t.order_size)) (omega (arith, t.place_size)) c.requires.first c.requires.second (cc) (cc)
    (record { within = t.order_in; back = t.place_of_order; forth = t.order_of_place }) h

pub invariant_of-self-clause-order_of_place : goal.invariant_of-self-clause-order_of_place
invariant_of-self-clause-order_of_place c = λ k h.
    let t = c.args.self.now in
    let e = get_or_default_zero t.order.items c.args.i c.index-a.result.now (search (arith, t.order_size, c.requires)) in
    let f = get_or_default_zero t.order.items c.args.j c.index-b.result.now (search (arith, t.order_size, c.requires)) in
    swap_forth t.order.items t.place.items t.n c.args.i c.args.j c.index-a.result.now c.index-b.result.now k (omega (arith, t.order_size)) (omega (arith, t.place_size)) c.requires.first c.requires.second (cc) (cc)
    (record { within = t.order_in; back = t.place_of_order; forth = t.order_of_place }) h

pub invariant_of-self-clause-order_in : goal.invariant_of-self-clause-order_in
invariant_of-self-clause-order_in c = λ k h.
    let t = c.args.self.now in
    let e = get_or_default_zero t.order.items c.args.i c.index-a.result.now (search (arith, t.order_size, c.requires)) in
    let f = get_or_default_zero t.order.items c.args.j c.index-b.result.now (search (arith, t.order_size, c.requires)) in
    let p = t.order_in c.args.i c.requires.first in
    let q = t.order_in c.args.j c.requires.second in
    swap_within t.order.items t.n c.args.i c.args.j c.index-a.result.now c.index-b.result.now k (omega (arith, t.order_size)) c.requires.first c.requires.second (omega arith) (omega arith) t.order_in h

pub invariant_of-self-clause-place_in : goal.invariant_of-self-clause-place_in
invariant_of-self-clause-place_in c = λ k h.
    let t = c.args.self.now in
    let e = get_or_default_zero t.order.items c.args.i c.index-a.result.now (search (arith, t.order_size, c.requires)) in
    let f = get_or_default_zero t.order.items c.args.j c.index-b.result.now (search (arith, t.order_size, c.requires)) in
    let p = t.order_in c.args.i c.requires.first in
    let q = t.order_in c.args.j c.requires.second in
    swap_within t.place.items t.n c.index-b.result.now c.index-a.result.now c.args.j c.args.i k (omega (arith, t.place_size)) (omega arith) (omega arith) c.requires.second c.requires.first t.place_in h
