use Rattle.std.proofs.Common.{◌≡◌, ◌+◌, ◌-◌, ◌<◌, get_or, length, sym, ◌∙◌, ap, subst, arith, cond}
use Rattle.std.proofs.lemmas.Bool.{cond-true, cond-false}
use Rattle.std.proofs.lemmas.Grind.{get_or_default_zero}
use Rattle.flips.specs.Places.{wrap}
use Rattle.flips.proofs.Readings.{next_read}
use Rattle.flips.proofs.places.Places.next.Goals as goal
use Rattle.flips.proofs.places.Places.next.Goals.{then-backward, else-backward}

pub returns-clause-follows : goal.returns-clause-follows
returns-clause-follows c =
    let t = c.args.self.now in
    let xs = t.order.items in
    let a = c.args.a in
    let n = t.n in
    let p = c.index-p.result.now in
    let q = c.if-backward.q in
    let size : length xs ≡ n = omega (arith, t.order_size) in
    let is : p ≡ get_or t.place.items a 0 = c.index-p.ensures ∙ get_or_default_zero t.place.items a p (let z = t.place_size in let r = c.requires in omega arith) in
    let here : get_or xs p 0 ≡ a = ap (λ v. get_or xs v 0) is ∙ t.order_of_place a c.requires in
    let inside : p < n = subst (λ v. v < n) (sym is) (t.place_in a c.requires) in
    let place : (q < n) × (q ≡ cond c.args.backward (wrap n (p + (n - 1))) (wrap n (p + 1))) = elim c.if-backward.branch [
      | then-backward w ↦ (subst (λ v. v < n) (sym w.q-is) w.below-q.ensures.inside, w.q-is ∙ w.below-q.ensures.value ∙ sym (cond-true _ _ _ w.if-backward.true))
      | else-backward w ↦ (subst (λ v. v < n) (sym w.q-is) w.above-q.ensures.inside, w.q-is ∙ w.above-q.ensures.value ∙ sym (cond-false _ _ _ w.if-backward.false))
    ] in
    let value : c.index.result.now ≡ get_or xs q 0 = c.index.ensures ∙ get_or_default_zero xs q c.index.result.now (let l = place.0 in omega arith) in
    next_read c.args.backward n p q a c.index.result.now xs size inside here place.1 value
