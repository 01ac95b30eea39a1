use Rattle.std.proofs.Common.{◌+◌, ◌==◌, sym, ◌∙◌, ap, subst}
use Rattle.maxflow.proofs.SideLemmas.{AreThoseBelow, those_push, those_skip}
use Rattle.sepodd.specs.Folding.{is_odd}
use Rattle.sepodd.proofs.uncrossing.odd_cities.Goals as goal
use Rattle.sepodd.proofs.uncrossing.odd_cities.Goals.{then-is_odd_city+in_ok-push, else-is_odd_city}

pub loop-k-preserved : goal.loop-k-preserved
loop-k-preserved c =
    let old = c.loop-k.cities.items in
    let k = c.loop-k.k in
    let es = c.args.x.now.entries in
    let here = c.is_odd_city.ensures ∙ ap (λ v. is_odd v (λ j. j == k)) c.entries.ensures.value in
    elim c.if-is_odd_city.branch [
      | then-is_odd_city+in_ok-push w ↦
          subst (λ xs. AreThoseBelow (k + 1) (λ i. is_odd es (λ j. j == i)) xs.items) (sym w.cities-is)
          (subst (λ xs. AreThoseBelow (k + 1) (λ i. is_odd es (λ j. j == i)) xs) (sym w.in_ok-push.ensures.items)
          (those_push k (λ i. is_odd es (λ j. j == i)) old c.loop-k.invariant (sym here ∙ w.if-is_odd_city.true)))
      | else-is_odd_city w ↦
          subst (λ xs. AreThoseBelow (k + 1) (λ i. is_odd es (λ j. j == i)) xs.items) (sym w.cities-is)
          (those_skip k (λ i. is_odd es (λ j. j == i)) old c.loop-k.invariant (sym here ∙ w.if-is_odd_city.false))
    ]
