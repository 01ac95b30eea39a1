use Rattle.std.proofs.Common.{◌+◌, not, sym, ap, ◌∙◌, subst}
use Rattle.tspdef.specs.Sets.{has}
use Rattle.maxflow.proofs.SideLemmas.{AreThoseBelow, those_push, those_skip}
use Rattle.sepsub.proofs.sides.outside.Goals as goal
use Rattle.sepsub.proofs.sides.outside.Goals.{then-not-contains+in_ok-push, else-not-contains}

pub loop-k-preserved : goal.loop-k-preserved
loop-k-preserved c =
    let old = c.loop-k.cities.items in
    let k = c.loop-k.k in
    let side = c.args.side.now.cities in
    elim c.if-not-contains.branch [
      | then-not-contains+in_ok-push w ↦
          subst (λ xs. AreThoseBelow (k + 1) (λ c. not (has side c)) xs.items) (sym w.cities-is)
          (subst (λ xs. AreThoseBelow (k + 1) (λ c. not (has side c)) xs) (sym w.in_ok-push.ensures.items)
          (those_push k (λ c. not (has side c)) old c.loop-k.invariant (ap not (sym c.contains.ensures ∙ w.if-not-contains.true))))
      | else-not-contains w ↦
          subst (λ xs. AreThoseBelow (k + 1) (λ c. not (has side c)) xs.items) (sym w.cities-is)
          (those_skip k (λ c. not (has side c)) old c.loop-k.invariant (ap not (sym c.contains.ensures ∙ w.if-not-contains.false)))
    ]
