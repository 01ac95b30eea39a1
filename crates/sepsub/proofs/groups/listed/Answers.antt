use Rattle.std.proofs.Common.{◌+◌, slice_index, sym, ap, ◌∙◌, subst}
use Rattle.tspdef.specs.Sets.{has}
use Rattle.maxflow.proofs.SideLemmas.{AreThoseBelow, those_push, those_skip}
use Rattle.sepsub.proofs.groups.listed.Goals as goal
use Rattle.sepsub.proofs.groups.listed.Goals.{then-contains+in_ok-push, else-contains}

pub loop-k-preserved : goal.loop-k-preserved
loop-k-preserved c =
    let old = c.loop-k.cities.items in
    let k = c.loop-k.k in
    let side = c.args.side.now.cities in
    let numbers = c.args.numbers.now in
    let e = sym (ap (has side) c.number_of.ensures) ∙ sym c.contains.ensures in
    elim c.if-contains.branch [
      | then-contains+in_ok-push w ↦
          subst (λ xs. AreThoseBelow (k + 1) (λ c. has side (slice_index numbers c)) xs.items) (sym w.cities-is)
          (subst (λ xs. AreThoseBelow (k + 1) (λ c. has side (slice_index numbers c)) xs) (sym w.in_ok-push.ensures.items)
          (those_push k (λ c. has side (slice_index numbers c)) old c.loop-k.invariant (e ∙ w.if-contains.true)))
      | else-contains w ↦
          subst (λ xs. AreThoseBelow (k + 1) (λ c. has side (slice_index numbers c)) xs.items) (sym w.cities-is)
          (those_skip k (λ c. has side (slice_index numbers c)) old c.loop-k.invariant (e ∙ w.if-contains.false))
    ]
