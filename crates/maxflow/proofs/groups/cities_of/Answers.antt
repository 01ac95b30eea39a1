use Rattle.std.proofs.Common.{◌+◌, slice_index, sym, ◌∙◌, subst}
use Rattle.std.proofs.lemmas.Bool.{eq-eqb, ne_eqb}
use Rattle.maxflow.specs.Shrinking.{in_group}
use Rattle.maxflow.proofs.SideLemmas.{AreThoseBelow, those_push, those_skip}
use Rattle.maxflow.proofs.groups.cities_of.Goals as goal
use Rattle.maxflow.proofs.groups.cities_of.Goals.{then-group_of-a+in_ok-push, else-group_of-a}

pub loop-k-preserved : goal.loop-k-preserved
loop-k-preserved c =
    let old = c.loop-k.cities.items in
    let k = c.loop-k.k in
    let groups = c.args.groups.now in
    let a = c.args.a in
    elim c.if-group_of-a.branch [
      | then-group_of-a+in_ok-push w ↦
          subst (λ xs. AreThoseBelow (k + 1) (in_group groups a) xs.items) (sym w.cities-is)
          (subst (λ xs. AreThoseBelow (k + 1) (in_group groups a) xs) (sym w.in_ok-push.ensures.items)
          (those_push k (in_group groups a) old c.loop-k.invariant (eq-eqb (slice_index groups k) a (sym c.group_of.ensures ∙ w.if-group_of-a.true))))
      | else-group_of-a w ↦
          subst (λ xs. AreThoseBelow (k + 1) (in_group groups a) xs.items) (sym w.cities-is)
          (those_skip k (in_group groups a) old c.loop-k.invariant (ne_eqb (slice_index groups k) a (λ e. w.if-group_of-a.false (c.group_of.ensures ∙ e))))
    ]
