use Rattle.std.proofs.Common.{◌+◌, ℕ, Bool, not, sym, ap, ◌∙◌, subst}
use Rattle.maxflow.proofs.SideLemmas.{AreThoseBelow, those_push, those_skip}
use Rattle.sepodd.specs.Folding.{differ}
use Rattle.sepodd.specs.Sides.{is_marked}
use Rattle.sepodd.proofs.cuts.cities_of.Goals as goal
use Rattle.sepodd.proofs.cuts.cities_of.Goals.{then-not-differ+in_ok-push, else-not-differ}

pub loop-k-preserved : goal.loop-k-preserved
loop-k-preserved c =
    let old = c.loop-k.cities.items in
    let k = c.loop-k.k in
    let side = c.args.side.now in
    let in_it : ℕ → Bool = λ i. not (differ (is_marked side i) (is_marked side 0)) in
    let here = c.differ.ensures ∙ ap (λ b. differ b c.is_marked-home.result) c.is_marked.ensures ∙ ap (λ b. differ (is_marked side k) b) c.is_marked-home.ensures in
    elim c.if-not-differ.branch [
      | then-not-differ+in_ok-push w ↦
          subst (λ xs. AreThoseBelow (k + 1) in_it xs.items) (sym w.cities-is)
          (subst (λ xs. AreThoseBelow (k + 1) in_it xs) (sym w.in_ok-push.ensures.items)
          (those_push k in_it old c.loop-k.invariant (ap not (sym here ∙ w.if-not-differ.true))))
      | else-not-differ w ↦
          subst (λ xs. AreThoseBelow (k + 1) in_it xs.items) (sym w.cities-is)
          (those_skip k in_it old c.loop-k.invariant (ap not (sym here ∙ w.if-not-differ.false)))
    ]
