use Rattle.std.proofs.Common.{sym, subst}
use Rattle.std.specs.List.{All}
use Rattle.std.proofs.lemmas.List.Elements.{All-push}
use Rattle.sepsub.specs.Growth.{IsLight}
use Rattle.sepsub.proofs.components.others.Goals as goal
use Rattle.sepsub.proofs.components.others.Goals.{then-not-index+then-not-is_in_any+in_ok-set+in-Some+in_ok-push, then-not-index+then-not-is_in_any+in_ok-set+in_default, else-not-index}

pub loop-city-preserved : goal.loop-city-preserved
loop-city-preserved c =
    let w = c.args.network.now in
    elim c.if-not-index.branch [
      | then-not-index+then-not-is_in_any+in_ok-set+in-Some+in_ok-push k ↦
          subst (λ v. All (IsLight w) v.items) (sym k.sets-is)
          (subst (λ v. All (IsLight w) v) (sym k.in_ok-push.ensures.items)
          (All-push (IsLight w) c.loop-city.sets.items k.in-Some.set c.loop-city.invariant (rw k.in-Some.is at k.in_ok-set.ensures)))
      | then-not-index+then-not-is_in_any+in_ok-set+in_default k ↦ subst (λ v. All (IsLight w) v.items) (sym k.sets-is) c.loop-city.invariant
      | else-not-index k ↦ subst (λ v. All (IsLight w) v.items) (sym k.sets-is) c.loop-city.invariant
    ]
