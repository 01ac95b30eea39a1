use Rattle.std.proofs.Common.{List, sym, subst}
use Rattle.std.specs.List.{All}
use Rattle.std.proofs.lemmas.List.Elements.{All-nil, All-push}
use Rattle.cyc.specs.CitySet.{Members}
use Rattle.sepsub.specs.LeastSets.{IsViolated}
use Rattle.sepsub.proofs.UnionLemmas.{weighed_light}
use Rattle.sepsub.proofs.unions.light.Goals as goal
use Rattle.sepsub.proofs.unions.light.Goals.{then-weight-lt-LIGHT+in_ok-copy+in_ok-push, else-weight-lt-LIGHT}

pub returns-clause-sets : goal.returns-clause-sets
returns-clause-sets c =
    let x = c.args.x.now in
    let none : All (IsViolated x) c.new-sets.result.items = subst (λ (v : List Members). All (IsViolated x) v) (sym c.new-sets.ensures.items) (All-nil (IsViolated x)) in
    elim c.if-weight-lt-LIGHT.branch [
      | then-weight-lt-LIGHT+in_ok-copy+in_ok-push w ↦
          subst (λ v. All (IsViolated x) v.items) (sym w.sets-is)
          (subst (λ (v : List Members). All (IsViolated x) v) (sym w.in_ok-push.ensures.items)
          (All-push (IsViolated x) c.new-sets.result.items w.in_ok-copy.field-0 none
          (subst (IsViolated x) (sym w.in_ok-copy.ensures) (weighed_light x c.args.weight c.args.set.now c.entries-entries.ensures.entries c.requires w.if-weight-lt-LIGHT.true))))
      | else-weight-lt-LIGHT w ↦ subst (λ v. All (IsViolated x) v.items) (sym w.sets-is) none
    ]
