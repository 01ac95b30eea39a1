use Rattle.std.proofs.Common.{ℕ, List, refl, sym, ◌∙◌, subst, arith}
use Rattle.std.proofs.lemmas.Bool.{false≢true}
use Rattle.tspdef.specs.Paths.{Condition, IsApartFrom, IsNew}
use Rattle.branchx.specs.Cond.{condition_of}
use Rattle.branchx.proofs.PathLemmas.{each-from_all, at-from_each}
use Rattle.branchx.proofs.path.is_new.Goals as goal

pub returns-then-not-is_apart_from : goal.returns-then-not-is_apart_from
returns-then-not-is_apart_from c =
    let P = λ (d : Condition). IsApartFrom c.args.path.now.n c.args.set.now.cities d in
    let apart = λ (new : IsNew c.args.path.now.n c.args.path.now.conditions c.args.set.now.cities).
    at-from_each P c.conditions-cond-items.result.now c.loop-cond.cond-index c.cond-item.result c.loop-cond-test.true c.cond-item.is
    (subst (λ (ds : List Condition). IsNew c.args.path.now.n ds c.args.set.now.cities) (sym c.conditions-cond-items.ensures.value) new) in (
      λ e. absurd (false≢true e),
      λ new. sym c.if-not-is_apart_from.true ∙ c.is_apart_from.ensures.1 (subst (λ (n : ℕ). IsApartFrom n c.args.set.now.cities (condition_of c.cond-item.result)) (sym c.n.ensures) (apart new)),
    )

pub returns : goal.returns
returns c =
    let P = λ (d : Condition). IsApartFrom c.args.path.now.n c.args.set.now.cities d in (
      λ e. subst (λ (ds : List Condition). IsNew c.args.path.now.n ds c.args.set.now.cities) c.conditions-cond-items.ensures.value
          (each-from_all P c.conditions-cond-items.result.now (λ k d h. c.loop-cond.invariant k d (omega arith))),
      λ new. refl,
    )
