use Rattle.std.proofs.Common.{◌∷◌, sym, ap, ◌∙◌}
use Rattle.branchx.specs.Cond.{condition_of}
use Rattle.branchx.specs.Path.{Conditions}
use Rattle.certcheck.specs.Paths.{later}
use Rattle.certcheck.proofs.PathLemmas.{second_follows, goes_on, goes_up, later_fixed}
use Rattle.certcheck.proofs.path.next_child.Goals as goal

pub push-requires : goal.push-requires
push-requires c =
    let path = c.pop.new.self in
    second_follows path.n path.conditions (condition_of c.in-Some.last) (condition_of c.in-Some-second_of.cond) c.in-Some.ensures.follows (sym c.in-Some-second_of.ensures)

pub returns-in-Some-second_of-clause-more : goal.returns-in-Some-second_of-clause-more
returns-in-Some-second_of-clause-more c = λ yes.
    ap (λ (p : Conditions). p.conditions ∷ later p.conditions) c.in_ok-push.ensures.ok
    ∙ (goes_on c.pop.new.self.conditions (condition_of c.in-Some.last) (condition_of c.in-Some-second_of.cond) (sym c.in-Some-second_of.ensures)
    ∙ (ap (λ (p : Conditions). later p.conditions) (sym c.in-Some.ensures.last)
    ∙ c.loop-last.invariant.0))

pub returns-clause-none : goal.returns-clause-none
returns-clause-none c = λ no. sym c.loop-last.invariant.0 ∙ later_fixed c.loop-last.path.conditions c.in_default.ensures.none

pub loop-last-preserved : goal.loop-last-preserved
loop-last-preserved c = (
  sym (goes_up c.pop.new.self.conditions (condition_of c.in-Some.last) (sym c.in_default-second_of.ensures))
      ∙ (ap (λ (p : Conditions). later p.conditions) (sym c.in-Some.ensures.last)
      ∙ c.loop-last.invariant.0),
  c.pop.ensures.same ∙ c.loop-last.invariant.1,
)
