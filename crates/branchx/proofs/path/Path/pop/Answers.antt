use Rattle.std.proofs.Common.{◌≡◌, ◌<◌, List, [], true, false, length, sym, ap, subst, ◌∙◌, arith}
use Rattle.std.proofs.lemmas.Bool.{false≢true}
use Rattle.std.proofs.lemmas.List.{length-map}
use Rattle.tspdef.specs.Paths.{IsPath, branches}
use Rattle.branchx.specs.declared.cond.Cond.{Cond}
use Rattle.branchx.specs.Cond.{condition_of, conditions_of}
use Rattle.branchx.specs.Path.{Conditions, ends_in_fixed}
use Rattle.branchx.proofs.PathLemmas.{is_path-front, only_fixed, some_branch, branches_few, popped}
use Rattle.branchx.proofs.path.Path.pop.Goals as goal

pub invariant_of-self : goal.invariant_of-self
invariant_of-self c =
    is_path-front c.self.inside.n c.pop.new.self.items _ (subst (λ (xs : List Cond). IsPath c.self.inside.n (conditions_of xs)) c.pop.ensures.items c.self.invariant)

pub returns-then-ends_in_fixed-clause-found : goal.returns-then-ends_in_fixed-clause-found
returns-then-ends_in_fixed-clause-found c =
    let xs = c.self.inside.conditions.items in
    let ends : ends_in_fixed (conditions_of xs) ≡ true = ap (λ (ys : List Cond). ends_in_fixed (conditions_of ys)) (sym c.deref.ensures.value) ∙ (sym c.ends_in_fixed.ensures ∙ c.if-ends_in_fixed.true) in
    let none : branches c.args.self.now.conditions ≡ [] = subst (λ (p : Conditions). branches p.conditions ≡ []) c.self.view_is (only_fixed c.self.inside.n (conditions_of xs) c.self.invariant ends) in
    let no : length (branches c.args.self.now.conditions) ≡ 0 = ap length none in
    (λ e. absurd (false≢true e), λ h. absurd (omega (arith, h, no)))

pub returns-clause-found : goal.returns-clause-found
returns-clause-found c =
    let xs = c.self.inside.conditions.items in
    let ends : ends_in_fixed (conditions_of xs) ≡ false = ap (λ (ys : List Cond). ends_in_fixed (conditions_of ys)) (sym c.deref.ensures.value) ∙ (sym c.ends_in_fixed.ensures ∙ c.if-ends_in_fixed.false) in
    let long = length-map xs condition_of in
    let few = branches_few (conditions_of xs) in (
      λ s. let some = c.pop.ensures.variant.0 s in subst (λ (p : Conditions). 0 < length (branches p.conditions)) c.self.view_is (some_branch (conditions_of xs) ends (omega (arith, some, long))),
      λ h. let some = subst (λ (p : Conditions). 0 < length (branches p.conditions)) (sym c.self.view_is) h in c.pop.ensures.variant.1 (omega (arith, some, few, long)),
    )

pub returns-clause-branch : goal.returns-clause-branch
returns-clause-branch c =
    let ends : ends_in_fixed (conditions_of c.self.inside.conditions.items) ≡ false = ap (λ (ys : List Cond). ends_in_fixed (conditions_of ys)) (sym c.deref.ensures.value) ∙ (sym c.ends_in_fixed.ensures ∙ c.if-ends_in_fixed.false) in
    popped c.pop.result c.pop.new.self.items c.self.inside.conditions.items c.pop.ensures.items ends
