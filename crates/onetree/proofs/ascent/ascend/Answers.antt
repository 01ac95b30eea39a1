use Rattle.std.proofs.Common.{◌≡◌, sym, subst, ◌∙◌, arith, inl, ⊎_elim}
use Rattle.std.proofs.lemmas.Int.{ints}
use Rattle.onetree.specs.OneTrees.{IsHeldKarp}
use Rattle.onetree.specs.Ascents.{HasValue, Reaches}
use mir.Syntax.{w128}
use mir.Val.{to_z, of_z}
use Rattle.onetree.proofs.Changes.{raised_some}
use Rattle.onetree.proofs.ascent.ascend.Goals as goal

pub returns-then-steps-eq0-clause-raised : goal.returns-then-steps-eq0-clause-raised
returns-then-steps-eq0-clause-raised c =
    let s = c.in_ok-start in
    let zero = s.ensures.same ∙ c.in_ok-zero_duals.ensures.zeros in
    let e = c.if-steps-eq0.true in record {
      duals = s.ensures.value.duals;
      none = λ h. zero;
      start = s.start.value;
      value = s.start.value;
      start_is = subst (λ ps. IsHeldKarp c.args.instance.now ps s.start.value) zero s.ensures.value.value;
      value_is = s.ensures.value.value;
      reached = inl (omega (arith, ints));
    }

pub rest-requires-clause-value : goal.rest-requires-clause-value
rest-requires-clause-value c = ⊎_elim (λ e. subst (λ v. HasValue c.args.instance.now v.duals.items v.value) (sym e) c.in_ok-start.ensures.value) (λ e. subst (λ v. HasValue c.args.instance.now v.duals.items v.value) (sym e) c.in_ok-climbed.ensures.value) c.better.ensures.one

pub returns-clause-raised : goal.returns-clause-raised
returns-clause-raised c =
    let s = c.in_ok-start in
    let r = c.in_ok-raised in
    let zero = s.ensures.same ∙ c.in_ok-zero_duals.ensures.zeros in
    let ne = c.if-steps-eq0.false in
    let within = s.start.sized in
    let same : to_z w128 (of_z w128 s.start.value) ≡ s.start.value = omega (arith, ints) in record {
      duals = r.ensures.value.duals;
      none = λ h. absurd (omega arith);
      start = s.start.value;
      value = r.raised.value;
      start_is = subst (λ ps. IsHeldKarp c.args.instance.now ps s.start.value) zero s.ensures.value.value;
      value_is = r.ensures.value.value;
      reached = subst (λ b. Reaches c.args.instance.now c.args.steps r.raised.duals.items b r.raised.value) same r.ensures.reached;
    }

pub returns-then-steps-eq0-clause-some : goal.returns-then-steps-eq0-clause-some
returns-then-steps-eq0-clause-some c = raised_some c.args.instance.now c.args.steps c.in_ok-start.start.duals.items (returns-then-steps-eq0-clause-raised c)

pub returns-clause-some : goal.returns-clause-some
returns-clause-some c = raised_some c.args.instance.now c.args.steps c.in_ok-raised.raised.duals.items (returns-clause-raised c)
