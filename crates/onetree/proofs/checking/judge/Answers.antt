use Rattle.std.proofs.Common.{refl, sym, subst, ◌∙◌, inl, inr}
use Rattle.std.proofs.lemmas.Result.{IfOk-weaker}
use Rattle.onetree.specs.OneTrees.{AreDuals}
use Rattle.onetree.specs.Readings.{HasHead, SaysDuals, StopsDuals}
use Rattle.onetree.proofs.DualLemmas.{said_are_duals}
use Rattle.onetree.proofs.JudgingLemmas.{stops_at_dual, judged, shorter_than}
use Rattle.onetree.proofs.checking.judge.Goals as goal

pub returns-in-Some-clause-judged : goal.returns-in-Some-clause-judged
returns-in-Some-clause-judged c =
    let i = c.args.instance.now in
    let head = subst (λ n. HasHead n c.args.bytes.now c.in-Ok.bound c.in-Ok.rest.now) c.n-n.ensures.same c.in-Ok.ensures.read in
    let stops = subst (λ n. StopsDuals n c.in-Ok.rest.now c.in-Some.line) c.n-n.ensures.same (rw c.in-Some.is at c.in_ok-line-in-Ok.ensures) in
    inl (refl, inr (stops_at_dual i.n c.args.bytes.now c.in-Ok.rest.now c.in-Ok.bound c.in-Some.line head stops))

pub price-requires : goal.price-requires
price-requires c =
    let i = c.args.instance.now in
    let says = subst (λ n. SaysDuals n c.in-Ok.rest.now c.read_duals.new.duals.items) c.n-n.ensures.same (rw c.in-None.is at c.in_ok-line-in-Ok.ensures) in
    subst (λ ps. AreDuals i.n ps) (sym (c.deref.ensures.value ∙ says.duals)) (said_are_duals i.n says.said_duals says.rising)

pub returns-clause-judged : goal.returns-clause-judged
returns-clause-judged c =
    let i = c.args.instance.now in
    let head = subst (λ n. HasHead n c.args.bytes.now c.in-Ok.bound c.in-Ok.rest.now) c.n-n.ensures.same c.in-Ok.ensures.read in
    let says = subst (λ n. SaysDuals n c.in-Ok.rest.now c.read_duals.new.duals.items) c.n-n.ensures.same (rw c.in-None.is at c.in_ok-line-in-Ok.ensures) in
    IfOk-weaker c.price.result _ _ (λ a h. judged i c.args.bytes.now c.in-Ok.rest.now c.read_duals.new.duals.items c.deref.result.now c.in-Ok.bound a head says c.deref.ensures.value h) c.price.ensures

pub returns-clause-shorter : goal.returns-clause-shorter
returns-clause-shorter c =
    IfOk-weaker c.price.result _ _ (λ a h. shorter_than c.args.instance.now c.deref.result.now c.in-Ok.bound a c.n-n.ensures.instance.many h) c.price.ensures
