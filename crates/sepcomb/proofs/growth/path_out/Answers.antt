use Rattle.std.proofs.Common.{◌≡◌, ◌+◌, ◌-◌, Some, None, sym, ap, ◌∙◌, arith}
use Rattle.sepcomb.specs.Growth.{next_city, path_from}
use Rattle.sepcomb.proofs.PathLemmas.{path_more}
use Rattle.sepcomb.proofs.growth.path_out.Goals as goal

pub loop-step-preserved : goal.loop-step-preserved
loop-step-preserved c =
    let x = c.args.x.now in
    let h = c.args.handle.now.cities in
    let used = c.args.used.now in
    let path = c.loop-step.path.items in
    let step = c.loop-step.step in
    let city = c.in-Some.city in
    let n = c.n-step-end.ensures.value in
    let next : next_city h used path c.loop-step.newest None x.entries ≡ Some city =
    sym (ap (λ p. next_city h used p c.loop-step.newest None x.entries) c.deref.ensures.value) ∙ (sym c.next_city.ensures ∙ c.in-Some.is) in
    ap (λ p. path_from (x.n - (step + 1)) x.entries h used p city) c.in_ok-push.ensures.items
    ∙ (sym (path_more x.n step x.entries h used path c.loop-step.newest city (omega arith) next) ∙ c.loop-step.invariant)
