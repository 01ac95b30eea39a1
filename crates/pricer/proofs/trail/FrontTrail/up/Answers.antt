use Rattle.std.proofs.Common.{◌≡◌, ◌-◌, length, ap, sym, ◌∙◌, arith}
use Rattle.std.proofs.lemmas.List.{length-map}
use Rattle.branchx.specs.Cond as cond
use Rattle.pricer.proofs.TrailLemmas.{take_last}
use Rattle.pricer.proofs.trail.FrontTrail.up.Goals as goal

pub returns-clause-conditions : goal.returns-clause-conditions
returns-clause-conditions c =
    let conds = c.conditions.result.now in
    let same = c.conditions.ensures.value in
    let long : length conds ≡ length c.args.self.path.now.conditions = sym (length-map conds cond.condition_of) ∙ ap length same in
    let within = c.args.self.within in
    let last = take_last cond.condition_of conds c.args.self.count (c.args.self.count - 1) c.index-conditions-count.result (omega arith) (omega arith) c.index-conditions-count.is in
    rw (c.step_of-step.ensures, ← same) last
