use Rattle.std.proofs.Common.{◌-◌, sym, ap, ◌∙◌}
use Rattle.pricer.specs.Trails.{fixed_in_front}
use Rattle.pricer.proofs.TrailLemmas.{depths_of_fronts}
use Rattle.pricer.proofs.trail.Front.whole.Goals as goal

pub invariant_of-result-clause-depths : goal.invariant_of-result-clause-depths
invariant_of-result-clause-depths c = λ k h.
    depths_of_fronts c.args.path.now.n c.args.path.now.conditions k c.conditions.ensures.is_path h
    ∙ ap (λ j. k - j) (sym (c.fixed_in_front.ensures ∙ ap fixed_in_front c.conditions-2.ensures.value))
