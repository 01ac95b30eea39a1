use Rattle.std.proofs.Common.{◌≡◌, ℕ, ◌≤◌, ap, ◌∙◌, sym, subst}
use Rattle.tspdef.specs.Instances.{Instance}
use Rattle.tspgen.specs.Points.{seeded}
use Rattle.tspgen.proofs.PointLemmas.{length_points}
use Rattle.tspengine.specs.Benching.{IsBenchOutcome}
use Rattle.tspengine.specs.Outcomes.{IsOutcome}
use Rattle.tspengine.specs.Searches.{start_in}
use Rattle.tspgen.specs.Points.{drawn}
use Rattle.tspengine.proofs.Beginnings.{ok_to, bench_outcome}
use Rattle.tspengine.proofs.benching.drawn_outcome.Goals as goal

pub returns-clause-outcome : goal.returns-clause-outcome
returns-clause-outcome c =
    let w = c.args.words.now in
    let b = c.in_ok-boss.boss in
    ok_to (IsOutcome b.instance b.budget b.gap (start_in b)) (IsBenchOutcome (drawn w.seed w.cities) w.budget)
    (bench_outcome c.in_ok-instance.instance (drawn w.seed w.cities) w.budget b c.in_ok-boss.ensures c.in_ok-instance.ensures) c.outcome_of.result c.outcome_of.ensures.outcome

pub returns-clause-small : goal.returns-clause-small
returns-clause-small c = λ few enough.
    let n = c.args.words.now.cities in
    let cities : c.in_ok-instance.instance.n ≡ n = ap (λ (i : Instance). i.n) c.in_ok-instance.ensures ∙ length_points n (seeded c.args.words.now.seed) in
    c.outcome_of.ensures.closed (c.in_ok-boss.ensures.small (subst (λ (k : ℕ). k ≤ 5) (sym cities) few) enough)
