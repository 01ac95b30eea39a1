use Rattle.std.proofs.Common.{ℕ, List, sym, subst}
use Rattle.std.specs.Prelude.{Option}
use Rattle.tspdef.specs.Instances.{IsTourOf}
use Rattle.std.specs.Prelude.{IfSome}
use Rattle.pricer.specs.declared.closing.Report.{Report}
use Rattle.pricer.specs.declared.closing.Report.TheVariants.{Closed}
use Rattle.worker.specs.Splits.{level}
use Rattle.worker.specs.Works.{IsReport, best_after}
use Rattle.worker.proofs.LevelLemmas.{closes_at_level}
use Rattle.worker.proofs.plain.first_look.Goals as goal

pub returns-clause-work : goal.returns-clause-work
returns-clause-work c =
    let i = c.args.instance.now in
    let path = c.args.path.now.conditions in
    let gap = c.args.gap in
    let closing = c.in_ok-closing.closing in
    let closes = closes_at_level i path c.in_ok-tour.shortest gap closing (record { fits = c.in_ok-closing.ensures.fits; exceeds = c.in_ok-closing.ensures.closes }) in
    record {
      is_tour = subst (λ o. IfSome o (IsTourOf i)) (sym c.closed-2.ensures.tour) c.in_ok-tour.ensures.tour;
      report = subst (λ (r : Report). IsReport i path (level (best_after i c.args.best c.closed-2.result.tour) gap) r) (sym c.closed-2.ensures.report)
          (subst (λ o. IsReport i path (level (best_after i c.args.best o) gap) (Closed closing)) (sym c.closed-2.ensures.tour)
          (subst (λ (m : ℕ). IsReport i path (level m gap) (Closed closing)) c.in_ok-tour.ensures.lesser closes));
    }

pub returns-clause-none : goal.returns-clause-none
returns-clause-none c = (λ e. absurd cc, λ q. absurd (let t = c.in_ok-has_undecided.ensures.1 q.undecided in let f = c.if-branch.false in cc))
