use Rattle.std.proofs.Common.{◌≡◌, ℕ, ◌<ℤ◌, ◌≤ℤ◌, ℤ, sym, subst, ap, ◌∙◌, arith, ⊎_elim}
use Rattle.std.specs.Prelude.{IfNone, IfSome}
use Rattle.std.proofs.lemmas.Int.{ints}
use Rattle.tspdef.specs.Instances.{IsTourOf}
use Rattle.tspdef.specs.Paths.{DecidesAll}
use Rattle.tspdef.specs.Bounds.{bound, needed}
use Rattle.tspdef.specs.Rays.{zero_closing}
use Rattle.tspdef.specs.Closings.{Closing}
use Rattle.nodelp.specs.Duals.{closing_of, newest_duals}
use Rattle.worker.specs.Splits.{level}
use Rattle.worker.specs.Works.{best_after, IsReport}
use Rattle.grunt.proofs.splits.settle.Goals as goal

pub branch_at-requires-clause-undecided : goal.branch_at-requires-clause-undecided
branch_at-requires-clause-undecided c = subst (λ (n : ℕ). ¬ DecidesAll n c.args.path.now.conditions) (sym c.requires.cities) c.requires.question.undecided

pub returns-in_ok-branch-in-None-clause-explained : goal.returns-in_ok-branch-in-None-clause-explained
returns-in_ok-branch-in-None-clause-explained c =
    let i = c.args.instance.now in
    let path = c.args.path.now.conditions in
    let newest = c.args.newest in
    let best = c.args.best in
    let gap = c.args.gap in
    let l = level (best_after i best c.in_ok-tour.tour) gap in
    let lesser : c.level-wanted.result ≡ l = c.level-wanted.ensures.value ∙ ap (λ (m : ℕ). level m gap) c.in_ok-tour.ensures.lesser in
    let now : newest.bound ≡ bound i path (closing_of i.n path c.args.node (newest_duals c.args.node.program.last)) = c.requires.look.bound_is ∙ ap (λ (k : Closing). bound i path k) c.requires.look.closing in
    let low : newest.bound ≤ℤ needed (level best gap) = subst (λ (m : ℕ). newest.bound ≤ℤ needed m) c.level.ensures.value (c.suffices.ensures.not c.if-suffices.false) in
    c.reason_of.ensures i path l (record {
      is_lp = c.requires.look.is_lp;
      clean = c.requires.look.clean;
      weak = subst (λ (z : ℤ). z ≤ℤ needed l) now (subst (λ (m : ℕ). newest.bound ≤ℤ needed m) lesser (c.suffices-2.ensures.not c.if-suffices-2.false));
      zeros_weak = subst (λ (m : ℕ). bound i path (zero_closing i.n) ≤ℤ needed m) lesser
          (subst (λ o. IfNone o (bound i path (zero_closing i.n) ≤ℤ needed c.level-wanted.result)) c.in-None.is c.in_ok-zeros.ensures.none);
      ended = ⊎_elim (λ (h : needed (level best gap) <ℤ newest.bound). absurd (omega (arith, ints, low, h))) (λ rest. rest) c.requires.ended;
    })

pub returns-then-suffices-2-clause-work : goal.returns-then-suffices-2-clause-work
returns-then-suffices-2-clause-work c =
    let i = c.args.instance.now in
    let path = c.args.path.now.conditions in
    let newest = c.args.newest in
    let best = c.args.best in
    let gap = c.args.gap in
    let tour = c.in_ok-tour.tour in
    let work = c.closed-then-suffices-2 in
    let l = level (best_after i best tour) gap in
    let lesser : c.level-wanted.result ≡ l = c.level-wanted.ensures.value ∙ ap (λ (m : ℕ). level m gap) c.in_ok-tour.ensures.lesser in
    let high : needed l <ℤ newest.bound = subst (λ (m : ℕ). needed m <ℤ newest.bound) lesser (c.suffices-2.ensures.more c.if-suffices-2.true) in
    record {
      is_tour = subst (λ o. IfSome o (IsTourOf i)) (sym work.ensures.tour) c.in_ok-tour.ensures.tour;
      report = subst (λ o. IsReport i path (level (best_after i best o) gap) work.result.report) (sym work.ensures.tour)
          (subst (λ r. IsReport i path l r) (sym work.ensures.report) (record {
            fits = c.requires.look.fits;
            exceeds = subst (λ (z : ℤ). needed l <ℤ z) c.requires.look.bound_is high;
          }));
    }
