-- Reports of those who priced a closing, or worked on a node.
use Rattle.std.proofs.Common.{ℕ, ◌-◌, ◌≤◌, Some, None, List, sym, subst, arith}
use Rattle.std.specs.Prelude.{ℤ, min}
use Rattle.std.proofs.lemmas.Int.{ints}
use Rattle.tspdef.specs.Instances.{IsTourOf, length_in}
use Rattle.branchx.specs.declared.branch.Branch.{Branch}
use Rattle.pricer.specs.declared.closing.Report.{Report}
use Rattle.pricer.specs.declared.closing.Report.TheVariants.{Closed, Split}
use Rattle.pricer.specs.Priced.{PricedClosing, IsPriced}
use Rattle.bossx.specs.declared.brought.Brought.TheVariants.{Plain, Hinted, Weighed}
use Rattle.bossx.specs.declared.events.Event.TheVariants as event
use Rattle.bossx.specs.declared.events.Reply.{Reply}
use Rattle.bossx.specs.declared.events.Reply.TheVariants as heard
use Rattle.bossx.specs.declared.replies.Reported.TheVariants as judged
use Rattle.bossx.specs.Books.{Book, best_length, level, path_in, node_of, taken, with_best}
use Rattle.bossx.specs.Judging.{IsAtHome, IsReady, MayBeTaken}
use Rattle.bossx.specs.Steps.{Step, report_unknown, report_stale, report_spent, report_misfit, report_weak, report_taken, own_taken, offer_other_size, offer_off_fixed, offer_not_shorter, offer_better}
use Rattle.bossx.specs.Laws.{PricedAreReported, SettlesFor, IsTakenNow, SureReportsAreTaken}
use Rattle.bossx.proofs.Kept.{home_fits}
use Rattle.bossx.proofs.Deciding.{closing_unfit, off_held, steps_have_no_choice}

-- ---- closings that were priced

to_plain : (b new : Book) (l : ℕ) (p : PricedClosing) (r : Reply) → IsPriced p → IsAtHome b (node_of b l) p → Step b (event.Report l (Weighed p)) r new → Step b (event.Report l (Plain (Closed p.closing))) r new
to_plain b new l p r priced home (report_unknown l1 w past) = report_unknown l (Plain (Closed p.closing)) past
to_plain b new l p r priced home (report_stale l1 w known h) = report_stale l (Plain (Closed p.closing)) known h
to_plain b new l p r priced home (report_spent l1 w known h) = report_spent l (Plain (Closed p.closing)) known h
to_plain b new l p r priced home (report_misfit l1 w k known h) = absurd (h.misfit.1 home)
to_plain b new l p r priced home (report_weak l1 w it need known h) = report_weak l (Plain (Closed p.closing)) it need known (record { ready = h.ready; fits = home_fits b (node_of b l) p priced home; weak = h.weak })
to_plain b new l p r priced home (report_taken l1 w known h) = report_taken l (Plain (Closed p.closing)) known (record { ready = h.ready; fits = home_fits b (node_of b l) p priced home; suffices = h.suffices })

to_priced : (b new : Book) (l : ℕ) (p : PricedClosing) (r : Reply) → IsPriced p → IsAtHome b (node_of b l) p → Step b (event.Report l (Plain (Closed p.closing))) r new → Step b (event.Report l (Weighed p)) r new
to_priced b new l p r priced home (report_unknown l1 w past) = report_unknown l (Weighed p) past
to_priced b new l p r priced home (report_stale l1 w known h) = report_stale l (Weighed p) known h
to_priced b new l p r priced home (report_spent l1 w known h) = report_spent l (Weighed p) known h
to_priced b new l p r priced home (report_misfit l1 w k known h) = absurd (closing_unfit b.instance.n (path_in b (node_of b l)) p.closing k h.misfit (home_fits b (node_of b l) p priced home))
to_priced b new l p r priced home (report_weak l1 w it need known h) = report_weak l (Weighed p) it need known (record { ready = h.ready; fits = (home, home_fits b (node_of b l) p priced home); weak = h.weak })
to_priced b new l p r priced home (report_taken l1 w known h) = report_taken l (Weighed p) known (record { ready = h.ready; fits = (home, home_fits b (node_of b l) p priced home); suffices = h.suffices })

pub priced_are_reported : PricedAreReported
priced_are_reported b new l p r priced home = (to_plain b new l p r priced home, to_priced b new l p r priced home)

-- ---- sure work

settles_may : (b : Book) (node l : ℕ) (r : Report) → IsReady b node → level b ≤ l → SettlesFor b node l r → MayBeTaken b node (Plain r)
settles_may b node l (Closed c) ready low s = let e = s.1 in record { ready = ready; fits = s.0; suffices = omega (arith, ints, e, low) }
settles_may b node l (Split branch) ready low s = record { ready = ready; fits = s; suffices = tt }

may_hint : (b : Book) (node : ℕ) (branch : Branch) (hint : ℤ) → MayBeTaken b node (Plain (Split branch)) → MayBeTaken b node (Hinted branch hint)
may_hint b node branch hint m = record { ready = m.ready; fits = m.fits; suffices = tt }

taken_now : (b : Book) (node : ℕ) (r : Report) → MayBeTaken b node (Plain r) → IsTakenNow b node r
taken_now b node r may = record {
  by_lease = λ l s new known at step.
      (steps_have_no_choice b new (taken b (Some l) (node_of b l) (Plain r)) (event.Report l (Plain r)) s (heard.Reported judged.Taken) step
      (report_taken l (Plain r) known (subst (λ (n : ℕ). MayBeTaken b n (Plain r)) (sym at) may))).0;
  hinted = λ l branch hint s new known at is step.
      (steps_have_no_choice b new (taken b (Some l) (node_of b l) (Hinted branch hint)) (event.Report l (Hinted branch hint)) s (heard.Reported judged.Taken) step
      (report_taken l (Hinted branch hint) known (subst (λ (n : ℕ). MayBeTaken b n (Hinted branch hint)) (sym at) (may_hint b node branch hint (subst (λ (z : Report). MayBeTaken b node (Plain z)) is may))))).0;
  by_boss = λ s new step.
      (steps_have_no_choice b new (taken b None node (Plain r)) (event.Own node r) s (heard.Reported judged.Taken) step (own_taken node r may)).0;
}

-- a better tour changes nothing but what is needed
settles_still : (b : Book) (tour : List ℕ) (node l : ℕ) (r : Report) → SettlesFor b node l r → SettlesFor (with_best b tour) node l r
settles_still b tour node l (Closed c) s = s
settles_still b tour node l (Split branch) s = s

low_as_offered : (a best long gap : ℕ) → a ≤ best → a ≤ long → a - gap ≤ min best long - gap
low_as_offered a best long gap p q = omega arith

once_offered : (b mid : Book) (node best : ℕ) (tour : List ℕ) (r : Report) (s : Reply) → IsReady b node → best_length b ≤ best → IsTourOf b.instance tour
    → Step b (event.Offer tour) s mid → SettlesFor b node (min best (length_in b.instance tour) - b.gap) r → IsTakenNow mid node r
once_offered b mid node best tour r s ready low is (offer_other_size t ne) settles = absurd (ne is.is_tour.all)
once_offered b mid node best tour r s ready low is (offer_off_fixed t u v same off) settles = absurd (off_held _ _ u v off is.holds_fixed)
once_offered b mid node best tour r s ready low is (offer_not_shorter t is2 long) settles =
    taken_now b node r (settles_may b node (min best (length_in b.instance tour) - b.gap) r ready (low_as_offered (best_length b) best (length_in b.instance tour) b.gap low long) settles)
once_offered b mid node best tour r s ready low is (offer_better t is2 shorter) settles =
    let long = length_in b.instance tour in
    let new = with_best b tour in
    taken_now new node r (settles_may new node (min best long - b.gap) r (record { is_open = ready.is_open; left = ready.left })
    (low_as_offered long best long b.gap (omega (arith, low, shorter)) (omega arith)) (settles_still b tour node (min best long - b.gap) r settles))

pub sure_reports_are_taken : SureReportsAreTaken
sure_reports_are_taken = record {
  none = λ b node best r ready low settles. taken_now b node r (settles_may b node (best - b.gap) r ready (omega (arith, low)) settles);
  found = once_offered;
}
