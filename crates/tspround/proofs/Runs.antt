-- Events in turn, and what they leave.
use Rattle.std.proofs.Common.{ℕ, ◌+◌, ◌<◌, ◌≤◌, Option, Some, None, List, [], ◌∷◌, ◌++◌, refl, sym, ◌∙◌, subst, arith, ⊎_elim, ◌⊎◌}
use Rattle.std.proofs.lemmas.Bool.Decides.{nat_tests}
use Rattle.tspdef.specs.Instances.{Instance, IsTourOf, length_in}
use Rattle.pricer.specs.declared.closing.Report.{Report}
use Rattle.bossx.specs.declared.brought.Brought.TheVariants.{Plain}
use Rattle.bossx.specs.declared.events.Event.{Event}
use Rattle.bossx.specs.declared.events.Event.TheVariants as event
use Rattle.bossx.specs.declared.events.Reply.{Reply}
use Rattle.bossx.specs.declared.events.Reply.TheVariants as heard
use Rattle.bossx.specs.declared.replies.Reported.{Reported}
use Rattle.bossx.specs.declared.replies.Reported.TheVariants.{Taken}
use Rattle.bossx.specs.declared.replies.Offered.{Offered}
use Rattle.bossx.specs.declared.replies.Offered.TheVariants.{NotShorter, Better}
use Rattle.bossx.specs.Books.{Book, best_length, taken, with_best}
use Rattle.bossx.specs.Judging.{MayBeTaken}
use Rattle.bossx.specs.declared.replies.Front.TheVariants as fronts
use Rattle.bossx.specs.Steps.{Step, own_taken, offer_not_shorter, offer_better, Run, run_ends, run_goes_on, IsInFront}
use Rattle.bossx.specs.Laws.{IsSameStart, StepsHaveNoChoice}
use Rattle.worker.specs.Splits.{Splits}
use Rattle.worker.specs.Works.{best_after}
use Rattle.tspround.specs.Alone.{IsOwn, AllOwn, IsOwnRun, IsSplitBy, IsOffered, IsReported, IsTurn, IsSoFar}

-- ---- runs

pub run_append : (b mid new : Book) (es fs : List Event) (rs ss : List Reply) → Run b es rs mid → Run mid fs ss new → Run b (es ++ fs) (rs ++ ss) new
run_append b mid new es fs rs ss (run_ends b') rest = rest
run_append b mid new es fs rs ss (run_goes_on b' next mid' e r es' rs' s more) rest =
    run_goes_on b next new e r (es' ++ fs) (rs' ++ ss) s (run_append next mid new es' fs rs' ss more rest)

own_append : (b mid new : Book) (es fs : List Event) (rs ss : List Reply) (p : Run b es rs mid) (q : Run mid fs ss new) → AllOwn b es rs mid p → AllOwn mid fs ss new q
    → AllOwn b (es ++ fs) (rs ++ ss) new (run_append b mid new es fs rs ss p q)
unfolding run_append
own_append b mid new es fs rs ss (run_ends b') q a c = c
own_append b mid new es fs rs ss (run_goes_on b' next mid' e r es' rs' s more) q a c = (a.0, own_append next mid new es' fs rs' ss more q a.1 c)

-- nothing happens
pub no_run : (b : Book) → IsOwnRun b b
no_run b = record { events = []; replies = []; run = run_ends b; own = tt }

-- one event
one_event : (b new : Book) (e : Event) (r : Reply) → IsOwn b e → Step b e r new → IsOwnRun b new
one_event b new e r o s = record { events = e ∷ []; replies = r ∷ []; run = run_goes_on b new new e r [] [] s (run_ends new); own = (o, tt) }

-- one run after another
pub run_then : (b mid new : Book) → IsOwnRun b mid → IsOwnRun mid new → IsOwnRun b new
run_then b mid new p q = record {
  events = p.events ++ q.events;
  replies = p.replies ++ q.replies;
  run = run_append b mid new p.events q.events p.replies q.replies p.run q.run;
  own = own_append b mid new p.events q.events p.replies q.replies p.run q.run p.own q.own;
}

-- ---- the start

pub same_start : (b : Book) → IsSameStart b b
same_start b = record { instance = refl; budget = refl; grunts = refl; gap = refl; start = refl }

pub start_then : (b mid new : Book) → IsSameStart b mid → IsSameStart mid new → IsSameStart b new
start_then b mid new p q = record {
  instance = q.instance ∙ p.instance;
  budget = q.budget ∙ p.budget;
  grunts = q.grunts ∙ p.grunts;
  gap = q.gap ∙ p.gap;
  start = q.start ∙ p.start;
}

-- ---- offers

pub offers_none : (b : Book) → IsOffered None b b
offers_none b = record { run = no_run b; start = same_start b; tree = refl; settled = refl; best = refl }

lt_or_le : (a b : ℕ) → (a < b) ⊎ (b ≤ a)
lt_or_le a b = grind (arith, nat_tests)

-- the tour is shorter
offers_better : (b : Book) (t : List ℕ) → length_in b.instance t < best_length b → IsOwnRun b (with_best b t) → IsOffered (Some t) b (with_best b t)
offers_better b t shorter run = record {
  run = run;
  start = record { instance = refl; budget = refl; grunts = refl; gap = refl; start = refl };
  tree = refl;
  settled = refl;
  best = omega (arith, shorter);
}

-- or it is not
offers_longer : (b : Book) (t : List ℕ) → best_length b ≤ length_in b.instance t → IsOwnRun b b → IsOffered (Some t) b b
offers_longer b t long run = record { run = run; start = same_start b; tree = refl; settled = refl; best = omega (arith, long) }

pub offers_some : StepsHaveNoChoice → (b new : Book) (t : List ℕ) (reply : Offered) → IsTourOf b.instance t → Step b (event.Offer t) (heard.Offered reply) new → IsOffered (Some t) b new
offers_some no_choice b new t reply is step =
    let run = one_event b new (event.Offer t) (heard.Offered reply) tt step in
    ⊎_elim
    (λ (shorter : length_in b.instance t < best_length b).
    let e = (no_choice b new (with_best b t) (event.Offer t) (heard.Offered reply) (heard.Offered Better) step (offer_better t is shorter)).1 in
    subst (IsOffered (Some t) b) (sym e) (offers_better b t shorter (subst (IsOwnRun b) e run)))
    (λ (long : best_length b ≤ length_in b.instance t).
    let e = (no_choice b new b (event.Offer t) (heard.Offered reply) (heard.Offered (NotShorter (best_length b))) step (offer_not_shorter t is long)).1 in
    subst (IsOffered (Some t) b) (sym e) (offers_longer b t long (subst (IsOwnRun b) e run)))
    (lt_or_le (length_in b.instance t) (best_length b))

-- ---- reports

pub reports : StepsHaveNoChoice → (b new : Book) (node : ℕ) (r : Report) (reply : Reported) → IsInFront b (fronts.Node node) → MayBeTaken b node (Plain r)
    → Step b (event.Own node r) (heard.Reported reply) new → IsReported node r b new
reports no_choice b new node r reply front may step = record {
  run = one_event b new (event.Own node r) (heard.Reported reply) front step;
  taken = (no_choice b new (taken b None node (Plain r)) (event.Own node r) (heard.Reported reply) (heard.Reported Taken) step (own_taken node r may)).1;
}

-- ---- turns

best_falls : (i : Instance) (best : ℕ) (tour : Option (List ℕ)) → best_after i best tour ≤ best
best_falls i best None = omega arith
best_falls i best (Some t) = omega arith

turn_to : (S : Splits) (b mid : Book) (tour : Option (List ℕ)) (node : ℕ) (r : Report) → IsOffered tour b mid → IsOwnRun mid (taken mid None node (Plain r))
    → (IsSplitBy S b → IsSplitBy S (taken mid None node (Plain r))) → IsTurn S b (taken mid None node (Plain r))
turn_to S b mid tour node r o run splits =
    let falls = best_falls b.instance (best_length b) tour in
    let best = o.best in
    let same = o.settled in
    record {
      run = run_then b mid (taken mid None node (Plain r)) o.run run;
      start = start_then b mid (taken mid None node (Plain r)) o.start (record { instance = refl; budget = refl; grunts = refl; gap = refl; start = refl });
      no_longer = omega (arith, best, falls);
      settled = omega (arith, same);
      splits = splits;
    }

-- an offer and a report that is taken are a turn
pub turn_of : (S : Splits) (b mid new : Book) (tour : Option (List ℕ)) (node : ℕ) (r : Report) → IsOffered tour b mid → IsReported node r mid new
    → (IsSplitBy S b → IsSplitBy S (taken mid None node (Plain r))) → IsTurn S b new
turn_of S b mid new tour node r o p splits =
    subst (IsTurn S b) (sym p.taken) (turn_to S b mid tour node r o (subst (IsOwnRun mid) p.taken p.run) splits)

-- ---- many turns

-- no turn yet
pub none_so_far : (S : Splits) (b : Book) → IsSplitBy S b → IsSoFar S 0 b b
none_so_far S b split = record { run = no_run b; start = same_start b; no_longer = omega arith; settled = omega arith; splits = split }

-- one more
pub one_more : (S : Splits) (count : ℕ) (b mid new : Book) → IsSoFar S count b mid → IsTurn S mid new → IsSoFar S (count + 1) b new
one_more S count b mid new p t =
    let a = p.no_longer in
    let d = t.no_longer in
    let s = p.settled in
    let u = t.settled in
    record {
      run = run_then b mid new p.run t.run;
      start = start_then b mid new p.start t.start;
      no_longer = omega (arith, a, d);
      settled = omega (arith, s, u);
      splits = t.splits p.splits;
    }
