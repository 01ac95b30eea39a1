-- A turn: a tour is offered, and then a report is taken.
use Rattle.std.proofs.Common.{◌≡◌, ℕ, ◌-◌, ◌<◌, ◌≤◌, Option, Some, None, List, sym, subst, ap, ◌∙◌, arith}
use Rattle.std.specs.Prelude.{IfSome}
use Rattle.tspdef.specs.Instances.{Instance, IsTourOf}
use Rattle.branchx.specs.Path.{Conditions}
use Rattle.pricer.specs.declared.closing.Report.{Report}
use Rattle.treebook.specs.Tree as trees
use Rattle.treebook.specs.Tables.{IsOpen, IsLeastOpen, path_at, tree_of}
use Rattle.treebook.specs.Laws.{OpenNodesAreOpenLeaves, ClosingKeepsTables, SplittingKeepsTables}
use Rattle.bossx.specs.declared.brought.Brought.TheVariants.{Plain}
use Rattle.bossx.specs.Books.{Book, Start, best_length, path_in, taken}
use Rattle.bossx.specs.declared.events.Event.TheVariants as event
use Rattle.bossx.specs.declared.events.Reply.TheVariants as heard
use Rattle.bossx.specs.declared.replies.Front.TheVariants as fronts
use Rattle.bossx.specs.declared.replies.Reported.TheVariants.{Taken}
use Rattle.bossx.specs.Judging.{MayBeTaken}
use Rattle.bossx.specs.Steps.{IsInFront, own_taken}
use Rattle.bossx.specs.Laws.{StepsHaveNoChoice}
use Rattle.bossx.specs.Kept.{IsBook, IsTreeOf}
use Rattle.worker.specs.Splits.{Splits, StayForMore}
use Rattle.worker.specs.Works.{IsReport, SplitsOnly, best_after}
use Rattle.tspround.specs.Splits.{SplitSince}
use Rattle.tspround.specs.Alone.{IsOffered, IsReported, IsSplitBy, IsTurn, report_over}
use Rattle.tspround.specs.Laws.{IsOffer, SureWorkIsTaken}
use Rattle.tspround.proofs.Reports.{may_be_taken, report_lower, over_splits, only_more, taking_grows}
use Rattle.tspround.proofs.Runs.{offers_none, offers_some, turn_of}

-- what an offer does not change
moved : (b mid : Book) (tour : Option (List ℕ)) → IsOffered tour b mid → (P : Instance → trees.Table → Start → ℕ → Type 0)
    → P b.instance b.tree b.start b.gap → P mid.instance mid.tree mid.start mid.gap
moved b mid tour o P p =
    subst (λ (x : Instance). P x mid.tree mid.start mid.gap) (sym o.start.instance)
    (subst (λ (x : trees.Table). P b.instance x mid.start mid.gap) (sym o.tree)
    (subst (λ (x : Start). P b.instance b.tree x mid.gap) (sym o.start.start)
    (subst (λ (x : ℕ). P b.instance b.tree b.start x) (sym o.start.gap) p)))

-- the report of work as one at the node of the book
pub report_at : (i : Instance) (b : Book) (path : Conditions) (best gap node : ℕ) (found tour : Option (List ℕ)) (r : Report) → i ≡ b.instance
    → path ≡ record { n = b.instance.n; conditions = path_in b node } → best ≡ best_length b → gap ≡ b.gap → tour ≡ found
    → IsReport i path.conditions (best_after i best found - gap) r → IsReport b.instance (path_in b node) (best_after b.instance (best_length b) tour - b.gap) r
report_at i b path best gap node found tour r same on long miss offered is =
    subst (λ (j : Instance). IsReport j (path_in b node) (best_after j (best_length b) tour - b.gap) r) same
    (subst (λ (p : Conditions). IsReport i p.conditions (best_after i (best_length b) tour - b.gap) r) on
    (subst (λ (m : ℕ). IsReport i path.conditions (best_after i m tour - b.gap) r) long
    (subst (λ (m : ℕ). IsReport i path.conditions (best_after i best tour - m) r) miss
    (subst (λ (o : Option (List ℕ)). IsReport i path.conditions (best_after i best o - gap) r) (sym offered) is))))

-- and its split as one that may be there
pub only_at : (S : Splits) (i : Instance) (b : Book) (path : Conditions) (best gap node : ℕ) (r : Report) → i ≡ b.instance
    → path ≡ record { n = b.instance.n; conditions = path_in b node } → best ≡ best_length b → gap ≡ b.gap
    → SplitsOnly S i path.conditions best r gap → SplitsOnly S b.instance (path_in b node) (best_length b) r b.gap
only_at S i b path best gap node r same on long miss is =
    subst (λ (j : Instance). SplitsOnly S j (path_in b node) (best_length b) r b.gap) same
    (subst (λ (p : Conditions). SplitsOnly S i p.conditions (best_length b) r b.gap) on
    (subst (λ (m : ℕ). SplitsOnly S i path.conditions m r b.gap) long
    (subst (λ (m : ℕ). SplitsOnly S i path.conditions best r m) miss is)))

-- the node in front still is once a tour is offered
pub still_in_front : (b mid : Book) (tour : Option (List ℕ)) (node : ℕ) → IsOffered tour b mid → IsInFront b (fronts.Node node) → IsInFront mid (fronts.Node node)
still_in_front b mid tour node o front =
    let same = o.settled in
    let budget = o.start.budget in
    let left = front.0 in
    (omega (arith, same, budget, left), moved b mid tour o (λ i t s gap. IsLeastOpen t.nodes node) front.1)

-- a sure worker's report may be taken once its tour is offered
pub taken_after_offer : (b mid : Book) (tour : Option (List ℕ)) (node : ℕ) (r : Report) → IsOffered tour b mid → IsOpen b.tree.nodes node → b.settled < b.budget
    → IsReport b.instance (path_in b node) (best_after b.instance (best_length b) tour - b.gap) r → MayBeTaken mid node (Plain (report_over mid.instance.n r))
taken_after_offer b mid tour node r o is_open left is =
    let most = best_after b.instance (best_length b) tour in
    let same = o.settled in
    let budget = o.start.budget in
    let at = moved b mid tour o (λ i t s gap. IsReport i (path_at t.fixed t.nodes node) (most - gap) r) is in
    may_be_taken mid node r (moved b mid tour o (λ i t s gap. IsOpen t.nodes node) is_open) (omega (arith, same, budget, left))
    (subst (λ (m : ℕ). IsReport mid.instance (path_in mid node) (m - mid.gap) r) (sym o.best) at)

-- the lesser of two lengths is no longer where one of them is
after_lower : (i : Instance) (best more gap : ℕ) (tour : Option (List ℕ)) → best ≤ more → best_after i best tour - gap ≤ best_after i more tour - gap
after_lower i best more gap None le = omega arith
after_lower i best more gap (Some t) le = omega arith

offered_by : StepsHaveNoChoice → (b mid : Book) (tour : Option (List ℕ)) → IfSome tour (IsTourOf b.instance) → IsOffer b tour mid → IsOffered tour b mid
offered_by no_choice b mid None is e = subst (IsOffered None b) (sym e) (offers_none b)
offered_by no_choice b mid (Some t) is p = offers_some no_choice b mid t p.0 is p.1

pub sure_work_taken : StepsHaveNoChoice → SureWorkIsTaken
sure_work_taken no_choice b mid new node best w reply ready le is offer step =
    let o = offered_by no_choice b mid w.tour is.is_tour offer in
    let over = report_over b.instance.n w.report in
    let lower = report_lower b.instance (path_in b node) (best_after b.instance best w.tour - b.gap) (best_after b.instance (best_length b) w.tour - b.gap) w.report
    (after_lower b.instance (best_length b) best b.gap w.tour le) is.report in
    let may = subst (λ (i : Instance). MayBeTaken mid node (Plain (report_over i.n w.report))) o.start.instance (taken_after_offer b mid w.tour node w.report o ready.is_open ready.left lower) in
    no_choice mid new (taken mid None node (Plain over)) (event.Own node over) reply (heard.Reported Taken) step (own_taken node over may)

-- and keeps that each split is one that may be
turn_splits : OpenNodesAreOpenLeaves → ClosingKeepsTables → SplittingKeepsTables → (S : Splits) → StayForMore S → (b mid : Book) (tour : Option (List ℕ)) (node : ℕ) (r : Report)
    → IsBook b → IsOffered tour b mid → MayBeTaken mid node (Plain (report_over mid.instance.n r)) → SplitsOnly S b.instance (path_in b node) (best_length b) r b.gap
    → IsSplitBy S b → IsSplitBy S (taken mid None node (Plain (report_over mid.instance.n r)))
turn_splits leaves closing splitting S stay b mid tour node r k o may only split =
    let more = only_more S stay b.instance (path_in b node) (best_length b) b.start.length b.gap r k.no_longer only in
    let there = moved b mid tour o (λ i t s gap. SplitsOnly S i (path_at t.fixed t.nodes node) s.length r gap) more in
    taking_grows leaves closing splitting S mid node (report_over mid.instance.n r) (moved b mid tour o (λ i t s gap. IsTreeOf i t) k.tree) may
    (over_splits S mid.instance (path_in mid node) mid.start.length mid.gap r there)
    (moved b mid tour o (λ i t s gap. SplitSince S i s.length gap (tree_of s.nodes) (tree_of t.nodes)) split)

-- the report as it is handed in, with its set over the instance's cities
pub over_in : (i : Instance) (b mid : Book) (tour : Option (List ℕ)) (r told over : Report) → IsOffered tour b mid → i ≡ b.instance → told ≡ r → over ≡ report_over i.n told
    → over ≡ report_over mid.instance.n r
over_in i b mid tour r told over o same tells is =
    is ∙ ap (λ (x : Report). report_over i.n x) tells ∙ ap (λ (x : Instance). report_over x.n r) (same ∙ sym o.start.instance)

pub turn_done : OpenNodesAreOpenLeaves → ClosingKeepsTables → SplittingKeepsTables → (S : Splits) → StayForMore S → (b mid new : Book) (tour : Option (List ℕ)) (node : ℕ) (r over : Report)
    → IsBook b → IsOffered tour b mid → over ≡ report_over mid.instance.n r → MayBeTaken mid node (Plain (report_over mid.instance.n r)) → IsReported node over mid new
    → SplitsOnly S b.instance (path_in b node) (best_length b) r b.gap → IsTurn S b new
turn_done leaves closing splitting S stay b mid new tour node r over k o is may p only =
    turn_of S b mid new tour node over o p
    (subst (λ (x : Report). IsSplitBy S b → IsSplitBy S (taken mid None node (Plain x))) (sym is) (turn_splits leaves closing splitting S stay b mid tour node r k o may only))
