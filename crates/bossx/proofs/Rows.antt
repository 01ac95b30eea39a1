-- Answers of calls as rows of the table of steps.
use Rattle.std.proofs.Common.{◌≡◌, ℕ, ◌<◌, Option, Some, None, length, refl, sym, subst, ◌∙◌, length-set}
use Rattle.leasebook.specs.Leases.{of_grunt}
use Rattle.pricer.specs.declared.closing.Report.{Report}
use Rattle.bossx.specs.declared.brought.Brought.{Brought}
use Rattle.bossx.specs.declared.brought.Brought.TheVariants.{Plain}
use Rattle.bossx.specs.declared.replies.Asked.{Asked}
use Rattle.bossx.specs.declared.replies.Asked.TheVariants as told
use Rattle.bossx.specs.declared.replies.Reported.{Reported}
use Rattle.bossx.specs.declared.replies.Reported.TheVariants as judged
use Rattle.bossx.specs.Books.{Book, node_of, lost_if, released, granted, best_length}
use Rattle.bossx.specs.Judging.{IsJudged}
use Rattle.bossx.specs.Answers.{IsAnswer, reported_after, own_after}
use Rattle.bossx.specs.Steps.{Step, ask_done, ask_spent, ask_home, ask_not_yet, ask_leased, report_stale, report_spent, report_misfit, report_weak, report_taken, own_stale, own_spent, own_misfit, own_weak, own_taken, gone_idle, gone_lost, count_open}
use Rattle.bossx.specs.declared.events.Event.TheVariants as event
use Rattle.bossx.specs.declared.events.Reply.TheVariants as heard

-- a book with another number of leases lost has as many leases, and the same in all else
pub released_length : (b : Book) (o : Option ℕ) → length (lost_if b o).table.leases ≡ length b.table.leases
released_length b None = refl
released_length b (Some l) = length-set b.table.leases l _

pub open_as_before : (b : Book) (o : Option ℕ) → count_open (lost_if b o) ≡ count_open b
open_as_before b None = refl
open_as_before b (Some l) = refl

pub settled_as_before : (b : Book) (o : Option ℕ) → (lost_if b o).settled ≡ b.settled
settled_as_before b None = refl
settled_as_before b (Some l) = refl

pub budget_as_before : (b : Book) (o : Option ℕ) → (lost_if b o).budget ≡ b.budget
budget_as_before b None = refl
budget_as_before b (Some l) = refl

pub best_as_before : (b : Book) (o : Option ℕ) → best_length (lost_if b o) ≡ best_length b
best_as_before b None = refl
best_as_before b (Some l) = refl

-- the answer to a grunt, once it holds no lease, is a row
pub asked_row : (b new : Book) (g : ℕ) (a : Asked) → IsAnswer (released b g) g a new → Step b (event.Ask g) (heard.Asked a) new
asked_row b new g told.Done h =
    let o = of_grunt b.table.leases g in
    subst (Step b (event.Ask g) (heard.Asked told.Done)) (sym h.1) (ask_done g (sym (open_as_before b o) ∙ h.0))
asked_row b new g told.Spent h =
    let o = of_grunt b.table.leases g in
    subst (Step b (event.Ask g) (heard.Asked told.Spent)) (sym h.2)
    (ask_spent g (subst (λ n. 0 < n) (open_as_before b o) h.0) (sym (settled_as_before b o) ∙ h.1 ∙ budget_as_before b o))
asked_row b new g told.Home h =
    let o = of_grunt b.table.leases g in
    subst (Step b (event.Ask g) (heard.Asked told.Home)) (sym h.3)
    (ask_home g (subst (λ n. 0 < n) (open_as_before b o) h.0) (subst (λ n. n < b.budget) (settled_as_before b o) (subst (λ n. (released b g).settled < n) (budget_as_before b o) h.1)) h.2)
asked_row b new g told.NotYet h =
    subst (Step b (event.Ask g) (heard.Asked told.NotYet)) (sym h.2) (ask_not_yet g h.0 h.1)
asked_row b new g (told.Leased lease node best) h =
    let o = of_grunt b.table.leases g in
    let l : lease ≡ length b.table.leases = h.1 ∙ released_length b o in
    let q : best ≡ best_length b = h.2 ∙ best_as_before b o in
    subst (Step b (event.Ask g) (heard.Asked (told.Leased lease node best))) (sym h.3)
    (subst (λ y. Step b (event.Ask g) (heard.Asked (told.Leased y node best)) (granted (released b g) g node)) (sym l)
    (subst (λ y. Step b (event.Ask g) (heard.Asked (told.Leased (length b.table.leases) node y)) (granted (released b g) g node)) (sym q)
    (ask_leased g node h.0)))

pub reported_row : (b : Book) (l : ℕ) (w : Brought) (a : Reported) → l < length b.table.leases → IsJudged b (node_of b l) w a → Step b (event.Report l w) (heard.Reported a) (reported_after b l w a)
reported_row b l w judged.Unknown known h = absurd h
reported_row b l w judged.Stale known h = report_stale l w known h
reported_row b l w judged.Spent known h = report_spent l w known h
reported_row b l w (judged.Misfit k) known h = report_misfit l w k known h
reported_row b l w (judged.Weak it need) known h = report_weak l w it need known h
reported_row b l w judged.Taken known h = report_taken l w known h

pub own_row : (b : Book) (node : ℕ) (r : Report) (a : Reported) → IsJudged b node (Plain r) a → Step b (event.Own node r) (heard.Reported a) (own_after b node (Plain r) a)
own_row b node r judged.Unknown h = absurd h
own_row b node r judged.Stale h = own_stale node r h
own_row b node r judged.Spent h = own_spent node r h
own_row b node r (judged.Misfit k) h = own_misfit node r k h
own_row b node r (judged.Weak it need) h = own_weak node r it need h
own_row b node r judged.Taken h = own_taken node r h

pub gone_row : (b : Book) (g : ℕ) (o : Option ℕ) → of_grunt b.table.leases g ≡ o → Step b (event.Gone g) (heard.Went o) (lost_if b o)
gone_row b g None is = gone_idle g is
gone_row b g (Some l) is = gone_lost g l is
