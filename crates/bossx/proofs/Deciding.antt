-- No event has a choice: what is answered, and what book is left, is determined.
use Rattle.std.proofs.Common.{◌≡◌, ℕ, zero, suc, ◌<◌, ◌≤◌, true, ◌⊎◌, inl, inr, ⊎_elim, Option, Some, None, List, [], ◌∷◌, length, refl, sym, ◌∙◌, ap, subst, arith}
use Rattle.std.specs.Prelude.{ℤ, slice_get, take}
use Rattle.std.proofs.lemmas.Int.{ints}
use Rattle.std.proofs.lemmas.Bool.{cases_lt, cases_eq, false≢true}
use Rattle.tspdef.specs.Tours.{steps, has_step}
use Rattle.tspdef.specs.Fixed.{AreSteps}
use Rattle.tspdef.specs.Paths.{Condition}
use Rattle.tspdef.specs.Closings.{Closing, Fits, IsMisfit}
use Rattle.leasebook.specs.Leases.{of_grunt}
use Rattle.branchx.specs.declared.branch.Branch.{Branch}
use Rattle.branchx.specs.declared.branch.Branch.TheVariants.{Edge, Clique}
use Rattle.pricer.specs.declared.closing.Report.{Report}
use Rattle.pricer.specs.declared.closing.Report.TheVariants.{Closed, Split}
use Rattle.bossx.specs.declared.brought.Brought.{Brought}
use Rattle.bossx.specs.declared.brought.Brought.TheVariants.{Plain, Hinted, Weighed}
use Rattle.bossx.specs.declared.replies.Asked.{Asked}
use Rattle.bossx.specs.declared.replies.Asked.TheVariants as told
use Rattle.bossx.specs.declared.replies.Reported.{Reported}
use Rattle.bossx.specs.declared.replies.Reported.TheVariants as judged
use Rattle.bossx.specs.declared.replies.Offered.TheVariants as tours
use Rattle.bossx.specs.Books.{Book, best_length, node_of, content_of, released, granted, lost}
use Rattle.bossx.specs.Judging.{BranchFits, IsBranchMisfit, BroughtFits, IsMisfitOf, IsWeak, Suffices, IsJudged}
use Rattle.bossx.specs.Answers.{IsAnswer, reported_after, own_after}
use Rattle.bossx.specs.Steps.{IsFirstFree, IsFirstOff, Run, run_ends, run_goes_on, Step, ask_done, ask_spent, ask_home, ask_not_yet, ask_leased, report_unknown, report_stale, report_spent, report_misfit, report_weak, report_taken, own_stale, own_spent, own_misfit, own_weak, own_taken, gone_idle, gone_lost, expire_unknown, expire_ended, expire_lost, offer_other_size, offer_off_fixed, offer_not_shorter, offer_better}
use Rattle.bossx.specs.Laws.{StepsHaveNoChoice, RunsHaveNoChoice}
use Rattle.bossx.proofs.Rows.{open_as_before, settled_as_before, budget_as_before, best_as_before, released_length}
use Rattle.bossx.specs.declared.events.Event.TheVariants as event
use Rattle.bossx.specs.declared.events.Reply.{Reply}
use Rattle.bossx.specs.declared.events.Reply.TheVariants as heard

-- ---- misfits

pub closing_unfit : (n : ℕ) (path : List Condition) (c : Closing) (k : ℕ) → IsMisfit n path c k → Fits n path c → ⊥
closing_unfit n path c k m f = ⊎_elim (λ a. a.1 f.counts) (λ m2. ⊎_elim (λ a. a.2 f.sizes) (λ m3. ⊎_elim (λ a. a.3 f.cuts) (λ a. a.4 f.depths) m3) m2) m

closing_misfit : (n : ℕ) (path : List Condition) (c : Closing) (k j : ℕ) → IsMisfit n path c k → IsMisfit n path c j → k ≡ j
closing_misfit n path c k j m o = ⊎_elim
    (λ a. ⊎_elim (λ b. a.0 ∙ sym b.0) (λ o2. ⊎_elim (λ b. absurd (a.1 b.1)) (λ o3. ⊎_elim (λ b. absurd (a.1 b.1)) (λ b. absurd (a.1 b.1)) o3) o2) o)
    (λ m2. ⊎_elim
    (λ a. ⊎_elim (λ b. absurd (b.1 a.1)) (λ o2. ⊎_elim (λ b. a.0 ∙ sym b.0) (λ o3. ⊎_elim (λ b. absurd (a.2 b.2)) (λ b. absurd (a.2 b.2)) o3) o2) o)
    (λ m3. ⊎_elim
    (λ a. ⊎_elim (λ b. absurd (b.1 a.1)) (λ o2. ⊎_elim (λ b. absurd (b.2 a.2)) (λ o3. ⊎_elim (λ b. a.0 ∙ sym b.0) (λ b. absurd (a.3 b.3)) o3) o2) o)
    (λ a. ⊎_elim (λ b. absurd (b.1 a.1)) (λ o2. ⊎_elim (λ b. absurd (b.2 a.2)) (λ o3. ⊎_elim (λ b. absurd (b.3 a.3)) (λ b. a.0 ∙ sym b.0) o3) o2) o)
    m3)
    m2)
    m

branch_misfit : (n : ℕ) (path : List Condition) (br : Branch) (k j : ℕ) → IsBranchMisfit n path br k → IsBranchMisfit n path br j → k ≡ j
branch_misfit n path (Edge u v) k j a b = a.0 ∙ sym b.0
branch_misfit n path (Clique set) k j a b = a.0 ∙ sym b.0

branch_unfit : (n : ℕ) (path : List Condition) (br : Branch) (k : ℕ) → IsBranchMisfit n path br k → BranchFits n path br → ⊥
branch_unfit n path (Edge u v) k a f = a.1 f
branch_unfit n path (Clique set) k a f = a.1 f

misfit_once : (b : Book) (node : ℕ) (w : Brought) (k j : ℕ) → IsMisfitOf b node w k → IsMisfitOf b node w j → k ≡ j
misfit_once b node (Plain (Closed c)) k j a o = closing_misfit _ _ c k j a o
misfit_once b node (Plain (Split br)) k j a o = branch_misfit _ _ br k j a o
misfit_once b node (Hinted br hint) k j a o = branch_misfit _ _ br k j a o
misfit_once b node (Weighed p) k j a o = a.0 ∙ sym o.0

misfit_unfit : (b : Book) (node : ℕ) (w : Brought) (k : ℕ) → IsMisfitOf b node w k → BroughtFits b node w → ⊥
misfit_unfit b node (Plain (Closed c)) k a f = closing_unfit _ _ c k a f
misfit_unfit b node (Plain (Split br)) k a f = branch_unfit _ _ br k a f
misfit_unfit b node (Hinted br hint) k a f = branch_unfit _ _ br k a f
misfit_unfit b node (Weighed p) k a f = a.1 f.0

weak_once : (b : Book) (node : ℕ) (r : Report) (x y u v : ℤ) → IsWeak b node r x y → IsWeak b node r u v → (x ≡ u) × (y ≡ v)
weak_once b node (Closed c) x y u v a o = (a.0 ∙ sym o.0, a.1 ∙ sym o.1)
weak_once b node (Split br) x y u v a o = absurd a

weak_not_enough : (b : Book) (node : ℕ) (r : Report) (x y : ℤ) → IsWeak b node r x y → Suffices b node r → ⊥
weak_not_enough b node (Closed c) x y a s = let e = a.0 in let f = a.1 in let l = a.2 in absurd (omega (arith, ints, e, f, l, s))
weak_not_enough b node (Split br) x y a s = a

-- ---- reports

same_weak : (x y u v : ℤ) → x ≡ u → y ≡ v → judged.Weak x y ≡ judged.Weak u v
same_weak x y u v e f = ap (λ (z : ℤ). judged.Weak z y) e ∙ ap (λ (z : ℤ). judged.Weak u z) f

judged_once : (b : Book) (node : ℕ) (w : Brought) (a o : Reported) → IsJudged b node w a → IsJudged b node w o → a ≡ o
judged_once b node w judged.Unknown o h g = absurd h
judged_once b node w judged.Stale judged.Unknown h g = absurd g
judged_once b node w judged.Stale judged.Stale h g = refl
judged_once b node w judged.Stale judged.Spent h g = absurd (h g.is_open)
judged_once b node w judged.Stale (judged.Misfit k2) h g = absurd (h g.ready.is_open)
judged_once b node w judged.Stale (judged.Weak x2 y2) h g = absurd (h g.ready.is_open)
judged_once b node w judged.Stale judged.Taken h g = absurd (h g.ready.is_open)
judged_once b node w judged.Spent judged.Unknown h g = absurd g
judged_once b node w judged.Spent judged.Stale h g = absurd (g h.is_open)
judged_once b node w judged.Spent judged.Spent h g = refl
judged_once b node w judged.Spent (judged.Misfit k2) h g = let e = h.spent in let l = g.ready.left in absurd (omega (arith, e, l))
judged_once b node w judged.Spent (judged.Weak x2 y2) h g = let e = h.spent in let l = g.ready.left in absurd (omega (arith, e, l))
judged_once b node w judged.Spent judged.Taken h g = let e = h.spent in let l = g.ready.left in absurd (omega (arith, e, l))
judged_once b node w (judged.Misfit k) judged.Unknown h g = absurd g
judged_once b node w (judged.Misfit k) judged.Stale h g = absurd (g h.ready.is_open)
judged_once b node w (judged.Misfit k) judged.Spent h g = let e = g.spent in let l = h.ready.left in absurd (omega (arith, e, l))
judged_once b node w (judged.Misfit k) (judged.Misfit k2) h g = ap judged.Misfit (misfit_once b node w k k2 h.misfit g.misfit)
judged_once b node w (judged.Misfit k) (judged.Weak x2 y2) h g = absurd (misfit_unfit b node w k h.misfit g.fits)
judged_once b node w (judged.Misfit k) judged.Taken h g = absurd (misfit_unfit b node w k h.misfit g.fits)
judged_once b node w (judged.Weak x y) judged.Unknown h g = absurd g
judged_once b node w (judged.Weak x y) judged.Stale h g = absurd (g h.ready.is_open)
judged_once b node w (judged.Weak x y) judged.Spent h g = let e = g.spent in let l = h.ready.left in absurd (omega (arith, e, l))
judged_once b node w (judged.Weak x y) (judged.Misfit k2) h g = absurd (misfit_unfit b node w k2 g.misfit h.fits)
judged_once b node w (judged.Weak x y) (judged.Weak x2 y2) h g = let e = weak_once b node (content_of w) x y x2 y2 h.weak g.weak in same_weak x y x2 y2 e.0 e.1
judged_once b node w (judged.Weak x y) judged.Taken h g = absurd (weak_not_enough b node (content_of w) x y h.weak g.suffices)
judged_once b node w judged.Taken judged.Unknown h g = absurd g
judged_once b node w judged.Taken judged.Stale h g = absurd (g h.ready.is_open)
judged_once b node w judged.Taken judged.Spent h g = let e = g.spent in let l = h.ready.left in absurd (omega (arith, e, l))
judged_once b node w judged.Taken (judged.Misfit k2) h g = absurd (misfit_unfit b node w k2 g.misfit h.fits)
judged_once b node w judged.Taken (judged.Weak x2 y2) h g = absurd (weak_not_enough b node (content_of w) x2 y2 g.weak h.suffices)
judged_once b node w judged.Taken judged.Taken h g = refl

-- the rows of a report
record IsReportRow (b : Book) (l : ℕ) (w : Brought) (r : Reply) (new : Book) : Type 0 where
  answer : Reported
  reply : r ≡ heard.Reported answer
  after : new ≡ reported_after b l w answer
  why : ((answer ≡ judged.Unknown) × (length b.table.leases ≤ l)) ⊎ ((l < length b.table.leases) × IsJudged b (node_of b l) w answer)

report_row : (b : Book) (l : ℕ) (w : Brought) (new : Book) (r : Reply) → Step b (event.Report l w) r new → IsReportRow b l w r new
report_row b l w new r (report_unknown l2 w2 past) = record { answer = judged.Unknown; reply = refl; after = refl; why = inl (refl, past) }
report_row b l w new r (report_stale l2 w2 known h) = record { answer = judged.Stale; reply = refl; after = refl; why = inr (known, h) }
report_row b l w new r (report_spent l2 w2 known h) = record { answer = judged.Spent; reply = refl; after = refl; why = inr (known, h) }
report_row b l w new r (report_misfit l2 w2 k known h) = record { answer = judged.Misfit k; reply = refl; after = refl; why = inr (known, h) }
report_row b l w new r (report_weak l2 w2 it need known h) = record { answer = judged.Weak it need; reply = refl; after = refl; why = inr (known, h) }
report_row b l w new r (report_taken l2 w2 known h) = record { answer = judged.Taken; reply = refl; after = refl; why = inr (known, h) }

report_once : (b n m : Book) (l : ℕ) (w : Brought) (r s : Reply) → IsReportRow b l w r n → IsReportRow b l w s m → (r ≡ s) × (n ≡ m)
report_once b n m l w r s x y =
    let same : x.answer ≡ y.answer = ⊎_elim
    (λ a. ⊎_elim (λ o. a.0 ∙ sym o.0) (λ o. let p = a.1 in let q = o.0 in absurd (omega (arith, p, q))) y.why)
    (λ a. ⊎_elim (λ o. let p = a.0 in let q = o.1 in absurd (omega (arith, p, q))) (λ o. judged_once b (node_of b l) w x.answer y.answer a.1 o.1) y.why)
    x.why in
    (x.reply ∙ ap heard.Reported same ∙ sym y.reply, x.after ∙ ap (reported_after b l w) same ∙ sym y.after)

-- the rows of a report of the boss itself
record IsOwnRow (b : Book) (node : ℕ) (w : Report) (r : Reply) (new : Book) : Type 0 where
  answer : Reported
  reply : r ≡ heard.Reported answer
  after : new ≡ own_after b node (Plain w) answer
  why : IsJudged b node (Plain w) answer

own_row : (b : Book) (node : ℕ) (w : Report) (new : Book) (r : Reply) → Step b (event.Own node w) r new → IsOwnRow b node w r new
own_row b node w new r (own_stale n2 w2 h) = record { answer = judged.Stale; reply = refl; after = refl; why = h }
own_row b node w new r (own_spent n2 w2 h) = record { answer = judged.Spent; reply = refl; after = refl; why = h }
own_row b node w new r (own_misfit n2 w2 k h) = record { answer = judged.Misfit k; reply = refl; after = refl; why = h }
own_row b node w new r (own_weak n2 w2 it need h) = record { answer = judged.Weak it need; reply = refl; after = refl; why = h }
own_row b node w new r (own_taken n2 w2 h) = record { answer = judged.Taken; reply = refl; after = refl; why = h }

own_once : (b n m : Book) (node : ℕ) (w : Report) (r s : Reply) → IsOwnRow b node w r n → IsOwnRow b node w s m → (r ≡ s) × (n ≡ m)
own_once b n m node w r s x y =
    let same = judged_once b node (Plain w) x.answer y.answer x.why y.why in
    (x.reply ∙ ap heard.Reported same ∙ sym y.reply, x.after ∙ ap (own_after b node (Plain w)) same ∙ sym y.after)

-- ---- grunts that ask

first_once : (b : Book) (k j : ℕ) → IsFirstFree b k → IsFirstFree b j → k ≡ j
first_once b k j x y = ⊎_elim
    (λ l. ⊎_elim (λ m. absurd (omega (arith, ints, l, m))) (λ m. let e = m.0 in absurd (omega (arith, ints, l, e))) (y.first k x.is_free))
    (λ l. ⊎_elim (λ m. let e = l.0 in absurd (omega (arith, ints, e, m))) (λ m. let p = l.1 in let q = m.1 in omega (arith, p, q)) (y.first k x.is_free))
    (x.first j y.is_free)

record IsAskRow (b : Book) (g : ℕ) (r : Reply) (new : Book) : Type 0 where
  answer : Asked
  reply : r ≡ heard.Asked answer
  why : IsAnswer (released b g) g answer new

ask_row : (b : Book) (g : ℕ) (new : Book) (r : Reply) → Step b (event.Ask g) r new → IsAskRow b g r new
ask_row b g new r (ask_done g2 z) = let e = open_as_before b (of_grunt b.table.leases g) in record { answer = told.Done; reply = refl; why = (e ∙ z, refl) }
ask_row b g new r (ask_spent g2 some spent) =
    let o = of_grunt b.table.leases g in
    record { answer = told.Spent; reply = refl; why = (subst (λ n. 0 < n) (sym (open_as_before b o)) some, settled_as_before b o ∙ spent ∙ sym (budget_as_before b o), refl) }
ask_row b g new r (ask_home g2 some left many) =
    let o = of_grunt b.table.leases g in
    record {
      answer = told.Home;
      reply = refl;
      why = (subst (λ n. 0 < n) (sym (open_as_before b o)) some, subst (λ n. (released b g).settled < n) (sym (budget_as_before b o)) (subst (λ n. n < b.budget) (sym (settled_as_before b o)) left), many, refl);
    }
ask_row b g new r (ask_not_yet g2 work lent) = record { answer = told.NotYet; reply = refl; why = (work, lent, refl) }
ask_row b g new r (ask_leased g2 node next) =
    let o = of_grunt b.table.leases g in
    record { answer = told.Leased (length b.table.leases) node (best_length b); reply = refl; why = (next, sym (released_length b o), sym (best_as_before b o), refl) }

same_leased : (l k : ℕ) (x l2 k2 x2 : ℕ) → l ≡ l2 → k ≡ k2 → x ≡ x2 → told.Leased l k x ≡ told.Leased l2 k2 x2
same_leased l k x l2 k2 x2 a c d = ap (λ (z : ℕ). told.Leased z k x) a ∙ ap (λ (z : ℕ). told.Leased l2 z x) c ∙ ap (λ (z : ℕ). told.Leased l2 k2 z) d

answer_once : (b n m : Book) (g : ℕ) (a o : Asked) → IsAnswer b g a n → IsAnswer b g o m → (a ≡ o) × (n ≡ m)
answer_once b n m g told.Done told.Done h q = (refl, h.1 ∙ sym q.1)
answer_once b n m g told.Done told.Spent h q = let e = h.0 in let f = q.0 in absurd (omega (arith, e, f))
answer_once b n m g told.Done told.Home h q = let e = h.0 in let f = q.0 in absurd (omega (arith, e, f))
answer_once b n m g told.Done told.NotYet h q = let e = h.0 in let f = q.0.some in absurd (omega (arith, e, f))
answer_once b n m g told.Done (told.Leased l2 k2 x2) h q = let e = h.0 in let f = q.0.work.some in absurd (omega (arith, e, f))
answer_once b n m g told.Spent told.Done h q = let e = q.0 in let f = h.0 in absurd (omega (arith, e, f))
answer_once b n m g told.Spent told.Spent h q = (refl, h.2 ∙ sym q.2)
answer_once b n m g told.Spent told.Home h q = let e = h.1 in let f = q.1 in absurd (omega (arith, e, f))
answer_once b n m g told.Spent told.NotYet h q = let e = h.1 in let f = q.0.left in absurd (omega (arith, e, f))
answer_once b n m g told.Spent (told.Leased l2 k2 x2) h q = let e = h.1 in let f = q.0.work.left in absurd (omega (arith, e, f))
answer_once b n m g told.Home told.Done h q = let e = q.0 in let f = h.0 in absurd (omega (arith, e, f))
answer_once b n m g told.Home told.Spent h q = let e = q.1 in let f = h.1 in absurd (omega (arith, e, f))
answer_once b n m g told.Home told.Home h q = (refl, h.3 ∙ sym q.3)
answer_once b n m g told.Home told.NotYet h q = let e = h.2 in let f = q.0.few in absurd (omega (arith, e, f))
answer_once b n m g told.Home (told.Leased l2 k2 x2) h q = let e = h.2 in let f = q.0.work.few in absurd (omega (arith, e, f))
answer_once b n m g told.NotYet told.Done h q = let e = q.0 in let f = h.0.some in absurd (omega (arith, e, f))
answer_once b n m g told.NotYet told.Spent h q = let e = q.1 in let f = h.0.left in absurd (omega (arith, e, f))
answer_once b n m g told.NotYet told.Home h q = let e = q.2 in let f = h.0.few in absurd (omega (arith, e, f))
answer_once b n m g told.NotYet told.NotYet h q = (refl, h.2 ∙ sym q.2)
answer_once b n m g told.NotYet (told.Leased l2 k2 x2) h q = ⊎_elim (λ none. absurd (none _ q.0.first.is_free)) (λ full. let f = q.0.room in absurd (omega (arith, full, f))) h.1
answer_once b n m g (told.Leased l k x) told.Done h q = let e = q.0 in let f = h.0.work.some in absurd (omega (arith, e, f))
answer_once b n m g (told.Leased l k x) told.Spent h q = let e = q.1 in let f = h.0.work.left in absurd (omega (arith, e, f))
answer_once b n m g (told.Leased l k x) told.Home h q = let e = q.2 in let f = h.0.work.few in absurd (omega (arith, e, f))
answer_once b n m g (told.Leased l k x) told.NotYet h q = ⊎_elim (λ none. absurd (none _ h.0.first.is_free)) (λ full. let f = h.0.room in absurd (omega (arith, full, f))) q.1
answer_once b n m g (told.Leased l k x) (told.Leased l2 k2 x2) h q = let e = first_once b k k2 h.0.first q.0.first in (same_leased l k x l2 k2 x2 (h.1 ∙ sym q.1) e (h.2 ∙ sym q.2), h.3 ∙ ap (granted b g) e ∙ sym q.3)

ask_once : (b n m : Book) (g : ℕ) (r s : Reply) → IsAskRow b g r n → IsAskRow b g s m → (r ≡ s) × (n ≡ m)
ask_once b n m g r s x y =
    let e = answer_once (released b g) n m g x.answer y.answer x.why y.why in
    (x.reply ∙ ap heard.Asked e.0 ∙ sym y.reply, e.1)

-- ---- tours that are offered

step_at : (es pairs : List (ℕ × ℕ)) (k : ℕ) (p : ℕ × ℕ) → AreSteps es pairs → slice_get pairs k ≡ Some p → has_step es p.0 p.1 ≡ true
step_at es [] k p h e = absurd (cc)
step_at es (q ∷ qs) zero p h e = let same : q ≡ p = cc in subst (λ (z : ℕ × ℕ). has_step es z.0 z.1 ≡ true) same h.0
step_at es (q ∷ qs) (suc k) p h e = step_at es qs k p h.1 e

step_before : (es pairs : List (ℕ × ℕ)) (k j : ℕ) (p : ℕ × ℕ) → k < j → AreSteps es (take j pairs) → slice_get pairs k ≡ Some p → has_step es p.0 p.1 ≡ true
step_before es [] k j p l h e = absurd (cc)
step_before es (q ∷ qs) k zero p l h e = absurd (omega (arith, l))
step_before es (q ∷ qs) zero (suc j) p l h e = let same : q ≡ p = cc in subst (λ (z : ℕ × ℕ). has_step es z.0 z.1 ≡ true) same h.0
step_before es (q ∷ qs) (suc k) (suc j) p l h e = step_before es qs k j p (omega (arith, l)) h.1 e

pub off_held : (es pairs : List (ℕ × ℕ)) (u v : ℕ) → IsFirstOff es pairs u v → AreSteps es pairs → ⊥
off_held es pairs u v off h = false≢true (sym off.off ∙ step_at es pairs off.place (u, v) h off.here)

some_pair : (p q : ℕ × ℕ) → Some p ≡ Some q → p ≡ q
some_pair p q e = cc

off_once : (es pairs : List (ℕ × ℕ)) (u v x y : ℕ) → IsFirstOff es pairs u v → IsFirstOff es pairs x y → (u ≡ x) × (v ≡ y)
off_once es pairs u v x y a o = ⊎_elim
    (λ l. absurd (false≢true (sym a.off ∙ step_before es pairs a.place o.place (u, v) l o.before a.here)))
    (λ past. ⊎_elim
    (λ e.
    let same : (u, v) ≡ (x, y) = some_pair (u, v) (x, y) (sym a.here ∙ ap (slice_get pairs) e ∙ o.here) in
    (ap (λ (z : ℕ × ℕ). z.0) same, ap (λ (z : ℕ × ℕ). z.1) same))
    (λ ne. absurd (false≢true (sym o.off ∙ step_before es pairs o.place a.place (x, y) (omega (arith, past, ne)) a.before o.here)))
    (cases_eq a.place o.place))
    (cases_lt a.place o.place)

same_off : (u v x y : ℕ) → u ≡ x → v ≡ y → tours.OffFixed u v ≡ tours.OffFixed x y
same_off u v x y e f = ap (λ (z : ℕ). tours.OffFixed z v) e ∙ ap (λ (z : ℕ). tours.OffFixed x z) f

offer_once : (b : Book) (t : List ℕ) (n m : Book) (r s : Reply) → Step b (event.Offer t) r n → Step b (event.Offer t) s m → (r ≡ s) × (n ≡ m)
offer_once b t n m r s (offer_other_size t1 ne) (offer_other_size t2 ne2) = (refl, refl)
offer_once b t n m r s (offer_other_size t1 ne) (offer_off_fixed t2 u v same off) = absurd (ne same)
offer_once b t n m r s (offer_other_size t1 ne) (offer_not_shorter t2 is long) = absurd (ne is.is_tour.all)
offer_once b t n m r s (offer_other_size t1 ne) (offer_better t2 is shorter) = absurd (ne is.is_tour.all)
offer_once b t n m r s (offer_off_fixed t1 u v same off) (offer_other_size t2 ne) = absurd (ne same)
offer_once b t n m r s (offer_off_fixed t1 u v same off) (offer_off_fixed t2 x y same2 off2) = let e = off_once (steps t) b.instance.fixed u v x y off off2 in (ap heard.Offered (same_off u v x y e.0 e.1), refl)
offer_once b t n m r s (offer_off_fixed t1 u v same off) (offer_not_shorter t2 is long) = absurd (off_held _ _ u v off is.holds_fixed)
offer_once b t n m r s (offer_off_fixed t1 u v same off) (offer_better t2 is shorter) = absurd (off_held _ _ u v off is.holds_fixed)
offer_once b t n m r s (offer_not_shorter t1 is long) (offer_other_size t2 ne) = absurd (ne is.is_tour.all)
offer_once b t n m r s (offer_not_shorter t1 is long) (offer_off_fixed t2 u v same off) = absurd (off_held _ _ u v off is.holds_fixed)
offer_once b t n m r s (offer_not_shorter t1 is long) (offer_not_shorter t2 is2 long2) = (refl, refl)
offer_once b t n m r s (offer_not_shorter t1 is long) (offer_better t2 is2 shorter) = absurd (omega (arith, long, shorter))
offer_once b t n m r s (offer_better t1 is shorter) (offer_other_size t2 ne) = absurd (ne is.is_tour.all)
offer_once b t n m r s (offer_better t1 is shorter) (offer_off_fixed t2 u v same off) = absurd (off_held _ _ u v off is.holds_fixed)
offer_once b t n m r s (offer_better t1 is shorter) (offer_not_shorter t2 is2 long) = absurd (omega (arith, long, shorter))
offer_once b t n m r s (offer_better t1 is shorter) (offer_better t2 is2 shorter2) = (refl, refl)

-- ---- leases that end

no_lease_found : {X : Type 0} {x : X} (o : Option X) → o ≡ None → o ≡ Some x → ⊥
no_lease_found o e f = cc

same_lease : (o : Option ℕ) (l k : ℕ) → o ≡ Some l → o ≡ Some k → l ≡ k
same_lease o l k e f = cc

gone_once : (b : Book) (g : ℕ) (n m : Book) (r s : Reply) → Step b (event.Gone g) r n → Step b (event.Gone g) s m → (r ≡ s) × (n ≡ m)
gone_once b g n m r s (gone_idle g1 e) (gone_idle g2 f) = (refl, refl)
gone_once b g n m r s (gone_idle g1 e) (gone_lost g2 l f) = absurd (no_lease_found _ e f)
gone_once b g n m r s (gone_lost g1 l e) (gone_idle g2 f) = absurd (no_lease_found _ f e)
gone_once b g n m r s (gone_lost g1 l e) (gone_lost g2 k f) = let same = same_lease _ l k e f in (ap (λ (z : ℕ). heard.Went (Some z)) same, ap (lost b) same)

expire_once : (b : Book) (l : ℕ) (n m : Book) (r s : Reply) → Step b (event.Expire l) r n → Step b (event.Expire l) s m → (r ≡ s) × (n ≡ m)
expire_once b l n m r s (expire_unknown l1 past) (expire_unknown l2 past2) = (refl, refl)
expire_once b l n m r s (expire_unknown l1 past) (expire_ended l2 known e) = absurd (omega (arith, past, known))
expire_once b l n m r s (expire_unknown l1 past) (expire_lost l2 known e) = absurd (omega (arith, past, known))
expire_once b l n m r s (expire_ended l1 known e) (expire_unknown l2 past) = absurd (omega (arith, past, known))
expire_once b l n m r s (expire_ended l1 known e) (expire_ended l2 known2 e2) = (refl, refl)
expire_once b l n m r s (expire_ended l1 known e) (expire_lost l2 known2 e2) = absurd (false≢true (sym e ∙ e2))
expire_once b l n m r s (expire_lost l1 known e) (expire_unknown l2 past) = absurd (omega (arith, past, known))
expire_once b l n m r s (expire_lost l1 known e) (expire_ended l2 known2 e2) = absurd (false≢true (sym e2 ∙ e))
expire_once b l n m r s (expire_lost l1 known e) (expire_lost l2 known2 e2) = (refl, refl)

-- ---- all events

pub steps_have_no_choice : StepsHaveNoChoice
steps_have_no_choice b n m (event.Ask g) r s x y = ask_once b n m g r s (ask_row b g n r x) (ask_row b g m s y)
steps_have_no_choice b n m (event.Report l w) r s x y = report_once b n m l w r s (report_row b l w n r x) (report_row b l w m s y)
steps_have_no_choice b n m (event.Own node w) r s x y = own_once b n m node w r s (own_row b node w n r x) (own_row b node w m s y)
steps_have_no_choice b n m (event.Gone g) r s x y = gone_once b g n m r s x y
steps_have_no_choice b n m (event.Expire l) r s x y = expire_once b l n m r s x y
steps_have_no_choice b n m (event.Offer t) r s x y = offer_once b t n m r s x y

same_list : (r s : Reply) (rs ss : List Reply) → r ≡ s → rs ≡ ss → r ∷ rs ≡ s ∷ ss
same_list r s rs ss e f = ap (λ (z : Reply). z ∷ rs) e ∙ ap (λ (z : List Reply). s ∷ z) f

pub runs_have_no_choice : RunsHaveNoChoice
runs_have_no_choice b n m es rs ss (run_ends b1) (run_ends b2) = (refl, refl)
runs_have_no_choice b n m es rs ss (run_goes_on b1 x n1 e r es1 rs1 s rest) (run_goes_on b2 y m1 e2 r2 es2 rs2 t more) =
    let one = steps_have_no_choice b x y e r r2 s t in
    let all = runs_have_no_choice y n m es1 rs1 rs2 (subst (λ (z : Book). Run z es1 rs1 n) one.1 rest) more in
    (same_list r r2 rs1 rs2 one.0 all.0, all.1)
