-- What each event is charged with.
use Rattle.std.proofs.Common.{◌≡◌, ℕ, ◌≤◌, Bool, true, false, cond, Option, Some, None, [], ◌∷◌, length, refl, ◌∙◌, arith, length-set, length-append}
use Rattle.std.proofs.lemmas.List.Sums.{sum_by-cons}
use Rattle.leasebook.specs.declared.lease.LeaseFate.{LeaseFate}
use Rattle.leasebook.specs.declared.lease.LeaseFate.TheVariants.{Lost}
use Rattle.leasebook.specs.declared.lease.Entry.TheVariants.{Take}
use Rattle.leasebook.specs.Leases.{is_held, lease_at, of_grunt, of_node}
use Rattle.leasebook.specs.Log.{Table, entered, new_lease}
use Rattle.bossx.specs.declared.brought.Brought.{Brought}
use Rattle.bossx.specs.declared.brought.Brought.TheVariants.{Plain}
use Rattle.bossx.specs.declared.replies.Reported.TheVariants as judged
use Rattle.bossx.specs.Books.{Book, best_length, lost, lost_if, released, dropped, taken, table_after, end_by, content_of, is_split, fate_by, node_of}
use Rattle.bossx.specs.Steps.{run_ends, run_goes_on, ask_done, ask_spent, ask_home, ask_not_yet, ask_leased, report_unknown, report_stale, report_spent, report_misfit, report_weak, report_taken, own_stale, own_spent, own_misfit, own_weak, own_taken, gone_idle, gone_lost, expire_unknown, expire_ended, expire_lost, offer_other_size, offer_off_fixed, offer_not_shorter, offer_better}
use Rattle.bossx.specs.Laws.{IsSameStart, IsChargedFor, StepsCharge, RunsCharge, taken_with, granted_with}
use Rattle.bossx.specs.declared.events.Reply.{Reply}
use Rattle.bossx.specs.declared.events.Reply.TheVariants as heard

-- nothing but leases changes, and there are as many of them
record OnlyLeases (b new : Book) : Type 0 where
  settled : new.settled ≡ b.settled
  tree : new.tree ≡ b.tree
  grants : length new.table.leases ≡ length b.table.leases
  no_longer : best_length new ≤ best_length b
  start : IsSameStart b new

as_long : (n : ℕ) → n ≤ n
as_long n = omega arith

same_start : (b : Book) → IsSameStart b b
same_start b = record { instance = refl; budget = refl; grunts = refl; gap = refl; start = refl }

unchanged : (b : Book) → OnlyLeases b b
unchanged b = record { settled = refl; tree = refl; grants = refl; no_longer = as_long (best_length b); start = same_start b }

by_end : (b : Book) (l : ℕ) → OnlyLeases b (lost b l)
by_end b l = record { settled = refl; tree = refl; grants = length-set b.table.leases l (record (lease_at b.table.leases l) { fate = Lost }); no_longer = as_long (best_length b); start = record { instance = refl; budget = refl; grunts = refl; gap = refl; start = refl } }

by_end_if : (b : Book) (o : Option ℕ) → OnlyLeases b (lost_if b o)
by_end_if b None = unchanged b
by_end_if b (Some l) = by_end b l

by_drop_if : (b : Book) (l : ℕ) (h : Bool) → OnlyLeases b (cond h (lost b l) b)
by_drop_if b l true = by_end b l
by_drop_if b l false = unchanged b

by_drop : (b : Book) (l : ℕ) → OnlyLeases b (dropped b l)
by_drop b l = by_drop_if b l (is_held (lease_at b.table.leases l))

-- with a reply that grants and takes nothing
charged : (b new : Book) (r : Reply) → taken_with r ≡ 0 → granted_with r ≡ 0 → OnlyLeases b new → IsChargedFor b new r
charged b new r none idle o =
    let s = o.settled in let g = o.grants in
    record { settled = omega (arith, s, none); tree = λ z. o.tree; grants = omega (arith, g, idle); no_longer = o.no_longer; start = o.start }

released_only : (b : Book) (g : ℕ) → OnlyLeases b (released b g)
released_only b g = by_end_if b (of_grunt b.table.leases g)

closed_length : (t : Table) (o by : Option ℕ) (f : LeaseFate) → length (table_after t o by f).leases ≡ length t.leases
closed_length t None by f = refl
closed_length t (Some holder) by f = length-set t.leases holder (record (lease_at t.leases holder) { fate = end_by by holder f })

taken_charged : (b : Book) (by : Option ℕ) (node : ℕ) (w : Brought) → IsChargedFor b (taken b by node w) (heard.Reported judged.Taken)
taken_charged b by node w =
    let len = closed_length (entered b.table (Take node (is_split (content_of w)))) (of_node b.table.leases node) by (fate_by (content_of w)) in
    record { settled = refl; tree = λ z. absurd (omega arith); grants = omega (arith, len); no_longer = as_long (best_length b); start = record { instance = refl; budget = refl; grunts = refl; gap = refl; start = refl } }

pub steps_charge : StepsCharge
steps_charge b new e r (ask_done g z) = charged b _ _ refl refl (released_only b g)
steps_charge b new e r (ask_spent g some spent) = charged b _ _ refl refl (released_only b g)
steps_charge b new e r (ask_home g some left many) = charged b _ _ refl refl (released_only b g)
steps_charge b new e r (ask_not_yet g work lent) = charged b _ _ refl refl (released_only b g)
steps_charge b new e r (ask_leased g node next) =
    let o = released_only b g in
    let s = o.settled in let n = o.grants in
    let len = length-append (released b g).table.leases (new_lease g node ∷ []) in
    record { settled = omega (arith, s); tree = λ z. o.tree; grants = omega (arith, n, len); no_longer = o.no_longer; start = record { instance = o.start.instance; budget = o.start.budget; grunts = o.start.grunts; gap = o.start.gap; start = o.start.start } }
steps_charge b new e r (report_unknown l w past) = charged b _ _ refl refl (unchanged b)
steps_charge b new e r (report_stale l w known stale) = charged b _ _ refl refl (unchanged b)
steps_charge b new e r (report_spent l w known spent) = charged b _ _ refl refl (by_drop b l)
steps_charge b new e r (report_misfit l w m known unfit) = charged b _ _ refl refl (by_drop b l)
steps_charge b new e r (report_weak l w it need known weak) = charged b _ _ refl refl (by_drop b l)
steps_charge b new e r (report_taken l w known may) = taken_charged b (Some l) (node_of b l) w
steps_charge b new e r (own_stale node w stale) = charged b _ _ refl refl (unchanged b)
steps_charge b new e r (own_spent node w spent) = charged b _ _ refl refl (unchanged b)
steps_charge b new e r (own_misfit node w m unfit) = charged b _ _ refl refl (unchanged b)
steps_charge b new e r (own_weak node w it need weak) = charged b _ _ refl refl (unchanged b)
steps_charge b new e r (own_taken node w may) = taken_charged b None node (Plain w)
steps_charge b new e r (gone_idle g idle) = charged b _ _ refl refl (unchanged b)
steps_charge b new e r (gone_lost g l is) = charged b _ _ refl refl (by_end b l)
steps_charge b new e r (expire_unknown l past) = charged b _ _ refl refl (unchanged b)
steps_charge b new e r (expire_ended l known not_held) = charged b _ _ refl refl (unchanged b)
steps_charge b new e r (expire_lost l known held) = charged b _ _ refl refl (by_end b l)
steps_charge b new e r (offer_other_size t other) = charged b _ _ refl refl (unchanged b)
steps_charge b new e r (offer_off_fixed t u v same off) = charged b _ _ refl refl (unchanged b)
steps_charge b new e r (offer_not_shorter t is long) = charged b _ _ refl refl (unchanged b)
steps_charge b new e r (offer_better t is shorter) = record { settled = omega arith; tree = λ z. refl; grants = omega arith; no_longer = omega (arith, shorter); start = record { instance = refl; budget = refl; grunts = refl; gap = refl; start = refl } }

pub runs_charge : RunsCharge
runs_charge b new es rs (run_ends b') = record { settled = omega arith; grants = omega arith; no_longer = as_long (best_length b); start = same_start b }
runs_charge b new es rs (run_goes_on b' mid new' e r es' rs' s rest) =
    let one = steps_charge b mid e r s in
    let more = runs_charge mid new es' rs' rest in
    let s1 = one.settled in let s2 = more.settled in
    let g1 = one.grants in let g2 = more.grants in
    let l1 = one.no_longer in let l2 = more.no_longer in
    let taken_all = sum_by-cons taken_with r rs' in
    let granted_all = sum_by-cons granted_with r rs' in
    record {
      settled = omega (arith, s1, s2, taken_all);
      grants = omega (arith, g1, g2, granted_all);
      no_longer = omega (arith, l1, l2);
      start = record {
        instance = more.start.instance ∙ one.start.instance;
        budget = more.start.budget ∙ one.start.budget;
        grunts = more.start.grunts ∙ one.start.grunts;
        gap = more.start.gap ∙ one.start.gap;
        start = more.start.start ∙ one.start.start;
      };
    }
