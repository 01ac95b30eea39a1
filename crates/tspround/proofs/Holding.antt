-- Events under the lock.
use Rattle.std.proofs.Common.{◌≡◌, ℕ, ◌+◌, ◌*◌, ◌<◌, ◌≤◌, ◌^◌, Option, Some, None, [], ◌∷◌, ◌++◌, length, refl, sym, subst, arith}
use Rattle.tspdef.specs.Instances.{Instance}
use Rattle.branchx.specs.Path.{Conditions}
use Rattle.treebook.specs.Tree as trees
use Rattle.treebook.specs.Tables.{tree_of}
use Rattle.treebook.specs.Laws.{OpenNodesAreOpenLeaves, ClosingKeepsTables, SplittingKeepsTables}
use Rattle.bossx.specs.declared.brought.Brought.{Brought}
use Rattle.bossx.specs.declared.brought.Brought.TheVariants.{Plain, Hinted, Weighed}
use Rattle.bossx.specs.declared.events.Event.{Event}
use Rattle.bossx.specs.declared.events.Reply.{Reply}
use Rattle.bossx.specs.Books.{Book, Start, best_length, path_in, node_of, content_of, lost_if, released}
use Rattle.leasebook.specs.Leases.{of_grunt}
use Rattle.bossx.specs.Judging.{MayBeTaken}
use Rattle.bossx.specs.Kept.{IsBook, IsTreeOf}
use Rattle.bossx.specs.Steps.{Step, run_ends, run_goes_on, ask_done, ask_spent, ask_home, ask_not_yet, ask_leased, report_unknown, report_stale, report_spent, report_misfit, report_weak, report_taken, own_stale, own_spent, own_misfit, own_weak, own_taken, gone_idle, gone_lost, expire_unknown, expire_ended, expire_lost, offer_other_size, offer_off_fixed, offer_not_shorter, offer_better}
use Rattle.bossx.specs.Laws.{IsChargedFor, StepsCharge, granted_with, taken_with}
use Rattle.worker.specs.Splits.{Splits}
use Rattle.worker.specs.Works.{BeginsAt, cliques}
use Rattle.tspround.specs.Alone.{IsSplitBy}
use Rattle.tspround.specs.Splits.{SplitSince}
use Rattle.tspround.specs.Rounds.{IsReached, MayComeIn, IsOrder, WasLent}
use Rattle.tspround.specs.declared.order.Order.{Order}
use Rattle.tspround.proofs.Reports.{taking_grows}
use Rattle.tspround.proofs.Runs.{same_start, start_then, run_append}
use Rattle.tspround.proofs.Lengths.{best_is_short, path_begins, path_is_few}

-- ---- splits

-- what is brought for a node may be taken exactly where the report in it may
plainly : (b : Book) (node : ℕ) (w : Brought) → MayBeTaken b node w → MayBeTaken b node (Plain (content_of w))
plainly b node (Plain r) may = may
plainly b node (Hinted branch hint) may = record { ready = may.ready; fits = may.fits; suffices = may.suffices }
plainly b node (Weighed p) may = record { ready = may.ready; fits = may.fits.1; suffices = may.suffices }

-- an event that leaves the tree as it is splits nothing
same_splits : (S : Splits) (b new : Book) (r : Reply) → IsChargedFor b new r → taken_with r ≡ 0 → IsSplitBy S b → IsSplitBy S new
same_splits S b new r c none split =
    subst (λ (x : Instance). SplitSince S x new.start.length new.gap (tree_of new.start.nodes) (tree_of new.tree.nodes)) (sym c.start.instance)
    (subst (λ (x : Start). SplitSince S b.instance x.length new.gap (tree_of x.nodes) (tree_of new.tree.nodes)) (sym c.start.start)
    (subst (λ (x : ℕ). SplitSince S b.instance b.start.length x (tree_of b.start.nodes) (tree_of new.tree.nodes)) (sym c.start.gap)
    (subst (λ (x : trees.Table). SplitSince S b.instance b.start.length b.gap (tree_of b.start.nodes) (tree_of x.nodes)) (sym (c.tree none)) split)))

-- an event keeps that each split is one that may be
step_splits : OpenNodesAreOpenLeaves → ClosingKeepsTables → SplittingKeepsTables → StepsCharge → (S : Splits) (b new : Book) (e : Event) (r : Reply) → IsTreeOf b.instance b.tree
    → Step b e r new → MayComeIn S b e → IsSplitBy S b → IsSplitBy S new
step_splits leaves closing splitting charge S b new e r t (report_taken l w known may) fair split =
    taking_grows leaves closing splitting S b (node_of b l) (content_of w) t (plainly b (node_of b l) w may) (fair known) split
step_splits leaves closing splitting charge S b new e r t (own_taken node w may) fair split = taking_grows leaves closing splitting S b node w t may fair split
step_splits leaves closing splitting charge S b new e r t (ask_done g a) fair split = same_splits S b new r (charge b new e r (ask_done g a)) refl split
step_splits leaves closing splitting charge S b new e r t (ask_spent g a c) fair split = same_splits S b new r (charge b new e r (ask_spent g a c)) refl split
step_splits leaves closing splitting charge S b new e r t (ask_home g a c d) fair split = same_splits S b new r (charge b new e r (ask_home g a c d)) refl split
step_splits leaves closing splitting charge S b new e r t (ask_not_yet g a c) fair split = same_splits S b new r (charge b new e r (ask_not_yet g a c)) refl split
step_splits leaves closing splitting charge S b new e r t (ask_leased g n a) fair split = same_splits S b new r (charge b new e r (ask_leased g n a)) refl split
step_splits leaves closing splitting charge S b new e r t (report_unknown l w a) fair split = same_splits S b new r (charge b new e r (report_unknown l w a)) refl split
step_splits leaves closing splitting charge S b new e r t (report_stale l w a c) fair split = same_splits S b new r (charge b new e r (report_stale l w a c)) refl split
step_splits leaves closing splitting charge S b new e r t (report_spent l w a c) fair split = same_splits S b new r (charge b new e r (report_spent l w a c)) refl split
step_splits leaves closing splitting charge S b new e r t (report_misfit l w k a c) fair split = same_splits S b new r (charge b new e r (report_misfit l w k a c)) refl split
step_splits leaves closing splitting charge S b new e r t (report_weak l w i n a c) fair split = same_splits S b new r (charge b new e r (report_weak l w i n a c)) refl split
step_splits leaves closing splitting charge S b new e r t (own_stale n w a) fair split = same_splits S b new r (charge b new e r (own_stale n w a)) refl split
step_splits leaves closing splitting charge S b new e r t (own_spent n w a) fair split = same_splits S b new r (charge b new e r (own_spent n w a)) refl split
step_splits leaves closing splitting charge S b new e r t (own_misfit n w k a) fair split = same_splits S b new r (charge b new e r (own_misfit n w k a)) refl split
step_splits leaves closing splitting charge S b new e r t (own_weak n w i m a) fair split = same_splits S b new r (charge b new e r (own_weak n w i m a)) refl split
step_splits leaves closing splitting charge S b new e r t (gone_idle g a) fair split = same_splits S b new r (charge b new e r (gone_idle g a)) refl split
step_splits leaves closing splitting charge S b new e r t (gone_lost g l a) fair split = same_splits S b new r (charge b new e r (gone_lost g l a)) refl split
step_splits leaves closing splitting charge S b new e r t (expire_unknown l a) fair split = same_splits S b new r (charge b new e r (expire_unknown l a)) refl split
step_splits leaves closing splitting charge S b new e r t (expire_ended l a c) fair split = same_splits S b new r (charge b new e r (expire_ended l a c)) refl split
step_splits leaves closing splitting charge S b new e r t (expire_lost l a c) fair split = same_splits S b new r (charge b new e r (expire_lost l a c)) refl split
step_splits leaves closing splitting charge S b new e r t (offer_other_size u a) fair split = same_splits S b new r (charge b new e r (offer_other_size u a)) refl split
step_splits leaves closing splitting charge S b new e r t (offer_off_fixed u x y a c) fair split = same_splits S b new r (charge b new e r (offer_off_fixed u x y a c)) refl split
step_splits leaves closing splitting charge S b new e r t (offer_not_shorter u a c) fair split = same_splits S b new r (charge b new e r (offer_not_shorter u a c)) refl split
step_splits leaves closing splitting charge S b new e r t (offer_better u a c) fair split = same_splits S b new r (charge b new e r (offer_better u a c)) refl split

-- ---- what the lock keeps

-- the round opens
pub opens : (S : Splits) (b : Book) → IsSplitBy S b → IsReached S b b 0 0
opens S b split = record {
  run = record { events = []; replies = []; run = run_ends b };
  start = same_start b;
  no_longer = omega arith;
  granted = omega arith;
  taken = omega arith;
  splits = split;
}

-- and an event comes
pub reached_by : OpenNodesAreOpenLeaves → ClosingKeepsTables → SplittingKeepsTables → StepsCharge → (S : Splits) (opening b new : Book) (e : Event) (r : Reply) (g t : ℕ)
    → IsTreeOf b.instance b.tree → Step b e r new → MayComeIn S b e → IsReached S opening b g t → IsReached S opening new (g + granted_with r) (t + taken_with r)
reached_by leaves closing splitting charge S opening b new e r g t tree step fair was =
    let c = charge b new e r step in
    let shorter = c.no_longer in
    let before = was.no_longer in
    let grants = c.grants in
    let granted = was.granted in
    let settles = c.settled in
    let taken = was.taken in
    record {
      run = record {
        events = was.run.events ++ e ∷ [];
        replies = was.run.replies ++ r ∷ [];
        run = run_append opening b new was.run.events (e ∷ []) was.run.replies (r ∷ []) was.run.run (run_goes_on b new new e r [] [] step (run_ends new));
      };
      start = start_then opening b new was.start c.start;
      no_longer = omega arith;
      granted = omega (arith, grants, granted);
      taken = omega (arith, settles, taken);
      splits = step_splits leaves closing splitting charge S b new e r tree step fair was.splits;
    }

-- ---- a node that was lent

-- losing a lease leaves the best tour
lent_best_of : (b : Book) (o : Option ℕ) → best_length (lost_if b o) ≡ best_length b
lent_best_of b None = refl
lent_best_of b (Some l) = refl

lent_best : (b : Book) (g : ℕ) → best_length b ≡ best_length (released b g)
lent_best b g = sym (lent_best_of b (of_grunt b.table.leases g))

-- the node that is lent is there, and the best length is told
pub step_lent : (b new : Book) (e : Event) (r : Reply) → Step b e r new → WasLent r new
step_lent b new e r (ask_leased g n next) = (next.first.is_free.is_open.within, lent_best b g)
step_lent b new e r (ask_done g a) = tt
step_lent b new e r (ask_spent g a c) = tt
step_lent b new e r (ask_home g a c d) = tt
step_lent b new e r (ask_not_yet g a c) = tt
step_lent b new e r (report_unknown l w a) = tt
step_lent b new e r (report_stale l w a c) = tt
step_lent b new e r (report_spent l w a c) = tt
step_lent b new e r (report_misfit l w k a c) = tt
step_lent b new e r (report_weak l w i n a c) = tt
step_lent b new e r (report_taken l w a c) = tt
step_lent b new e r (own_stale n w a) = tt
step_lent b new e r (own_spent n w a) = tt
step_lent b new e r (own_misfit n w k a) = tt
step_lent b new e r (own_weak n w i m a) = tt
step_lent b new e r (own_taken n w a) = tt
step_lent b new e r (gone_idle g a) = tt
step_lent b new e r (gone_lost g l a) = tt
step_lent b new e r (expire_unknown l a) = tt
step_lent b new e r (expire_ended l a c) = tt
step_lent b new e r (expire_lost l a c) = tt
step_lent b new e r (offer_other_size u a) = tt
step_lent b new e r (offer_off_fixed u x y a c) = tt
step_lent b new e r (offer_not_shorter u a c) = tt
step_lent b new e r (offer_better u a c) = tt

-- its path and the best length are as a worker wants them
pub ordered : (S : Splits) (opening b : Book) (g t node : ℕ) (o : Order) → IsReached S opening b g t → IsBook b → node < length b.tree.nodes
    → length opening.start.nodes + 2 * opening.budget ≤ 1048576 → o.path ≡ record { n = b.instance.n; conditions = path_in b node } → o.best ≡ best_length b → IsOrder opening o
ordered S opening b g t node o r k within few path best =
    let shorter = k.no_longer in
    let begins = subst (λ (i : Instance). BeginsAt i (path_in b node)) r.start.instance (path_begins b node k) in
    let small = subst (λ (s : Start). length s.nodes + 2 * opening.budget ≤ 1048576) (sym r.start.start) few in
    let little = subst (λ (m : ℕ). length b.start.nodes + 2 * m ≤ 1048576) (sym r.start.budget) small in
    record {
      cities = subst (λ (p : Conditions). p.n ≡ opening.instance.n) (sym path) (subst (λ (i : Instance). b.instance.n ≡ i.n) r.start.instance refl);
      begins = subst (λ (p : Conditions). BeginsAt opening.instance p.conditions) (sym path) begins;
      few = subst (λ (p : Conditions). cliques p.conditions ≤ 2 ^ 21) (sym path) (path_is_few b node k within little);
      best = subst (λ (s : Start). o.best ≤ s.length) r.start.start (subst (λ (m : ℕ). m ≤ b.start.length) (sym best) shorter);
      short = subst (λ (m : ℕ). m < 2 ^ 42) (sym best) (best_is_short b k);
    }
