-- A book stays one, whatever events come.
use Rattle.std.proofs.Common.{ℕ, ◌<◌, List, arith}
use Rattle.tspdef.specs.Instances.{IsTourOf, length_in}
use Rattle.treebook.specs.Tables.{tree_of}
use Rattle.treebook.proofs.Covering.{less_is_kept}
use Rattle.leasebook.proofs.HolderLemmas.{found}
use Rattle.bossx.specs.Books.{Book, best_length, level, released, with_best, node_of}
use Rattle.bossx.specs.Steps.{ask_done, ask_spent, ask_home, ask_not_yet, ask_leased, report_unknown, report_stale, report_spent, report_misfit, report_weak, report_taken, own_stale, own_spent, own_misfit, own_weak, own_taken, gone_idle, gone_lost, expire_unknown, expire_ended, expire_lost, offer_other_size, offer_off_fixed, offer_not_shorter, offer_better, run_ends, run_goes_on}
use Rattle.bossx.specs.Kept.{IsBook}
use Rattle.bossx.specs.Laws.{StepsKeepBooks, RunsKeepBooks, BooksStaySmall}
use Rattle.bossx.proofs.LendingLemmas.{lost_kept, released_kept, dropped_kept, granted_kept, idle_released}
use Rattle.bossx.proofs.SettlingLemmas.{taken_kept}

-- a tour that is shorter is the best one
pub better_kept : (b : Book) (tour : List ℕ) → IsTourOf b.instance tour → length_in b.instance tour < best_length b → IsBook b → IsBook (with_best b tour)
better_kept b tour is shorter k =
    let top = k.no_longer in
    let c = k.charged in
    record {
      instance = k.instance;
      tour = is;
      no_longer = omega (arith, shorter, top);
      tree = k.tree;
      sound = (less_is_kept b.instance (level b) (level (with_best b tour)) (tree_of b.tree.nodes) (omega (arith, shorter))).sound k.sound;
      keys = k.keys;
      apart = k.apart;
      names = k.names;
      counted = k.counted;
      charged = record { within = c.within; grants = c.grants; entries = c.entries; done = c.done; made = c.made };
      replays = k.replays;
    }

pub step_keeps : StepsKeepBooks
step_keeps b new e r (ask_done g z) k = released_kept b g k
step_keeps b new e r (ask_spent g some spent) k = released_kept b g k
step_keeps b new e r (ask_home g some left many) k = released_kept b g k
step_keeps b new e r (ask_not_yet g work lent) k = released_kept b g k
step_keeps b new e r (ask_leased g node next) k = granted_kept (released b g) g node (idle_released b g k) next (released_kept b g k)
step_keeps b new e r (report_unknown l w past) k = k
step_keeps b new e r (report_stale l w known stale) k = k
step_keeps b new e r (report_spent l w known spent) k = dropped_kept b l k
step_keeps b new e r (report_misfit l w m known unfit) k = dropped_kept b l k
step_keeps b new e r (report_weak l w it need known weak) k = dropped_kept b l k
step_keeps b new e r (report_taken l w known may) k = taken_kept b _ (node_of b l) w may k
step_keeps b new e r (own_stale node w stale) k = k
step_keeps b new e r (own_spent node w spent) k = k
step_keeps b new e r (own_misfit node w m unfit) k = k
step_keeps b new e r (own_weak node w it need weak) k = k
step_keeps b new e r (own_taken node w may) k = taken_kept b _ node _ may k
step_keeps b new e r (gone_idle g idle) k = k
step_keeps b new e r (gone_lost g l is) k = let f = found (λ x. x.grunt) b.table.leases g l is in lost_kept b l f.0 f.1 k
step_keeps b new e r (expire_unknown l past) k = k
step_keeps b new e r (expire_ended l known not_held) k = k
step_keeps b new e r (expire_lost l known held) k = lost_kept b l known held k
step_keeps b new e r (offer_other_size t other) k = k
step_keeps b new e r (offer_off_fixed t u v same off) k = k
step_keeps b new e r (offer_not_shorter t is long) k = k
step_keeps b new e r (offer_better t is shorter) k = better_kept b t is shorter k

pub run_keeps : RunsKeepBooks
run_keeps b new es rs (run_ends b') k = k
run_keeps b new es rs (run_goes_on b' mid new' e r es' rs' s rest) k = run_keeps mid new es' rs' rest (step_keeps b mid e r s k)

pub books_stay_small : BooksStaySmall
books_stay_small b k =
    let c = k.charged in
    let w = c.within in let e = c.entries in let g = c.grants in let m = c.made in
    record { settled = w; grants = g; nodes = omega (arith, w, m); entries = omega (arith, e, g, w) }
