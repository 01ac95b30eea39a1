-- What a table keeps as entries come.
use Rattle.std.proofs.Common.{◌≡◌, ℕ, ◌+◌, ◌-◌, ◌<◌, ◌^◌, Bool, true, false, cond, Option, None, Some, List, [], ◌∷◌, ◌++◌, length, set, get_or, sym, subst, arith, refl, length-set, length-append, count_by}
use Rattle.std.proofs.lemmas.List.Sums.{count_by-le-length}
use Rattle.leasebook.specs.declared.lease.LeaseFate.{LeaseFate}
use Rattle.leasebook.specs.declared.lease.LeaseFate.TheVariants.{Held, Closed, Split, Lost}
use Rattle.leasebook.specs.declared.lease.Lease.{Lease}
use Rattle.leasebook.specs.declared.lease.Entry.{Entry}
use Rattle.leasebook.specs.declared.lease.Entry.TheVariants.{Grant, End, Take}
use Rattle.leasebook.specs.Leases.{of_node, of_grunt, is_held, is_held_fate, is_lost, is_lost_fate, lease_at}
use Rattle.leasebook.specs.Log.{leases_after, new_lease, is_grant, is_end, is_loss}
use Rattle.leasebook.specs.TableInside.{AreKept, AreBelow}
use Rattle.leasebook.proofs.LogLemmas.{counted, leases_more}
use Rattle.leasebook.proofs.HolderLemmas.{ended, holders_granted, below_granted, apart_granted, counts_granted, apart_ended, holders_ended, nodes_differ, grunts_differ, below_ended, counts_ended}

-- an array that was written has its length
same_length : (field : Lease → ℕ) (leases : List Lease) (holders : List (Option ℕ)) (k : ℕ) (o : Option ℕ) → AreBelow field leases (length holders) → AreBelow field leases (length (set holders k o))
same_length field leases holders k o below l within = subst (λ n. field (lease_at leases l) < n) (sym (length-set holders k o)) (below l within)

pub nothing_kept : (by_node by_grunt : List (Option ℕ)) → ((k : ℕ) → k < length by_node → get_or by_node k None ≡ None) → ((k : ℕ) → k < length by_grunt → get_or by_grunt k None ≡ None)
    → AreKept [] [] by_node by_grunt 0 0
nothing_kept by_node by_grunt no_node no_grunt = record {
  nodes = no_node;
  grunts = no_grunt;
  nodes_below = λ l within. absurd (omega arith);
  grunts_below = λ l within. absurd (omega arith);
  apart = λ i j d less within. absurd (omega arith);
  are_held = refl;
  are_lost = refl;
  few = omega arith;
  logged = refl;
  counts = record { granted = refl; ended = refl; losses = refl };
}

pub granted_kept : (leases : List Lease) (log : List Entry) (by_node by_grunt : List (Option ℕ)) (held lost grunt node : ℕ) → AreKept leases log by_node by_grunt held lost
    → grunt < length by_grunt → node < length by_node → of_grunt leases grunt ≡ None → of_node leases node ≡ None → length leases + 1 < 2 ^ 32
    → AreKept (leases_after leases (Grant grunt node)) (log ++ Grant grunt node ∷ []) (set by_node node (Some (length leases))) (set by_grunt grunt (Some (length leases))) (held + 1) lost
granted_kept leases log by_node by_grunt held lost grunt node kept grunt_in node_in grunt_free node_free few =
    let len = length-append leases (new_lease grunt node ∷ []) in
    let n = counts_granted is_held leases grunt node in
    let m = counts_granted is_lost leases grunt node in
    let g = counted is_grant log (Grant grunt node) in
    let e = counted is_end log (Grant grunt node) in
    let s = counted is_loss log (Grant grunt node) in
    let counts = kept.counts in
    let h = kept.are_held in
    let l = kept.are_lost in
    record {
      nodes = holders_granted (λ x. x.node) leases grunt node by_node node_in node_free kept.nodes;
      grunts = holders_granted (λ x. x.grunt) leases grunt node by_grunt grunt_in grunt_free kept.grunts;
      nodes_below = same_length (λ x. x.node) (leases_after leases (Grant grunt node)) by_node node (Some (length leases)) (below_granted (λ x. x.node) leases grunt node (length by_node) node_in kept.nodes_below);
      grunts_below = same_length (λ x. x.grunt) (leases_after leases (Grant grunt node)) by_grunt grunt (Some (length leases)) (below_granted (λ x. x.grunt) leases grunt node (length by_grunt) grunt_in kept.grunts_below);
      apart = apart_granted leases grunt node grunt_free node_free kept.apart;
      are_held = omega (arith, n, h);
      are_lost = omega (arith, m, l);
      few = omega (arith, len, few);
      logged = leases_more leases log (Grant grunt node) kept.logged;
      counts = record {
        granted = let a = counts.granted in omega (arith, len, g, a);
        ended = let a = counts.ended in omega (arith, e, g, a);
        losses = let a = counts.losses in omega (arith, s, a);
      };
    }

held_is_one : (b : Bool) → b ≡ true → ◌≡◌ {A = ℕ} (cond b 1 0) 1
held_is_one true e = refl
held_is_one false e = cc

ended_is_none : (b : Bool) → b ≡ false → ◌≡◌ {A = ℕ} (cond b 1 0) 0
ended_is_none true e = cc
ended_is_none false e = refl

not_both : (f : LeaseFate) → is_held_fate f ≡ true → ◌≡◌ {A = ℕ} (cond (is_lost_fate f) 1 0) 0
not_both Held e = refl
not_both Closed e = refl
not_both Split e = refl
not_both Lost e = cc

fewer_held : (leases : List Lease) (l : ℕ) (fate : LeaseFate) → is_held_fate fate ≡ false → l < length leases → is_held (lease_at leases l) ≡ true
    → count_by is_held (leases_after leases (End l fate)) + 1 ≡ count_by is_held leases
fewer_held leases l fate ends within is =
    let n = counts_ended is_held leases l fate within in
    let one = held_is_one (is_held (lease_at leases l)) is in
    let none = ended_is_none (is_held_fate fate) ends in
    omega (arith, n, one, none)

more_lost : (leases : List Lease) (l : ℕ) (fate : LeaseFate) → l < length leases → is_held (lease_at leases l) ≡ true
    → count_by is_lost (leases_after leases (End l fate)) ≡ count_by is_lost leases + cond (is_lost_fate fate) 1 0
more_lost leases l fate within is =
    let m = counts_ended is_lost leases l fate within in
    let zero = not_both (lease_at leases l).fate is in
    omega (arith, m, zero)

pub lost_fits : (leases : List Lease) (log : List Entry) (by_node by_grunt : List (Option ℕ)) (held lost l : ℕ) (fate : LeaseFate) → AreKept leases log by_node by_grunt held lost
    → l < length leases → is_held (lease_at leases l) ≡ true → lost + cond (is_lost_fate fate) 1 0 < 2 ^ 32
lost_fits leases log by_node by_grunt held lost l fate kept within is =
    let m = more_lost leases l fate within is in
    let most = count_by-le-length is_lost (leases_after leases (End l fate)) in
    let len = length-set leases l (ended leases l fate) in
    let a = kept.are_lost in
    let few = kept.few in
    omega (arith, m, most, len, a, few)

pub some_held : (leases : List Lease) (log : List Entry) (by_node by_grunt : List (Option ℕ)) (held lost l : ℕ) → AreKept leases log by_node by_grunt held lost
    → l < length leases → is_held (lease_at leases l) ≡ true → 0 < held
some_held leases log by_node by_grunt held lost l kept within is =
    let n = fewer_held leases l Lost refl within is in
    let a = kept.are_held in
    omega (arith, n, a)

pub ended_kept : (leases : List Lease) (log : List Entry) (by_node by_grunt : List (Option ℕ)) (held lost l : ℕ) (fate : LeaseFate) → AreKept leases log by_node by_grunt held lost
    → l < length leases → is_held (lease_at leases l) ≡ true → is_held_fate fate ≡ false
    → AreKept (leases_after leases (End l fate)) (log ++ End l fate ∷ []) (set by_node (lease_at leases l).node None) (set by_grunt (lease_at leases l).grunt None) (held - 1) (lost + cond (is_lost_fate fate) 1 0)
ended_kept leases log by_node by_grunt held lost l fate kept within is ends =
    let len = length-set leases l (ended leases l fate) in
    let n = fewer_held leases l fate ends within is in
    let m = more_lost leases l fate within is in
    let g = counted is_grant log (End l fate) in
    let e = counted is_end log (End l fate) in
    let s = counted is_loss log (End l fate) in
    let counts = kept.counts in
    let h = kept.are_held in
    let a = kept.are_lost in
    let few = kept.few in
    record {
      nodes = holders_ended (λ x. x.node) leases l fate by_node nodes_differ ends within is kept.apart kept.nodes_below kept.nodes;
      grunts = holders_ended (λ x. x.grunt) leases l fate by_grunt grunts_differ ends within is kept.apart kept.grunts_below kept.grunts;
      nodes_below = same_length (λ x. x.node) (leases_after leases (End l fate)) by_node (lease_at leases l).node None (below_ended (λ x. x.node) leases l fate (length by_node) refl within kept.nodes_below);
      grunts_below = same_length (λ x. x.grunt) (leases_after leases (End l fate)) by_grunt (lease_at leases l).grunt None (below_ended (λ x. x.grunt) leases l fate (length by_grunt) refl within kept.grunts_below);
      apart = apart_ended leases l fate ends kept.apart;
      are_held = omega (arith, n, h);
      are_lost = omega (arith, m, a);
      few = omega (arith, len, few);
      logged = leases_more leases log (End l fate) kept.logged;
      counts = record {
        granted = let b = counts.granted in omega (arith, len, g, b);
        ended = let b = counts.ended in omega (arith, e, g, b, n, h);
        losses = let b = counts.losses in omega (arith, s, b);
      };
    }

pub taken_kept : (leases : List Lease) (log : List Entry) (by_node by_grunt : List (Option ℕ)) (held lost node : ℕ) (split : Bool) → AreKept leases log by_node by_grunt held lost
    → AreKept leases (log ++ Take node split ∷ []) by_node by_grunt held lost
taken_kept leases log by_node by_grunt held lost node split kept =
    let g = counted is_grant log (Take node split) in
    let e = counted is_end log (Take node split) in
    let s = counted is_loss log (Take node split) in
    let counts = kept.counts in
    record {
      nodes = kept.nodes;
      grunts = kept.grunts;
      nodes_below = kept.nodes_below;
      grunts_below = kept.grunts_below;
      apart = kept.apart;
      are_held = kept.are_held;
      are_lost = kept.are_lost;
      few = kept.few;
      logged = leases_more leases log (Take node split) kept.logged;
      counts = record {
        granted = let a = counts.granted in omega (arith, g, a);
        ended = let a = counts.ended in omega (arith, e, g, a);
        losses = let a = counts.losses in omega (arith, s, a);
      };
    }
