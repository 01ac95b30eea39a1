-- What one more entry does to what a log gives.
use Rattle.std.proofs.Common.{◌≡◌, ◌+◌, Bool, cond, List, [], ◌∷◌, ◌++◌, sym, ◌∙◌, ap, arith, refl, count_by}
use Rattle.std.proofs.lemmas.List.Sums.{sum_by-append}
use Rattle.leasebook.specs.declared.lease.Lease.{Lease}
use Rattle.leasebook.specs.declared.lease.Entry.{Entry}
use Rattle.leasebook.specs.Log.{Replayed, after, replay, leases_after, leases_of, EntriesAct, LeasesStandAlone}

pub entries_act : EntriesAct
entries_act t [] e = refl
entries_act t (x ∷ es) e = entries_act (after t x) es e

-- the leases depend on the leases before the log alone
same_leases : (s t : Replayed) (log : List Entry) → s.leases ≡ t.leases → (replay s log).leases ≡ (replay t log).leases
same_leases s t [] same = same
same_leases s t (e ∷ es) same = same_leases (after s e) (after t e) es (ap (λ (ls : List Lease). leases_after ls e) same)

pub leases_stand_alone : LeasesStandAlone
leases_stand_alone kinds log = same_leases (record { kinds = kinds; leases = []; settled = 0 }) (record { kinds = []; leases = []; settled = 0 }) log refl

-- the leases of a log with one more entry
pub leases_more : (leases : List Lease) (log : List Entry) (e : Entry) → leases ≡ leases_of log → leases_after leases e ≡ leases_of (log ++ e ∷ [])
leases_more leases log e same = ap (λ (ls : List Lease). leases_after ls e) same ∙ sym (ap (λ (t : Replayed). t.leases) (entries_act (record { kinds = []; leases = []; settled = 0 }) log e))

pub counted : (p : Entry → Bool) (log : List Entry) (e : Entry) → count_by p (log ++ e ∷ []) ≡ count_by p log + cond (p e) 1 0
counted p log e = let s = sum_by-append (λ (x : Entry). cond (p x) 1 0) log (e ∷ []) in omega (arith, s)
