-- What follows where nothing fails.
use Rattle.std.proofs.Common.{◌≡◌, ℕ, List, sym, subst, ◌∙◌, inl, inr, Option, Some, None, Ok, true, arith, eq-eqb}
use Rattle.std.specs.Prelude.{◌==◌}
use Rattle.std.proofs.lemmas.Bool.{cond-true, cond-false, ne_eqb}
use Rattle.ports.specs.Outside.{BothTell, WhereTold, Cause}
use Rattle.ports.specs.Desk.{Told}
use Rattle.tspdef.specs.Instances.{Instance}
use Rattle.tspinst.specs.Texts.{InstanceText}
use Rattle.certdef.specs.Accepted.{IsAcceptedText}
use Rattle.ports.specs.Slots.{SlotsTold}
use Rattle.slotstore.specs.Store.{loaded}
use Rattle.tspdef.specs.Trees.{Tree}
use Rattle.resume_form.specs.Resumed.{IsResumed, IsRefused, OneReading}
use Rattle.tspwords.specs.Program.{instance_word, budget_of, gap_of, resumes, grunts_of}
use Rattle.verification.specs.Headline.{Verified, Within, BadInstance, Refused}
use Rattle.verification.specs.Paths.{Paths}
use Rattle.verification.specs.Counts.{IsCalm, IsTold}
use Rattle.tspengine.specs.Calls.{Call, DeskTold}
use Rattle.tspengine.specs.Starts.{Start, Begins, GoesOnWith}
use Rattle.tspengine.specs.Solving.{BadRestart, IsRefusedLoad, MayBegin, SolveCompletes, RefusedCompletes}
use Rattle.tspengine.specs.Verifying.{paths_of, VerifyCompletes, AcceptedCompletes}
use Rattle.tspengine.specs.Touring.{TourCompletes}
use Rattle.tspengine.specs.Benching.{BenchCompletes, SmallBenchCompletes}
use Rattle.onetree.specs.Certificates.{IsAccepted}
use Rattle.tspengine.specs.Bounding.{BoundCompletes, CheckboundCompletes, AcceptedBoundCompletes}
use Rattle.tspengine.specs.Replaying.{ReplayCompletes}
use Rattle.tspengine.proofs.Tapes.{told_instance, told_good}
use Rattle.tspengine.specs.Runs.{Ends, HasCauses, Runs}
use Rattle.tspengine.specs.declared.statuses.Status.{Status}
use Rattle.tspengine.specs.declared.statuses.Status.TheVariants as status

no_fault : (failed : Type 0) (before after : ℕ) → Cause failed before after → IsCalm before after → failed → ⊥
no_fault failed before after cause calm is = let rose = cause.rose is in absurd (omega arith)

-- an instance's text is not refused
not_bad : (path : List ℕ) (i : Instance) (a b : Option Told) → IsTold (λ t. InstanceText t.instance i) a → BothTell (BadInstance path) a b → ⊥
not_bad path i None b told run = told
not_bad path i (Some t) None told run = run
not_bad path i (Some t) (Some u) told run = let e = sym told ∙ run.first_refusal in cc

one_instance : (bytes : List ℕ) (i j : Instance) → InstanceText bytes i → InstanceText bytes j → i ≡ j
one_instance bytes i j p q = let e : Ok i ≡ Ok j = sym p ∙ q in cc

-- a body that is read is not refused
not_refused_body : OneReading → (i : Instance) (c : Call) → MayBegin c i → BadRestart c → DeskTold (λ t. InstanceText t.instance i) c → ⊥
not_refused_body reading i c may bad told = go c.before.slots (may bad.asked) bad.refused
  where
    same : (a : Option Told) → IsTold (λ t. InstanceText t.instance i) a → WhereTold (λ t. InstanceText t.instance bad.instance) a → bad.instance ≡ i
    same None x y = absurd x
    same (Some t) x y = one_instance t.instance bad.instance i y x

    of_body : (body : List ℕ) (o : Option (List ℕ)) → o ≡ Some body → IsRefusedLoad bad.instance (budget_of c.words) (gap_of c.words) o bad.refusal bad.line → IsRefused bad.instance (budget_of c.words) (gap_of c.words) body bad.refusal bad.line
    of_body body None e x = absurd cc
    of_body body (Some b) e x = let f : b ≡ body = cc in subst (λ (y : List ℕ). IsRefused bad.instance (budget_of c.words) (gap_of c.words) y bad.refusal bad.line) f x

    go : (s : Option SlotsTold)
        → IsTold (λ t. (body : List ℕ) × ((loaded t ≡ Some body) × ((tree : Tree) × (tour : List ℕ) × IsResumed i (budget_of c.words) (gap_of c.words) body tree tour))) s
        → WhereTold (λ t. IsRefusedLoad bad.instance (budget_of c.words) (gap_of c.words) (loaded t) bad.refusal bad.line) s → ⊥
    go None x y = x
    go (Some t) (body, (e, (tree, tour, is))) y =
        reading i (budget_of c.words) (gap_of c.words) body tree tour bad.refusal bad.line is
        (subst (λ (j : Instance). IsRefused j (budget_of c.words) (gap_of c.words) body bad.refusal bad.line) (same c.before.desk told bad.bytes_read) (of_body body (loaded t) e y))

solve_completes : OneReading → (s : Status) (c : Call) → Ends s c → HasCauses s c → SolveCompletes s c
solve_completes reading s c ends causes = λ i call told may calm still. elim (ends.solve call) [
  | inl (e, x) ↦ inl e
  | inr (inl (e, x)) ↦ inr (inl e)
  | inr (inr (inl (e, x))) ↦ inr (inr (inl e))
  | inr (inr (inr (inl (e, x)))) ↦ absurd (not_bad (instance_word c.words) i c.before.desk c.after.desk told x.desk)
  | inr (inr (inr (inr (inl (e, x))))) ↦ absurd (not_refused_body reading i c may x told)
  | inr (inr (inr (inr (inr (inl (e, x)))))) ↦ absurd (no_fault (s ≡ status.ReadFault) _ _ causes.reads calm.reads e)
  | inr (inr (inr (inr (inr (inr (inl (e, x))))))) ↦ absurd (no_fault (s ≡ status.WriteFault) _ _ causes.writes calm.writes e)
  | inr (inr (inr (inr (inr (inr (inr (inl (e, x)))))))) ↦ absurd (no_fault (s ≡ status.StoreFault) _ _ causes.store still e)
  | inr (inr (inr (inr (inr (inr (inr (inr (e, x)))))))) ↦ inr (inr (inr e))
]

-- a search that began with a body had one
not_begun : OneReading → (i : Instance) (c : Call) (j : Instance) (st : Start) (refusal line : ℕ) → resumes c.words ≡ true → Begins c j st → WhereTold (λ t. InstanceText t.instance j) c.before.desk
    → DeskTold (λ t. InstanceText t.instance i) c → IsTold (λ t. IsRefusedLoad i (budget_of c.words) (gap_of c.words) (loaded t) refusal line) c.before.slots → ⊥
not_begun reading i c j st refusal line asked begins read told refused = go c.before.slots refused (begins.resumed asked)
  where
    same : (a : Option Told) → IsTold (λ t. InstanceText t.instance i) a → WhereTold (λ t. InstanceText t.instance j) a → j ≡ i
    same None x y = absurd x
    same (Some t) x y = one_instance t.instance j i y x

    of_body : (body : List ℕ) (o : Option (List ℕ)) → o ≡ Some body → IsRefusedLoad i (budget_of c.words) (gap_of c.words) o refusal line → IsRefused i (budget_of c.words) (gap_of c.words) body refusal line
    of_body body None e x = absurd cc
    of_body body (Some b) e x = let f : b ≡ body = cc in subst (λ (y : List ℕ). IsRefused i (budget_of c.words) (gap_of c.words) y refusal line) f x

    go : (s : Option SlotsTold) → IsTold (λ t. IsRefusedLoad i (budget_of c.words) (gap_of c.words) (loaded t) refusal line) s
        → WhereTold (λ t. (body : List ℕ) × ((loaded t ≡ Some body) × GoesOnWith j (budget_of c.words) (gap_of c.words) body st)) s → ⊥
    go None x y = x
    go (Some t) x (body, (e, on)) =
        reading i (budget_of c.words) (gap_of c.words) body st.tree on.tour refusal line
        (subst (λ (k : Instance). IsResumed k (budget_of c.words) (gap_of c.words) body st.tree on.tour) (same c.before.desk told read) on.resumed)
        (of_body body (loaded t) e x)

refused_completes : OneReading → (s : Status) (c : Call) → Ends s c → HasCauses s c → RefusedCompletes s c
refused_completes reading s c ends causes = λ i refusal line call asked told refused calm still. elim (ends.solve call) [
  | inl (e, x) ↦ absurd (not_begun reading i c x.instance x.start refusal line asked x.begins x.bytes_read told refused)
  | inr (inl (e, x)) ↦ absurd (not_begun reading i c x.instance x.start refusal line asked x.begins x.bytes_read told refused)
  | inr (inr (inl (e, x))) ↦ absurd (not_begun reading i c x.instance x.start refusal line asked x.begins x.bytes_read told refused)
  | inr (inr (inr (inl (e, x)))) ↦ absurd (not_bad (instance_word c.words) i c.before.desk c.after.desk told x.desk)
  | inr (inr (inr (inr (inl (e, x))))) ↦ inl e
  | inr (inr (inr (inr (inr (inl (e, x)))))) ↦ absurd (no_fault (s ≡ status.ReadFault) _ _ causes.reads calm.reads e)
  | inr (inr (inr (inr (inr (inr (inl (e, x))))))) ↦ absurd (no_fault (s ≡ status.WriteFault) _ _ causes.writes calm.writes e)
  | inr (inr (inr (inr (inr (inr (inr (inl (e, x)))))))) ↦ absurd (no_fault (s ≡ status.StoreFault) _ _ causes.store still e)
  | inr (inr (inr (inr (inr (inr (inr (inr (e, x)))))))) ↦ inr e
]

tour_completes : (s : Status) (c : Call) → Ends s c → HasCauses s c → TourCompletes s c
tour_completes s c ends causes = λ i call told calm. elim (ends.tour call) [
  | inl (e, x) ↦ inl e
  | inr (inl (e, x)) ↦ absurd (not_bad (instance_word c.words) i c.before.desk c.after.desk told x.desk)
  | inr (inr (inl (e, x))) ↦ absurd (no_fault (s ≡ status.ReadFault) _ _ causes.reads calm.reads e)
  | inr (inr (inr (inl (e, x)))) ↦ absurd (no_fault (s ≡ status.WriteFault) _ _ causes.writes calm.writes e)
  | inr (inr (inr (inr (e, x)))) ↦ inr e
]

bench_completes : (s : Status) (c : Call) → Ends s c → HasCauses s c → BenchCompletes s c
bench_completes s c ends causes = λ call calm. elim (ends.bench call) [
  | inl (e, x) ↦ inl e
  | inr (inl (e, x, large)) ↦ inr (inl e)
  | inr (inr (inl (e, x))) ↦ absurd (no_fault (s ≡ status.WriteFault) _ _ causes.writes calm.writes e)
  | inr (inr (inr (e, x))) ↦ inr (inr e)
]

small_bench_completes : (s : Status) (c : Call) → Ends s c → HasCauses s c → SmallBenchCompletes s c
small_bench_completes s c ends causes = λ call small calm. elim (ends.bench call) [
  | inl (e, x) ↦ inl e
  | inr (inl (e, x, large)) ↦ absurd (large small)
  | inr (inr (inl (e, x))) ↦ absurd (no_fault (s ≡ status.WriteFault) _ _ causes.writes calm.writes e)
  | inr (inr (inr (e, x))) ↦ inr e
]

-- ---- a proof

abbrev AcceptedAs : Instance → ℕ → ℕ → Told → Type 0
AcceptedAs i l b t = InstanceText t.instance i × IsAcceptedText i t.proof_in l b

-- an accepted one is not refused
not_refused : (paths : Paths) (i : Instance) (l m : ℕ) (a b : Option Told) → IsTold (AcceptedAs i l m) a → BothTell (Refused paths) a b → ⊥
not_refused paths i l m None b told run = told
not_refused paths i l m (Some t) None told run = run
not_refused paths i l m (Some t) (Some u) told run =
    run.accepted_with_no_length l m (subst (λ (x : Instance). IsAcceptedText x t.proof_in l m) (one_instance t.instance i run.instance told.0 run.instance_text) told.1)

-- it is verified with its own length and bound
as_verified : (paths : Paths) (i : Instance) (l m : ℕ) (a b : Option Told) → IsTold (AcceptedAs i l m) a → BothTell (Verified paths) a b → m ≡ l
as_verified paths i l m None b told run = absurd told
as_verified paths i l m (Some t) None told run = absurd run
as_verified paths i l m (Some t) (Some u) told run =
    let only = run.accepted_with_no_other l m (subst (λ (x : Instance). IsAcceptedText x t.proof_in l m) (one_instance t.instance i run.instance told.0 run.instance_text) told.1) in
    only.1 ∙ sym only.0

as_within : (paths : Paths) (i : Instance) (l m : ℕ) (a b : Option Told) → IsTold (AcceptedAs i l m) a → BothTell (Within paths) a b → m ≡ l → ⊥
as_within paths i l m None b told run e = told
as_within paths i l m (Some t) None told run e = run
as_within paths i l m (Some t) (Some u) told run e =
    let only = run.accepted_with_no_other l m (subst (λ (x : Instance). IsAcceptedText x t.proof_in l m) (one_instance t.instance i run.instance told.0 run.instance_text) told.1) in
    let x = only.0 in let y = only.1 in let below = run.below in omega arith

instance_told : (i : Instance) (l m : ℕ) (a : Option Told) → IsTold (AcceptedAs i l m) a → IsTold (λ t. InstanceText t.instance i) a
instance_told i l m None told = told
instance_told i l m (Some t) told = told.0

verify_completes : (s : Status) (c : Call) → Ends s c → HasCauses s c → VerifyCompletes s c
verify_completes s c ends causes = λ i call told calm. elim (ends.verify call).desk [
  | inl (e, x) ↦ inl e
  | inr (inl (e, x)) ↦ inr (inl e)
  | inr (inr (inl (e, x))) ↦ inr (inr (inl e))
  | inr (inr (inr (inl (e, x)))) ↦ absurd (not_bad (instance_word c.words) i c.before.desk c.after.desk told x)
  | inr (inr (inr (inr (inl (e, x))))) ↦ absurd (no_fault (s ≡ status.ReadFault) _ _ causes.reads calm.reads e)
  | inr (inr (inr (inr (inr (inl (e, x)))))) ↦ absurd (no_fault (s ≡ status.WriteFault) _ _ causes.writes calm.writes e)
  | inr (inr (inr (inr (inr (inr (e, x)))))) ↦ inr (inr (inr e))
]

accepted_completes : (s : Status) (c : Call) → Ends s c → HasCauses s c → AcceptedCompletes s c
accepted_completes s c ends causes = λ i l m call told calm. elim (ends.verify call).desk [
  | inl (e, x) ↦ inl (e ∙ sym (cond-true (m == l) status.Verified status.VerifiedWithin (eq-eqb m l (as_verified (paths_of c.words) i l m c.before.desk c.after.desk told x))))
  | inr (inl (e, x)) ↦ inl (e ∙ sym (cond-false (m == l) status.Verified status.VerifiedWithin (ne_eqb m l (as_within (paths_of c.words) i l m c.before.desk c.after.desk told x))))
  | inr (inr (inl (e, x))) ↦ absurd (not_refused (paths_of c.words) i l m c.before.desk c.after.desk told x)
  | inr (inr (inr (inl (e, x)))) ↦ absurd (not_bad (instance_word c.words) i c.before.desk c.after.desk (instance_told i l m c.before.desk told) x)
  | inr (inr (inr (inr (inl (e, x))))) ↦ absurd (no_fault (s ≡ status.ReadFault) _ _ causes.reads calm.reads e)
  | inr (inr (inr (inr (inr (inl (e, x)))))) ↦ absurd (no_fault (s ≡ status.WriteFault) _ _ causes.writes calm.writes e)
  | inr (inr (inr (inr (inr (inr (e, x)))))) ↦ inr e
]

-- ---- bounds

bound_completes : (s : Status) (c : Call) → Ends s c → HasCauses s c → BoundCompletes s c
bound_completes s c ends causes = λ i call told calm. elim (ends.bound call) [
  | inl (e, x) ↦ inl e
  | inr (inl (e, x)) ↦ absurd (not_bad (instance_word c.words) i c.before.desk c.after.desk told x.desk)
  | inr (inr (inl (e, x))) ↦ absurd (no_fault (s ≡ status.ReadFault) _ _ causes.reads calm.reads e)
  | inr (inr (inr (inl (e, x)))) ↦ absurd (no_fault (s ≡ status.WriteFault) _ _ causes.writes calm.writes e)
  | inr (inr (inr (inr (e, x)))) ↦ inr e
]

checkbound_completes : (s : Status) (c : Call) → Ends s c → HasCauses s c → CheckboundCompletes s c
checkbound_completes s c ends causes = λ i call told calm. elim (ends.checkbound call) [
  | inl (e, x) ↦ inl e
  | inr (inl (e, x)) ↦ inr (inl e)
  | inr (inr (inl (e, x))) ↦ absurd (not_bad (instance_word c.words) i c.before.desk c.after.desk told x.desk)
  | inr (inr (inr (inl (e, x)))) ↦ absurd (no_fault (s ≡ status.ReadFault) _ _ causes.reads calm.reads e)
  | inr (inr (inr (inr (inl (e, x))))) ↦ absurd (no_fault (s ≡ status.WriteFault) _ _ causes.writes calm.writes e)
  | inr (inr (inr (inr (inr (e, x))))) ↦ inr (inr e)
]

abbrev BoundAs : Instance → ℕ → Told → Type 0
BoundAs i b t = InstanceText t.instance i × IsAccepted i t.proof_in b

bound_instance : (i : Instance) (b : ℕ) (a : Option Told) → IsTold (BoundAs i b) a → IsTold (λ t. InstanceText t.instance i) a
bound_instance i b None told = told
bound_instance i b (Some t) told = told.0

-- an accepted certificate is not refused
not_refused_bound : (i j : Instance) (b : ℕ) (a : Option Told) → IsTold (BoundAs i b) a → WhereTold (λ t. InstanceText t.instance j) a
    → WhereTold (λ t. (bound : ℕ) → ¬ IsAccepted j t.proof_in bound) a → ⊥
not_refused_bound i j b None told read never = told
not_refused_bound i j b (Some t) told read never = never b (subst (λ (x : Instance). IsAccepted x t.proof_in b) (one_instance t.instance i j told.0 read) told.1)

accepted_bound_completes : (s : Status) (c : Call) → Ends s c → HasCauses s c → AcceptedBoundCompletes s c
accepted_bound_completes s c ends causes = λ i b call told calm. elim (ends.checkbound call) [
  | inl (e, x) ↦ inl e
  | inr (inl (e, x)) ↦ absurd (not_refused_bound i x.instance b c.before.desk told x.bytes_read x.accepted_with_no_bound)
  | inr (inr (inl (e, x))) ↦ absurd (not_bad (instance_word c.words) i c.before.desk c.after.desk (bound_instance i b c.before.desk told) x.desk)
  | inr (inr (inr (inl (e, x)))) ↦ absurd (no_fault (s ≡ status.ReadFault) _ _ causes.reads calm.reads e)
  | inr (inr (inr (inr (inl (e, x))))) ↦ absurd (no_fault (s ≡ status.WriteFault) _ _ causes.writes calm.writes e)
  | inr (inr (inr (inr (inr (e, x))))) ↦ inr e
]

-- ---- tapes

replay_completes : (s : Status) (c : Call) → Ends s c → HasCauses s c → ReplayCompletes s c
replay_completes s c ends causes = λ i call told calm. elim (ends.replay call) [
  | inl (e, x) ↦ inl e
  | inr (inl (e, x)) ↦ absurd (told_good i c x told)
  | inr (inr (inl (e, x))) ↦ absurd (not_bad (instance_word c.words) i c.before.desk c.after.desk (told_instance i (grunts_of c.words) c.before.desk told) x.desk)
  | inr (inr (inr (inl (e, x)))) ↦ absurd (no_fault (s ≡ status.ReadFault) _ _ causes.reads calm.reads e)
  | inr (inr (inr (inr (inl (e, x))))) ↦ absurd (no_fault (s ≡ status.WriteFault) _ _ causes.writes calm.writes e)
  | inr (inr (inr (inr (inr (e, x))))) ↦ inr e
]

-- a call of `run` that ends so, and by these causes
pub runs_so : OneReading → (s : Status) (c : Call) → Ends s c → HasCauses s c → Runs s c
runs_so reading s c ends causes = record {
  ends = ends;
  causes = causes;
  completes = record {
    solve = solve_completes reading s c ends causes;
    refused_body = refused_completes reading s c ends causes;
    verify = verify_completes s c ends causes;
    accepted = accepted_completes s c ends causes;
    tour = tour_completes s c ends causes;
    bench = bench_completes s c ends causes;
    small_bench = small_bench_completes s c ends causes;
    replay = replay_completes s c ends causes;
    bound = bound_completes s c ends causes;
    checkbound = checkbound_completes s c ends causes;
    accepted_bound = accepted_bound_completes s c ends causes;
  };
}
