-- From how a call ends to how a run of the program ends.
use Rattle.std.proofs.Common.{◌≡◌, ◌≢◌, ℕ, List, refl, sym, ap, subst, ◌∙◌, ◌⊎◌, inl, inr, take, Option, Some, None, Ok, arith, string_bytes, eq-eqb}
use Rattle.std.specs.Prelude.{◌==◌, cond}
use Rattle.std.proofs.lemmas.Bool.{cond-true, cond-false, ne_eqb}
use Rattle.ports.specs.Outside.{BothTell, Cause}
use Rattle.ports.specs.Desk.{Told, Adds}
use Rattle.ports.specs.declared.desk.Outlet.TheVariants as outlet
use Rattle.clap.specs.Walk.{Text}
use Rattle.tspdef.specs.Instances.{Instance}
use Rattle.tspinst.specs.Texts.{InstanceText}
use Rattle.certdef.specs.Accepted.{IsAcceptedText}
use Rattle.tspwords.specs.Program.{IsVerifierCall}
use Rattle.tspwords.specs.Says.{SaysPaths}
use Rattle.tspwords.specs.declared.words.VerifyWords.{VerifyWords}
use Rattle.verification.specs.Headline.{Usage}
use Rattle.verification.specs.Counts.{IsCalm, IsTold}
use Rattle.verification.specs.Paths.{Paths, paths_of, paths_in}
use Rattle.verification.specs.Texts.{usage_text}
use Rattle.verification.specs.Transfers.{Torn}
use Rattle.verification.specs.Runs.{Ends, EndsRun, IsSilent, IsJudged, IsVerified, IsComplete, run_of}
use Rattle.verification.specs.declared.statuses.VerifyStatus.{VerifyStatus}
use Rattle.verification.specs.declared.statuses.VerifyStatus.TheVariants as status
use Rattle.verification.proofs.Tells.{both_to, both_same}
use Rattle.verification.proofs.Torn.{torn_by}

-- the words' paths
same_paths : (words : List Text) (v : VerifyWords) → SaysPaths words v → paths_in v ≡ paths_of words
same_paths words v says = ap (λ (x : List ℕ). record { instance = x; proof = string_bytes v.proof }) says.instance
    ∙ ap (λ (x : List ℕ). record { instance = (paths_of words).instance; proof = x }) says.proof

-- a call that the words name
pub named_ends : (words : List Text) (v : VerifyWords) (s : VerifyStatus) (a b : Option Told) → SaysPaths words v → BothTell (Ends (paths_in v) s) a b → BothTell (Ends (paths_of words) s) a b
named_ends words v s a b says ends = subst (λ (p : Paths). BothTell (Ends p s) a b) (same_paths words v says) ends

pub call_ends : (words : List Text) (s : VerifyStatus) (a b : Option Told) → IsVerifierCall words → s ≢ status.Usage → BothTell (Ends (paths_of words) s) a b → EndsRun s (run_of words a b)
call_ends words status.Verified a b call used ends = (call, ends)
call_ends words status.Usage a b call used ends = absurd (used refl)
call_ends words status.BadInstance a b call used ends = (call, ends)
call_ends words status.Within a b call used ends = (call, ends)
call_ends words status.Refused a b call used ends = (call, ends)
call_ends words status.ReadFault a b call used ends = (call, ends)
call_ends words status.WriteFault a b call used ends = inl (call, ends)
call_ends words status.NoMemory a b call used ends = ends

-- ---- words of another form

pub usage_ends : (words : List Text) (s : VerifyStatus) (a b : Option Told) → ¬ IsVerifierCall words → (s ≡ status.Usage) ⊎ (s ≡ status.WriteFault)
    → (s ≡ status.Usage → BothTell (Adds outlet.Text usage_text) a b)
    → (s ≡ status.WriteFault → (k : ℕ) × BothTell (Adds outlet.Text (take k usage_text)) a b) → EndsRun s (run_of words a b)
usage_ends words s a b other which whole torn = elim which [
  | inl e ↦ subst (λ (x : VerifyStatus). EndsRun x (run_of words a b)) (sym e)
      (other, both_to (Adds outlet.Text usage_text) Usage (λ t u f. record { desk = f }) a b (whole e))
  | inr e ↦ subst (λ (x : VerifyStatus). EndsRun x (run_of words a b)) (sym e)
      (let (k, front) = torn e in
      inr (
        other,
        both_to (Adds outlet.Text (take k usage_text)) (Torn Usage)
            (λ t u f. torn_by Usage usage_text k t t u (record { desk = refl }) refl f) a b front,
      ))
]

-- no memory to read the words
pub short_ends : (words : List Text) (a : Option Told) → EndsRun status.NoMemory (run_of words a a)
short_ends words a = both_same (IsSilent (paths_of words)) (λ t. inl refl) a a refl

-- ---- completeness

-- a count that is calm shows no fault
no_fault : (failed : Type 0) (before after : ℕ) → Cause failed before after → IsCalm before after → failed → ⊥
no_fault failed before after cause calm is = let rose = cause.rose is in absurd (omega arith)

-- an instance's text, and no fault
run_judges : (paths : Paths) (s : VerifyStatus) (i : Instance) (a b : Option Told) (r0 r1 w0 w1 : ℕ) → BothTell (Ends paths s) a b → (s ≢ status.Usage)
    → IsTold (λ t. InstanceText t.instance i) a → Cause (s ≡ status.ReadFault) r0 r1 → Cause (s ≡ status.WriteFault) w0 w1 → IsCalm r0 r1 → IsCalm w0 w1 → IsJudged s
run_judges paths status.Verified i a b r0 r1 w0 w1 ends used told reads writes calm still = inl refl
run_judges paths status.Usage i a b r0 r1 w0 w1 ends used told reads writes calm still = absurd (used refl)
run_judges paths status.BadInstance i None b r0 r1 w0 w1 ends used told reads writes calm still = absurd told
run_judges paths status.BadInstance i (Some t) None r0 r1 w0 w1 ends used told reads writes calm still = absurd ends
run_judges paths status.BadInstance i (Some t) (Some u) r0 r1 w0 w1 ends used told reads writes calm still = let e = sym told ∙ ends.first_refusal in cc
run_judges paths status.Within i a b r0 r1 w0 w1 ends used told reads writes calm still = inr (inl refl)
run_judges paths status.Refused i a b r0 r1 w0 w1 ends used told reads writes calm still = inr (inr (inl refl))
run_judges paths status.ReadFault i a b r0 r1 w0 w1 ends used told reads writes calm still = absurd (no_fault (status.ReadFault ≡ status.ReadFault) r0 r1 reads calm refl)
run_judges paths status.WriteFault i a b r0 r1 w0 w1 ends used told reads writes calm still = absurd (no_fault (status.WriteFault ≡ status.WriteFault) w0 w1 writes still refl)
run_judges paths status.NoMemory i a b r0 r1 w0 w1 ends used told reads writes calm still = inr (inr (inr refl))

one_instance : (bytes : List ℕ) (i j : Instance) → InstanceText bytes i → InstanceText bytes j → i ≡ j
one_instance bytes i j p q = let e : Ok i ≡ Ok j = sym p ∙ q in cc

abbrev AcceptedAs : Instance → ℕ → ℕ → Told → Type 0
AcceptedAs i l b t = InstanceText t.instance i × IsAcceptedText i t.proof_in l b

not_refused : (paths : Paths) (i : Instance) (l m : ℕ) (a b : Option Told) → IsTold (AcceptedAs i l m) a → BothTell (Ends paths status.Refused) a b → ⊥
not_refused paths i l m None b told ends = told
not_refused paths i l m (Some t) None told ends = ends
not_refused paths i l m (Some t) (Some u) told ends =
    ends.accepted_with_no_length l m (subst (λ (x : Instance). IsAcceptedText x t.proof_in l m) (one_instance t.instance i ends.instance told.0 ends.instance_text) told.1)

-- verified with the length and the bound of the proof
as_verified : (paths : Paths) (i : Instance) (l m : ℕ) (a b : Option Told) → IsTold (AcceptedAs i l m) a → BothTell (Ends paths status.Verified) a b → m ≡ l
as_verified paths i l m None b told ends = absurd told
as_verified paths i l m (Some t) None told ends = absurd ends
as_verified paths i l m (Some t) (Some u) told ends =
    let only = ends.accepted_with_no_other l m (subst (λ (x : Instance). IsAcceptedText x t.proof_in l m) (one_instance t.instance i ends.instance told.0 ends.instance_text) told.1) in
    only.1 ∙ sym only.0

as_within : (paths : Paths) (i : Instance) (l m : ℕ) (a b : Option Told) → IsTold (AcceptedAs i l m) a → BothTell (Ends paths status.Within) a b → m ≡ l → ⊥
as_within paths i l m None b told ends e = told
as_within paths i l m (Some t) None told ends e = ends
as_within paths i l m (Some t) (Some u) told ends e =
    let only = ends.accepted_with_no_other l m (subst (λ (x : Instance). IsAcceptedText x t.proof_in l m) (one_instance t.instance i ends.instance told.0 ends.instance_text) told.1) in
    let x = only.0 in let y = only.1 in let below = ends.below in omega arith

instance_told : (i : Instance) (l m : ℕ) (a : Option Told) → IsTold (AcceptedAs i l m) a → IsTold (λ t. InstanceText t.instance i) a
instance_told i l m None told = told
instance_told i l m (Some t) told = told.0

-- accepted bytes, and no fault
run_accepts : (paths : Paths) (s : VerifyStatus) (i : Instance) (l m : ℕ) (a b : Option Told) → BothTell (Ends paths s) a b
    → IsTold (AcceptedAs i l m) a → IsJudged s → IsVerified l m s
run_accepts paths s i l m a b ends told judged = elim judged [
  | inl e ↦ inl (e ∙ sym (cond-true (m == l) status.Verified status.Within
      (eq-eqb m l (as_verified paths i l m a b told (subst (λ (x : VerifyStatus). BothTell (Ends paths x) a b) e ends)))))
  | inr (inl e) ↦ inl (e ∙ sym (cond-false (m == l) status.Verified status.Within
      (ne_eqb m l (as_within paths i l m a b told (subst (λ (x : VerifyStatus). BothTell (Ends paths x) a b) e ends)))))
  | inr (inr (inl e)) ↦ absurd (not_refused paths i l m a b told (subst (λ (x : VerifyStatus). BothTell (Ends paths x) a b) e ends))
  | inr (inr (inr e)) ↦ inr e
]

pub call_completes : (words : List Text) (s : VerifyStatus) (a b : Option Told) (r0 r1 w0 w1 : ℕ) → BothTell (Ends (paths_of words) s) a b → (s ≢ status.Usage)
    → Cause (s ≡ status.ReadFault) r0 r1 → Cause (s ≡ status.WriteFault) w0 w1 → IsCalm r0 r1 → IsCalm w0 w1 → IsComplete s (run_of words a b)
call_completes words s a b r0 r1 w0 w1 ends used reads writes calm still = record {
  judged = λ i call told. run_judges (paths_of words) s i a b r0 r1 w0 w1 ends used told reads writes calm still;
  accepted = λ i l m call told. run_accepts (paths_of words) s i l m a b ends told
      (run_judges (paths_of words) s i a b r0 r1 w0 w1 ends used (instance_told i l m a told) reads writes calm still);
}

-- words of another form are no call
pub usage_completes : (words : List Text) (s : VerifyStatus) (a b : Option Told) → ¬ IsVerifierCall words → IsComplete s (run_of words a b)
usage_completes words s a b other = record { judged = λ i call told. absurd (other call); accepted = λ i l m call told. absurd (other call) }

pub short_completes : (words : List Text) (a b : Option Told) → IsComplete status.NoMemory (run_of words a b)
short_completes words a b = record { judged = λ i call told. inr (inr (inr refl)); accepted = λ i l m call told. inr refl }
