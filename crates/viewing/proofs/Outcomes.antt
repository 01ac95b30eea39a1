-- From how a call ends to how a run of the program ends.
use Rattle.std.proofs.Common.{◌≡◌, ◌≢◌, ℕ, List, refl, sym, subst, ◌∙◌, ◌⊎◌, inl, inr, take, Option, Some, None, Ok, arith}
use Rattle.ports.specs.Outside.{BothTell, Cause}
use Rattle.ports.specs.Desk.{Told, Adds}
use Rattle.ports.specs.declared.desk.Outlet.TheVariants as outlet
use Rattle.tspdef.specs.Instances.{Instance}
use Rattle.tspinst.specs.Texts.{InstanceText}
use Rattle.verdict.specs.Bodies.{IsBodyText}
use Rattle.verification.specs.Counts.{IsCalm, IsTold}
use Rattle.verification.specs.Transfers.{Torn}
use Rattle.verification.proofs.Tells.{both_to}
use Rattle.verification.proofs.Torn.{torn_by}
use Rattle.viewing.specs.Headline.{Usage}
use Rattle.viewing.specs.Words.{Text, Paths, IsViewCall, paths_of}
use Rattle.viewing.specs.Texts.{usage_text}
use Rattle.viewing.specs.Saying.{IsRefusedAs, HasTooMany}
use Rattle.viewing.specs.Runs.{Ends, EndsRun, IsJudged, IsDrawn, IsDrawable, IsComplete, run_of}
use Rattle.viewing.specs.declared.statuses.ViewStatus.{ViewStatus}
use Rattle.viewing.specs.declared.statuses.ViewStatus.TheVariants as status

-- ---- words of another form

pub usage_ends : (words : List Text) (s : ViewStatus) (a b : Option Told) → ¬ IsViewCall words → (s ≡ status.Usage) ⊎ (s ≡ status.WriteFault)
    → (s ≡ status.Usage → BothTell (Adds outlet.Text usage_text) a b)
    → (s ≡ status.WriteFault → (k : ℕ) × BothTell (Adds outlet.Text (take k usage_text)) a b) → EndsRun s (run_of words a b)
usage_ends words s a b other which whole torn = elim which [
  | inl e ↦ subst (λ (x : ViewStatus). EndsRun x (run_of words a b)) (sym e)
      (other, both_to (Adds outlet.Text usage_text) Usage (λ t u f. record { desk = f }) a b (whole e))
  | inr e ↦ subst (λ (x : ViewStatus). EndsRun x (run_of words a b)) (sym e)
      (let (k, front) = torn e in
      inr (
        other,
        both_to (Adds outlet.Text (take k usage_text)) (Torn Usage)
            (λ t u f. torn_by Usage usage_text k t t u (record { desk = refl }) refl f) a b front,
      ))
]

-- ---- completeness

-- a count that is calm shows no fault
no_fault : (failed : Type 0) (before after : ℕ) → Cause failed before after → IsCalm before after → failed → ⊥
no_fault failed before after cause calm is = let rose = cause.rose is in absurd (omega arith)

-- an instance's text, and no fault
run_judges : (paths : Paths) (s : ViewStatus) (i : Instance) (a b : Option Told) (r0 r1 w0 w1 : ℕ) → BothTell (Ends paths s) a b → (s ≢ status.Usage)
    → IsTold (λ t. InstanceText t.instance i) a → Cause (s ≡ status.ReadFault) r0 r1 → Cause (s ≡ status.WriteFault) w0 w1 → IsCalm r0 r1 → IsCalm w0 w1 → IsJudged s
run_judges paths status.Drawn i a b r0 r1 w0 w1 ends used told reads writes calm still = inl refl
run_judges paths status.Usage i a b r0 r1 w0 w1 ends used told reads writes calm still = absurd (used refl)
run_judges paths status.BadInstance i None b r0 r1 w0 w1 ends used told reads writes calm still = absurd told
run_judges paths status.BadInstance i (Some t) None r0 r1 w0 w1 ends used told reads writes calm still = absurd ends
run_judges paths status.BadInstance i (Some t) (Some u) r0 r1 w0 w1 ends used told reads writes calm still = let e = sym told ∙ ends.first_refusal in cc
run_judges paths status.Refused i a b r0 r1 w0 w1 ends used told reads writes calm still = inr (inl refl)
run_judges paths status.ReadFault i a b r0 r1 w0 w1 ends used told reads writes calm still = absurd (no_fault (status.ReadFault ≡ status.ReadFault) r0 r1 reads calm refl)
run_judges paths status.WriteFault i a b r0 r1 w0 w1 ends used told reads writes calm still = absurd (no_fault (status.WriteFault ≡ status.WriteFault) w0 w1 writes still refl)
run_judges paths status.NoMemory i a b r0 r1 w0 w1 ends used told reads writes calm still = inr (inr refl)

one_instance : (bytes : List ℕ) (i j : Instance) → InstanceText bytes i → InstanceText bytes j → i ≡ j
one_instance bytes i j p q = let e : Ok i ≡ Ok j = sym p ∙ q in cc

-- a text that can be drawn is not refused
refused_not : (i : Instance) (bytes : List ℕ) (k line l b : ℕ) → IsRefusedAs i bytes k line → IsBodyText i bytes l b → (HasTooMany i bytes → ⊥) → ⊥
refused_not i bytes k line l b (inl tests) text few = tests.never l b text
refused_not i bytes k line l b (inr (number, place, many)) text few = few many

not_refused : (paths : Paths) (i : Instance) (l m : ℕ) (a b : Option Told) → IsTold (IsDrawable i l m) a → BothTell (Ends paths status.Refused) a b → ⊥
not_refused paths i l m None b told ends = told
not_refused paths i l m (Some t) None told ends = ends
not_refused paths i l m (Some t) (Some u) told ends =
    refused_not i t.proof_in ends.refusal ends.line l m (subst (λ (x : Instance). IsRefusedAs x t.proof_in ends.refusal ends.line) (one_instance t.instance ends.instance i ends.instance_text told.0) ends.refused) told.1 told.2

told_instance : (i : Instance) (l m : ℕ) (a : Option Told) → IsTold (IsDrawable i l m) a → IsTold (λ t. InstanceText t.instance i) a
told_instance i l m None told = told
told_instance i l m (Some t) told = told.0

run_draws : (paths : Paths) (s : ViewStatus) (i : Instance) (l m : ℕ) (a b : Option Told) → BothTell (Ends paths s) a b → IsTold (IsDrawable i l m) a → IsJudged s → IsDrawn s
run_draws paths s i l m a b ends told judged = elim judged [
  | inl e ↦ inl e
  | inr (inl e) ↦ absurd (not_refused paths i l m a b told (subst (λ (x : ViewStatus). BothTell (Ends paths x) a b) e ends))
  | inr (inr e) ↦ inr e
]

pub call_completes : (words : List Text) (s : ViewStatus) (a b : Option Told) (r0 r1 w0 w1 : ℕ) → IsViewCall words → BothTell (Ends (paths_of words) s) a b → (s ≢ status.Usage)
    → Cause (s ≡ status.ReadFault) r0 r1 → Cause (s ≡ status.WriteFault) w0 w1 → IsCalm r0 r1 → IsCalm w0 w1 → IsComplete s (run_of words a b)
call_completes words s a b r0 r1 w0 w1 is ends used reads writes calm still = record {
  used = λ other. absurd (other is);
  judged = λ i call told. run_judges (paths_of words) s i a b r0 r1 w0 w1 ends used told reads writes calm still;
  drawn = λ i l m call told. run_draws (paths_of words) s i l m a b ends told
      (run_judges (paths_of words) s i a b r0 r1 w0 w1 ends used (told_instance i l m a told) reads writes calm still);
}
