-- What follows where the instance was read, refused or touched.
use Rattle.std.proofs.Common.{◌≡◌, ℕ, ◌+◌, List, length, take, refl, sym, ap, subst, ◌∙◌, ◌⊎◌, inl, inr, Option, Some, None}
use Rattle.std.proofs.Math.Seq.{drop-length}
use Rattle.ports.specs.Outside.{BothTell, WhereTold}
use Rattle.ports.specs.Desk.{Told, Adds, with_added}
use Rattle.ports.specs.declared.desk.Outlet.TheVariants as outlet
use Rattle.tspdef.specs.Instances.{Instance}
use Rattle.tspinst.specs.Texts.{InstanceText}
use Rattle.tspinst.specs.declared.refusals.Refusal.{Refusal}
use Rattle.tspwords.specs.Program.{instance_word}
use Rattle.verification.specs.Texts.{instance_text}
use Rattle.verification.specs.Transfers.{ReadsInstance, RefusesInstance, TouchesInstance, Torn}
use Rattle.verification.specs.Headline.{BadInstance}
use Rattle.verification.proofs.Refusing.{bad_instance}
use Rattle.verification.proofs.Torn.{torn_by}
use Rattle.verification.proofs.Tells.{both_to, both_then}
use Rattle.tspengine.specs.Calls.{Call, SlotsKept}
use Rattle.tspengine.specs.Steps.{reads, prints}
use Rattle.tspengine.specs.Readings.{Refuses, TornRefusal, Unread}
use Rattle.tspengine.specs.declared.statuses.Status.{Status}
use Rattle.tspengine.specs.declared.statuses.Status.TheVariants as status

-- what is so of the first of two that tell
pub had : {T : Type 0} (P : T → T → Type 0) (Q : T → Type 0) → ((t u : T) → P t u → Q t) → (a b : Option T) → BothTell P a b → WhereTold Q a
had P Q f None b r = tt
had P Q f (Some t) None r = absurd r
had P Q f (Some t) (Some u) r = f t u r

pub bytes_read : (path : List ℕ) (i : Instance) (a b : Option Told) → BothTell (ReadsInstance path i) a b → WhereTold (λ t. InstanceText t.instance i) a
bytes_read path i a b r = had (ReadsInstance path i) (λ t. InstanceText t.instance i) (λ t u x. x.read) a b r

pub read_whole : (path : List ℕ) (i : Instance) (a b : Option Told) → BothTell (ReadsInstance path i) a b → BothTell (λ t u. u ≡ reads path t) a b
read_whole path i a b r = both_to (ReadsInstance path i) (λ t u. u ≡ reads path t) (λ t u x. x.others) a b r

-- and then a text was printed
pub read_and_printed : (path printed : List ℕ) (i : Instance) (a b c : Option Told) → BothTell (ReadsInstance path i) a b → BothTell (Adds outlet.Text printed) b c
    → BothTell (λ t u. u ≡ prints printed (reads path t)) a c
read_and_printed path printed i a b c r adds = both_then (ReadsInstance path i) (Adds outlet.Text printed) (λ t u. u ≡ prints printed (reads path t))
    (λ t u v x f. f ∙ ap (prints printed) x.others) a b c r adds

-- ---- a front of the instance

pub read_touches : (path : List ℕ) (i : Instance) (a b : Option Told) → BothTell (ReadsInstance path i) a b → BothTell (TouchesInstance path) a b
read_touches path i a b r = both_to (ReadsInstance path i) (TouchesInstance path)
    (λ t u x. inr (
      length t.instance,
      x.others
          ∙ ap (λ (rest : List ℕ). record t { instance = rest; instance_path = Some path; instance_binds = t.instance_binds + 1 }) (sym (drop-length t.instance)),
    ))
    a b r

pub refused_touches : (path : List ℕ) (r : Refusal) (a b : Option Told) → BothTell (RefusesInstance path r) a b → BothTell (TouchesInstance path) a b
refused_touches path r a b x = both_to (RefusesInstance path r) (TouchesInstance path) (λ t u is. inr (is.count, is.others)) a b x

pub same_touches : (path : List ℕ) (a : Option Told) → BothTell (TouchesInstance path) a a
same_touches path None = tt
same_touches path (Some t) = inl refl

-- ---- a refusal

-- it is printed
refusal_printed : (path : List ℕ) (r : Refusal) (a b c : Option Told) → BothTell (RefusesInstance path r) a b → BothTell (Adds outlet.Text (instance_text r)) b c
    → BothTell (BadInstance path) a c
refusal_printed path r a b c refuses adds = both_then (RefusesInstance path r) (Adds outlet.Text (instance_text r)) (BadInstance path)
    (λ t u v x f. bad_instance path r t u v x f) a b c refuses adds

-- or a front of it
refusal_torn : (path : List ℕ) (r : Refusal) (k : ℕ) (a b c : Option Told) → BothTell (RefusesInstance path r) a b
    → BothTell (Adds outlet.Text (take k (instance_text r))) b c → BothTell (Torn (BadInstance path)) a c
refusal_torn path r k a b c refuses adds = both_then (RefusesInstance path r) (Adds outlet.Text (take k (instance_text r))) (Torn (BadInstance path))
    (λ t u v x f. torn_by (BadInstance path) (instance_text r) k t u v
    (bad_instance path r t u (with_added outlet.Text (instance_text r) u) x refl) (ap (λ (y : Told). y.text) x.others) f)
    a b c refuses adds

-- what a refused instance ends with
abbrev pub EndsRefused : Status → Call → Type 0
EndsRefused s c = ((s ≡ status.BadInstance) × Refuses c) ⊎ ((s ≡ status.WriteFault) × TornRefusal c) ⊎ ((s ≡ status.NoMemory) × Unread c)

pub refused_ends : (s : Status) (c : Call) (r : Refusal) (b : Option Told) → SlotsKept c → BothTell (RefusesInstance (instance_word c.words) r) c.before.desk b
    → (s ≡ status.BadInstance) ⊎ (s ≡ status.WriteFault) ⊎ (s ≡ status.NoMemory)
    → (s ≡ status.BadInstance → BothTell (Adds outlet.Text (instance_text r)) b c.after.desk)
    → (s ≡ status.WriteFault → (k : ℕ) × BothTell (Adds outlet.Text (take k (instance_text r))) b c.after.desk)
    → (s ≡ status.NoMemory → c.after.desk ≡ b) → EndsRefused s c
refused_ends s c r b kept refuses which whole torn same =
    let path = instance_word c.words in
    elim which [
      | inl e ↦ inl (e, record { desk = refusal_printed path r c.before.desk b c.after.desk refuses (whole e); slots = kept })
      | inr (inl e) ↦ inr (inl (
        e,
        (let (k, front) = torn e in
            record { desk = refusal_torn path r k c.before.desk b c.after.desk refuses front; slots = kept }),
      ))
      | inr (inr e) ↦ inr (inr (
        e,
        record {
          desk = subst (λ (x : Option Told). BothTell (TouchesInstance path) c.before.desk x) (sym (same e)) (refused_touches path r c.before.desk b refuses);
          slots = kept;
        },
      ))
    ]
