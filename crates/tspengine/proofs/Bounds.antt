-- How a call of `bound` ends.
use Rattle.std.proofs.Common.{◌≡◌, ℕ, ◌≤◌, List, take, refl, sym, ap, subst, ◌∙◌, inl, inr, Option, arith}
use Rattle.std.specs.Prelude.{ℤ, ◌<ℤ◌}
use Rattle.ports.specs.Outside.{BothTell}
use Rattle.ports.specs.Desk.{Told, Adds, with_outlet_path}
use Rattle.ports.specs.declared.desk.Outlet.TheVariants as outlet
use Rattle.tspdef.specs.Instances.{Instance}
use Rattle.tspdef.specs.Bounds.{needed}
use Rattle.onetree.specs.Certificates.{IsBoundOf, IsAccepted, text, certificate_of}
use Rattle.onetree.specs.Laws.{HeldKarpIsOne, NoTourIsShorter}
use Rattle.onetree.specs.Told.{AddsCertificate, AddsFront}
use Rattle.tspwords.specs.Program.{instance_word, cert_word, steps_of}
use Rattle.verification.specs.Transfers.{ReadsInstance}
use Rattle.verification.proofs.Tells.{both_same, both_then}
use Rattle.tspengine.specs.Calls.{Call, SlotsKept}
use Rattle.tspengine.specs.Steps.{reads, writes, prints, TearsWriting}
use Rattle.tspengine.specs.Bounds.{bound_text}
use Rattle.tspengine.specs.Bounding.{Bounds, IsRaisedBy}
use Rattle.tspengine.specs.declared.bounding.Raised.{Raised}
use Rattle.tspengine.specs.declared.statuses.Status.{Status}
use Rattle.tspengine.specs.declared.statuses.Status.TheVariants as status
use Rattle.tspengine.proofs.Fronts.{written, printed_on, proof_torn, text_torn}
use Rattle.tspengine.proofs.InstanceReads.{EndsRefused, bytes_read}

pub refused_bound : (s : Status) (c : Call) → EndsRefused s c → Bounds s c
refused_bound s c ends = elim ends [
  | inl (e, x) ↦ inr (inl (e, x))
  | inr (inl (e, x)) ↦ inr (inr (inr (inl (e, inl x))))
  | inr (inr (e, x)) ↦ inr (inr (inr (inr (e, inl x))))
]

-- what follows once the instance was read
pub after_read : (R : Told → Told → Type 0) (path : List ℕ) (i : Instance) (a b c : Option Told) → BothTell (ReadsInstance path i) a b → BothTell R b c
    → BothTell (λ t u. R (reads path t) u) a c
after_read R path i a b c read more = both_then (ReadsInstance path i) R (λ t u. R (reads path t) u)
    (λ t u v x f. subst (λ (w : Told). R w v) x.others f) a b c read more

-- duals prove one greatest bound
one_bound : HeldKarpIsOne → (i : Instance) (p : List ℤ) (b c : ℕ) → IsBoundOf i p b → IsBoundOf i p c → b ≡ c
one_bound law i p b c x y =
    let same : x.value ≡ y.value = law i p x.value y.value x.value_is y.value_is in
    let one : b ≤ c = y.greatest b (subst (λ (h : ℤ). needed b <ℤ h) same x.proved) in
    let other : c ≤ b = x.greatest c (subst (λ (h : ℤ). needed c <ℤ h) (sym same) y.proved) in
    omega arith

line_is : HeldKarpIsOne → (i : Instance) (steps bound : ℕ) (r : Raised) → IsRaisedBy i steps r → IsBoundOf i r.duals.items bound → r.line.items ≡ bound_text bound
line_is one i steps bound r is greatest = is.tells ∙ ap bound_text (one_bound one i r.duals.items is.bound bound is.greatest greatest)

pub bounded : HeldKarpIsOne → NoTourIsShorter → (c : Call) (i : Instance) (r : Raised) (bound : ℕ) (b d e : Option Told) → 3 ≤ i.n
    → IsRaisedBy i (steps_of c.words) r → SlotsKept c → IsAccepted i (text (certificate_of r.duals.items bound)) bound
    → BothTell (ReadsInstance (instance_word c.words) i) c.before.desk b
    → BothTell (λ t u. u ≡ with_outlet_path (cert_word c.words) t) b d
    → AddsCertificate i r.duals.items bound d e
    → BothTell (Adds outlet.Text r.line.items) e c.after.desk → Bounds status.Bounded c
bounded one shorter c i r bound b d e many is kept accepted read bind adds tells =
    let p = r.duals.items in
    let path = cert_word c.words in
    let bytes = text (certificate_of p bound) in
    let line = line_is one i (steps_of c.words) bound r is adds.0 in
    let printed = printed_on path bytes (bound_text bound) b e c.after.desk (written path bytes b d e bind adds.1)
    (subst (λ (x : List ℕ). BothTell (Adds outlet.Text x) e c.after.desk) line tells) in
    inl (
      refl,
      record {
        instance = i;
        duals = p;
        bound = bound;
        bytes_read = bytes_read (instance_word c.words) i c.before.desk b read;
        duals_are_raised = is.raised;
        bound_is_greatest = adds.0;
        no_tour_is_shorter = λ tour t. shorter i p adds.0.value bound tour many t adds.0.value_is adds.0.proved;
        certificate_is_accepted = accepted;
        desk = after_read (λ t u. u ≡ prints (bound_text bound) (writes path bytes t)) (instance_word c.words) i c.before.desk b c.after.desk read printed;
        slots = kept;
      },
    )

-- ---- a fault of writing

torn_with : (c : Call) (i : Instance) (r : Raised) (bound : ℕ) (b : Option Told) → IsRaisedBy i (steps_of c.words) r → SlotsKept c → IsBoundOf i r.duals.items bound
    → BothTell (ReadsInstance (instance_word c.words) i) c.before.desk b
    → BothTell (TearsWriting (cert_word c.words) (text (certificate_of r.duals.items bound)) (bound_text bound)) b c.after.desk → Bounds status.WriteFault c
torn_with c i r bound b is kept greatest read tears = inr (inr (inr (inl (
  refl,
  inr (record {
    instance = i;
    duals = r.duals.items;
    bound = bound;
    bytes_read = bytes_read (instance_word c.words) i c.before.desk b read;
    duals_are_raised = is.raised;
    bound_is_greatest = greatest;
    desk = after_read (TearsWriting (cert_word c.words) (text (certificate_of r.duals.items bound)) (bound_text bound)) (instance_word c.words) i c.before.desk b c.after.desk read tears;
    slots = kept;
  }),
))))

-- the outlet could not be bound
pub unbound : (c : Call) (i : Instance) (r : Raised) (b : Option Told) → IsRaisedBy i (steps_of c.words) r → SlotsKept c
    → BothTell (ReadsInstance (instance_word c.words) i) c.before.desk b → c.after.desk ≡ b → Bounds status.WriteFault c
unbound c i r b is kept read same = torn_with c i r is.bound b is kept is.greatest read
    (both_same (TearsWriting (cert_word c.words) (text (certificate_of r.duals.items is.bound)) (bound_text is.bound)) (λ t. inl refl) b c.after.desk same)

-- it took a front of the certificate
pub torn_certificate : (c : Call) (i : Instance) (r : Raised) (b d : Option Told) → IsRaisedBy i (steps_of c.words) r → SlotsKept c
    → BothTell (ReadsInstance (instance_word c.words) i) c.before.desk b
    → BothTell (λ t u. u ≡ with_outlet_path (cert_word c.words) t) b d
    → AddsFront i r.duals.items d c.after.desk → Bounds status.WriteFault c
torn_certificate c i r b d is kept read bind (bound, k, greatest, less, front) = torn_with c i r bound b is kept greatest read
    (proof_torn (cert_word c.words) (text (certificate_of r.duals.items bound)) (bound_text bound) k b d c.after.desk bind front)

-- it took the certificate, and of the line a front was printed
pub torn_line : HeldKarpIsOne → (c : Call) (i : Instance) (r : Raised) (bound k : ℕ) (b d e : Option Told) → IsRaisedBy i (steps_of c.words) r → SlotsKept c
    → BothTell (ReadsInstance (instance_word c.words) i) c.before.desk b
    → BothTell (λ t u. u ≡ with_outlet_path (cert_word c.words) t) b d
    → AddsCertificate i r.duals.items bound d e
    → BothTell (Adds outlet.Text (take k r.line.items)) e c.after.desk → Bounds status.WriteFault c
torn_line one c i r bound k b d e is kept read bind adds front =
    let line = line_is one i (steps_of c.words) bound r is adds.0 in
    torn_with c i r bound b is kept adds.0 read
    (text_torn (cert_word c.words) (text (certificate_of r.duals.items bound)) (bound_text bound) k b d e c.after.desk bind adds.1
    (subst (λ (x : List ℕ). BothTell (Adds outlet.Text (take k x)) e c.after.desk) line front))

-- ---- want of memory

pub unwritten : (c : Call) (i : Instance) (b d : Option Told) → SlotsKept c → BothTell (ReadsInstance (instance_word c.words) i) c.before.desk b
    → BothTell (λ t u. u ≡ with_outlet_path (cert_word c.words) t) b d → c.after.desk ≡ d → Bounds status.NoMemory c
unwritten c i b d kept read bind same = inr (inr (inr (inr (
  refl,
  inr (record {
    desk = after_read (λ t u. u ≡ with_outlet_path (cert_word c.words) t) (instance_word c.words) i c.before.desk b c.after.desk read
        (subst (λ (x : Option Told). BothTell (λ t u. u ≡ with_outlet_path (cert_word c.words) t) b x) (sym same) bind);
    slots = kept;
  }),
))))
