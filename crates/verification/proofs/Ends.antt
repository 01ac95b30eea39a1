-- How the steps of a call end on the desk.
use Rattle.std.proofs.Common.{◌≡◌, ℕ, ◌<◌, ◌≤◌, List, length, take, drop, refl, sym, ap, subst, ◌∙◌, inl, inr, ⊎_elim, Option, arith, eq-eqb}
use Rattle.std.specs.Prelude.{◌==◌}
use Rattle.std.proofs.lemmas.Bool.{cond-true, cond-false, cases_lt, ne_eqb}
use Rattle.std.proofs.Math.Seq.{drop-length}
use Rattle.ports.specs.Outside.{BothTell}
use Rattle.ports.specs.Desk.{Told, Adds, with_added, with_left, with_inlet_path}
use Rattle.ports.specs.declared.desk.Inlet.TheVariants as inlet
use Rattle.ports.specs.declared.desk.Outlet.TheVariants as outlet
use Rattle.tspdef.specs.Instances.{Instance}
use Rattle.tspinst.specs.Texts.{InstanceText}
use Rattle.tspinst.specs.declared.refusals.Refusal.{Refusal}
use Rattle.certcheck.specs.declared.answer.Answer.{Answer}
use Rattle.certcheck.specs.declared.answer.Answer.TheVariants as answer
use Rattle.verification.specs.Headline.{Verified, Within, Refused, BadInstance}
use Rattle.verification.specs.Paths.{Paths}
use Rattle.verification.specs.Texts.{instance_text, verified_text, within_text}
use Rattle.verification.specs.Transfers.{ReadsInstance, RefusesInstance, TouchesInstance, TouchesProof, Torn, read_told}
use Rattle.verification.specs.Readings.{IsRefuseStatus}
use Rattle.verification.specs.Judging.{GivesAnswer, Judges}
use Rattle.verification.specs.Runs.{IsAnswered, IsSilent, Ends}
use Rattle.verification.specs.declared.statuses.VerifyStatus.{VerifyStatus}
use Rattle.verification.specs.declared.statuses.VerifyStatus.TheVariants as status
use Rattle.verification.proofs.Tells.{both_to, both_then}
use Rattle.verification.proofs.Torn.{torn_by}
use Rattle.verification.proofs.Refusing.{bad_instance}

-- ---- an instance that was read, and a proof that was judged

verified_at : (paths : Paths) (i : Instance) (l : ℕ) (t v : Told) → InstanceText t.instance i → GivesAnswer i paths.proof (answer.Yes l l) (read_told paths.instance t) v → Verified paths t v
verified_at paths i l t v read x = record {
  instance = i;
  length = l;
  instance_text = read;
  proof_text = x.right.accepted;
  accepted_with_no_other = x.right.only;
  no_tour_is_shorter = x.right.least;
  desk = x.others ∙ ap (λ (text : List ℕ). with_added outlet.Text text (with_left inlet.Proof (drop x.count (read_told paths.instance t).proof_in) (with_inlet_path inlet.Proof paths.proof (read_told paths.instance t))))
      (cond-true (l == l) (verified_text l) (within_text l l) (eq-eqb l l refl)) ∙ ap (λ (rest : List ℕ). with_added outlet.Text (verified_text l) (with_left inlet.Proof rest (with_inlet_path inlet.Proof paths.proof (read_told paths.instance t)))) (x.whole tt);
}

within_at : (paths : Paths) (i : Instance) (l b : ℕ) (t v : Told) → b < l → InstanceText t.instance i → GivesAnswer i paths.proof (answer.Yes l b) (read_told paths.instance t) v → Within paths t v
within_at paths i l b t v below read x = record {
  instance = i;
  length = l;
  bound = b;
  below = below;
  instance_text = read;
  proof_text = x.right.accepted;
  accepted_with_no_other = x.right.only;
  no_tour_is_shorter = x.right.least;
  desk = x.others ∙ ap (λ (text : List ℕ). with_added outlet.Text text (with_left inlet.Proof (drop x.count (read_told paths.instance t).proof_in) (with_inlet_path inlet.Proof paths.proof (read_told paths.instance t))))
      (cond-false (b == l) (verified_text l) (within_text l b) (ne_eqb b l (omega arith)))
      ∙ ap (λ (rest : List ℕ). with_added outlet.Text (within_text l b) (with_left inlet.Proof rest (with_inlet_path inlet.Proof paths.proof (read_told paths.instance t)))) (x.whole tt);
}

refused_at : (paths : Paths) (i : Instance) (k line : ℕ) (t v : Told) → InstanceText t.instance i → GivesAnswer i paths.proof (answer.No k line) (read_told paths.instance t) v → Refused paths t v
refused_at paths i k line t v read x = record {
  instance = i;
  refusal = k;
  line = line;
  bytes_taken = x.count;
  instance_text = read;
  first_refusal = x.right.first;
  accepted_with_no_length = x.right.never;
  desk = x.others;
}

answered_at : (paths : Paths) (i : Instance) (a : Answer) (t v : Told) → InstanceText t.instance i → GivesAnswer i paths.proof a (read_told paths.instance t) v → IsAnswered paths t v
answered_at paths i (answer.Yes l b) t v read x = ⊎_elim
    (λ less. inr (inl (within_at paths i l b t v less read x)))
    (λ more. let most = x.right.most in let same : b ≡ l = omega arith in inl (verified_at paths i l t v read (subst (λ (k : ℕ). GivesAnswer i paths.proof (answer.Yes l k) (read_told paths.instance t) v) same x)))
    (cases_lt b l)
answered_at paths i (answer.No k line) t v read x = inr (inr (inl (refused_at paths i k line t v read x)))

torn_at : (paths : Paths) (i : Instance) (a : Answer) (t v : Told) → InstanceText t.instance i → Torn (GivesAnswer i paths.proof a) (read_told paths.instance t) v → Torn (IsAnswered paths) t v
torn_at paths i a t v read x = record { whole = x.whole; step = answered_at paths i a t x.whole read x.step; front = x.front; kept = x.kept; others = x.others }

silent_at : (paths : Paths) (t v : Told) → TouchesProof paths.proof (read_told paths.instance t) v → IsSilent paths t v
silent_at paths t v x = elim x [
  | inl e ↦ inr (inl (length t.instance, e ∙ ap (λ (rest : List ℕ). with_left inlet.Instance rest (with_inlet_path inlet.Instance paths.instance t)) (sym (drop-length t.instance))))
  | inr y ↦ inr (inr y)
]

judged_at : (paths : Paths) (i : Instance) (s : VerifyStatus) (t v : Told) → InstanceText t.instance i → Judges i paths.proof s (read_told paths.instance t) v → Ends paths s t v
judged_at paths i status.Verified t v read (l, x) = verified_at paths i l t v read x
judged_at paths i status.Within t v read (l, b, below, x) = within_at paths i l b t v below read x
judged_at paths i status.Usage t v read x = absurd x
judged_at paths i status.BadInstance t v read x = absurd x
judged_at paths i status.Refused t v read (k, line, x) = refused_at paths i k line t v read x
judged_at paths i status.ReadFault t v read x = silent_at paths t v x
judged_at paths i status.WriteFault t v read (a, x) = torn_at paths i a t v read x
judged_at paths i status.NoMemory t v read x = silent_at paths t v x

pub judged_ends : (paths : Paths) (i : Instance) (s : VerifyStatus) (a b c : Option Told) → BothTell (ReadsInstance paths.instance i) a b
    → BothTell (Judges i paths.proof s) b c → BothTell (Ends paths s) a c
judged_ends paths i s a b c reads judges = both_then (ReadsInstance paths.instance i) (Judges i paths.proof s) (Ends paths s)
    (λ t u v r f. judged_at paths i s t v r.read (subst (λ (x : Told). Judges i paths.proof s x v) r.others f)) a b c reads judges

-- ---- a refusal of the instance

bad_torn_at : (paths : Paths) (r : Refusal) (k : ℕ) (t u v : Told) → RefusesInstance paths.instance r t u → Adds outlet.Text (take k (instance_text r)) u v → Torn (IsAnswered paths) t v
bad_torn_at paths r k t u v is adds = torn_by (IsAnswered paths) (instance_text r) k t u v
    (inr (inr (inr (bad_instance paths.instance r t u (with_added outlet.Text (instance_text r) u) is refl)))) (ap (λ (x : Told). x.text) is.others) adds

bad_silent_at : (paths : Paths) (r : Refusal) (t u : Told) → RefusesInstance paths.instance r t u → IsSilent paths t u
bad_silent_at paths r t u is = inr (inl (is.count, is.others))

pub bad_ends : (paths : Paths) (r : Refusal) (s : VerifyStatus) (a b c : Option Told) → BothTell (RefusesInstance paths.instance r) a b
    → IsRefuseStatus s → (s ≡ status.BadInstance → BothTell (Adds outlet.Text (instance_text r)) b c)
    → (s ≡ status.WriteFault → (k : ℕ) × BothTell (Adds outlet.Text (take k (instance_text r))) b c) → (s ≡ status.NoMemory → c ≡ b)
    → BothTell (Ends paths s) a c
bad_ends paths r s a b c refuses which whole torn same = elim which [
  | inl e ↦ subst (λ (x : VerifyStatus). BothTell (Ends paths x) a c) (sym e)
      (both_then (RefusesInstance paths.instance r) (Adds outlet.Text (instance_text r)) (BadInstance paths.instance)
      (λ t u v is f. bad_instance paths.instance r t u v is f) a b c refuses (whole e))
  | inr (inl e) ↦ subst (λ (x : VerifyStatus). BothTell (Ends paths x) a c) (sym e)
      (let (k, front) = torn e in
      both_then (RefusesInstance paths.instance r) (Adds outlet.Text (take k (instance_text r))) (Torn (IsAnswered paths))
      (λ t u v is f. bad_torn_at paths r k t u v is f) a b c refuses front)
  | inr (inr e) ↦ subst (λ (x : VerifyStatus). BothTell (Ends paths x) a c) (sym e)
      (subst (λ (x : Option Told). BothTell (IsSilent paths) a x) (sym (same e))
      (both_to (RefusesInstance paths.instance r) (IsSilent paths) (λ t u is. bad_silent_at paths r t u is) a b refuses))
]

-- ---- an instance that was not read

pub unread_ends : (paths : Paths) (a b : Option Told) → BothTell (TouchesInstance paths.instance) a b → BothTell (IsSilent paths) a b
unread_ends paths a b r = both_to (TouchesInstance paths.instance) (IsSilent paths) (λ t u x. elim x [ inl e ↦ inl e | inr y ↦ inr (inl y) ]) a b r
