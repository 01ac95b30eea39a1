-- From the check of a proof to the printed answer.
use Rattle.std.proofs.Common.{◌≡◌, ℕ, ◌≤◌, List, [], take, drop, refl, sym, ap, subst, ◌∙◌, inl, inr, ⊎_elim, Option, Some, None, arith}
use Rattle.std.specs.Prelude.{◌==◌, ◌<◌, ◌↔◌}
use Rattle.std.proofs.lemmas.Bool.{cond_both, cases_lt, eqb-true, eqb-false}
use Rattle.ports.specs.Outside.{BothTell, WhereTold}
use Rattle.ports.specs.Desk.{Told, Adds, TakesFirst, with_added, with_left, with_inlet_path}
use Rattle.ports.specs.declared.desk.Inlet.TheVariants as inlet
use Rattle.ports.specs.declared.desk.Outlet.TheVariants as outlet
use Rattle.tspdef.specs.Instances.{Instance}
use Rattle.certdef.specs.Accepted.{IsAcceptedText}
use Rattle.certdef.specs.Bytes.{verdict}
use Rattle.certdef.specs.Laws.{AcceptedTextIsBelow}
use Rattle.certcheck.specs.declared.answer.Answer.{Answer}
use Rattle.certcheck.specs.declared.answer.Answer.TheVariants as answer
use Rattle.certcheck.specs.Answers.{verdict_of, IsYes}
use Rattle.verification.specs.Transfers.{TouchesProof, proof_told}
use Rattle.verification.specs.Answers.{IsRight, answer_text, answer_status}
use Rattle.verification.specs.Judging.{GivesAnswer, Judges, IsSayStatus}
use Rattle.verification.specs.declared.statuses.VerifyStatus.{VerifyStatus}
use Rattle.verification.specs.declared.statuses.VerifyStatus.TheVariants as status
use Rattle.verification.proofs.Tells.{both_to, both_then}
use Rattle.verification.proofs.Torn.{torn_by}

-- an answer is right where it is the verdict, and yes exactly on accepted bytes
right_of : (i : Instance) (proof : List ℕ) (a : Answer) → 3 ≤ i.n → AcceptedTextIsBelow → verdict_of a ≡ verdict i proof
    → ((l b : ℕ) → (a ≡ answer.Yes l b) ↔ IsAcceptedText i proof l b) → IsRight i proof a
right_of i proof (answer.Yes l b) three optimal is exact =
    let accepted = (exact l b).0 refl in record {
      accepted = accepted;
      only = λ m c other. let e = (exact m c).1 other in let x : m ≡ l = cc in let y : c ≡ b = cc in (x, y);
      most = accepted.2.accepted.accepted.below;
      least = optimal i proof l b three accepted;
    }
right_of i proof (answer.No k line) three optimal is exact = record { first = sym is; never = λ l b accepted. let e = (exact l b).1 accepted in cc }

-- the proof is bound to a word and checked, and nothing is printed yet
pub record Checks (i : Instance) (word : List ℕ) (a : Answer) (k : ℕ) (t u : Told) : Type 0 where
  pub right : IsRight i t.proof_in a
  pub whole : IsYes a → drop k t.proof_in ≡ []
  pub others : u ≡ proof_told word k t

-- a bind, and a front that is taken
bound_and_taken : (word : List ℕ) (k : ℕ) (t u v : Told) → u ≡ with_inlet_path inlet.Proof word t → TakesFirst inlet.Proof k u v → v ≡ proof_told word k t
bound_and_taken word k t u v bound taken = taken ∙ ap (λ (x : Told). with_left inlet.Proof (drop k x.proof_in) x) bound

pub checked : (i : Instance) (word : List ℕ) (ans : Answer) (k : ℕ) (a b c : Option Told) → 3 ≤ i.n → AcceptedTextIsBelow
    → BothTell (λ t u. u ≡ with_inlet_path inlet.Proof word t) a b
    → WhereTold (λ t. verdict_of ans ≡ verdict i t.proof_in) b
    → WhereTold (λ t. (l b : ℕ) → (ans ≡ answer.Yes l b) ↔ IsAcceptedText i t.proof_in l b) b
    → (IsYes ans → BothTell (λ t u. u.proof_in ≡ []) b c)
    → BothTell (TakesFirst inlet.Proof k) b c → BothTell (Checks i word ans k) a c
checked i word ans k None None None three optimal bound judged exact whole taken = tt
checked i word ans k None None (Some v) three optimal bound judged exact whole taken = absurd taken
checked i word ans k None (Some u) c three optimal bound judged exact whole taken = absurd bound
checked i word ans k (Some t) None c three optimal bound judged exact whole taken = absurd bound
checked i word ans k (Some t) (Some u) None three optimal bound judged exact whole taken = absurd taken
checked i word ans k (Some t) (Some u) (Some v) three optimal bound judged exact whole taken =
    let same : u.proof_in ≡ t.proof_in = ap (λ (x : Told). x.proof_in) bound in record {
      right = subst (λ (x : List ℕ). IsRight i x ans) same (right_of i u.proof_in ans three optimal judged exact);
      whole = λ yes. ap (drop k) (sym same) ∙ sym (ap (λ (x : Told). x.proof_in) taken) ∙ whole yes;
      others = bound_and_taken word k t u v bound taken;
    }

-- ---- and the answer is printed

gives : (i : Instance) (word : List ℕ) (ans : Answer) (k : ℕ) (t u v : Told) → Checks i word ans k t u → Adds outlet.Text (answer_text ans) u v → GivesAnswer i word ans t v
gives i word ans k t u v r f = record { right = r.right; count = k; whole = r.whole; others = f ∙ ap (with_added outlet.Text (answer_text ans)) r.others }

said_at : (i : Instance) (word : List ℕ) (ans : Answer) (t v : Told) → GivesAnswer i word ans t v → Judges i word (answer_status ans) t v
said_at i word (answer.Yes l b) t v x = cond_both (b == l) status.Verified status.Within (λ s. Judges i word s t v)
    (λ e. (l, subst (λ (k : ℕ). GivesAnswer i word (answer.Yes l k) t v) (eqb-true b l e) x))
    (λ e. let ne = eqb-false b l e in let most = x.right.most in (l, b, less b l most ne, x)) where
      less : (m n : ℕ) → m ≤ n → (m ≡ n → ⊥) → m < n
      less m n h k = ⊎_elim (λ l. l) (λ l. absurd (k (omega arith))) (cases_lt m n)
said_at i word (answer.No n line) t v x = (n, line, x)

torn_at : (i : Instance) (word : List ℕ) (ans : Answer) (k j : ℕ) (t u v : Told) → Checks i word ans k t u → Adds outlet.Text (take j (answer_text ans)) u v → Judges i word status.WriteFault t v
torn_at i word ans k j t u v r f = (
  ans,
  torn_by (GivesAnswer i word ans) (answer_text ans) j t u v
      (gives i word ans k t u (with_added outlet.Text (answer_text ans) u) r refl) (ap (λ (x : Told). x.text) r.others) f,
)

silent_at : (i : Instance) (word : List ℕ) (ans : Answer) (k : ℕ) (t u : Told) → Checks i word ans k t u → TouchesProof word t u
silent_at i word ans k t u r = inr (k, r.others)

pub said : (i : Instance) (word : List ℕ) (ans : Answer) (k : ℕ) (s : VerifyStatus) (a c d : Option Told) → BothTell (Checks i word ans k) a c → IsSayStatus s ans
    → (s ≡ answer_status ans → BothTell (Adds outlet.Text (answer_text ans)) c d)
    → (s ≡ status.WriteFault → (j : ℕ) × BothTell (Adds outlet.Text (take j (answer_text ans))) c d)
    → (s ≡ status.NoMemory → d ≡ c) → BothTell (Judges i word s) a d
said i word ans k s a c d checks is whole torn same = elim is [
  | inl e ↦ subst (λ (x : VerifyStatus). BothTell (Judges i word x) a d) (sym e)
      (both_then (Checks i word ans k) (Adds outlet.Text (answer_text ans)) (Judges i word (answer_status ans))
      (λ t u v r f. said_at i word ans t v (gives i word ans k t u v r f)) a c d checks (whole e))
  | inr (inl e) ↦ subst (λ (x : VerifyStatus). BothTell (Judges i word x) a d) (sym e)
      (let (j, front) = torn e in
      both_then (Checks i word ans k) (Adds outlet.Text (take j (answer_text ans))) (Judges i word status.WriteFault)
      (λ t u v r f. torn_at i word ans k j t u v r f) a c d checks front)
  | inr (inr e) ↦ subst (λ (x : VerifyStatus). BothTell (Judges i word x) a d) (sym e)
      (subst (λ (x : Option Told). BothTell (TouchesProof word) a x) (sym (same e))
      (both_to (Checks i word ans k) (TouchesProof word) (λ t u r. silent_at i word ans k t u r) a c checks))
]

-- ---- where there is no answer

pub touched : (word : List ℕ) (k : ℕ) (a b c : Option Told) → BothTell (λ t u. u ≡ with_inlet_path inlet.Proof word t) a b → BothTell (TakesFirst inlet.Proof k) b c → BothTell (TouchesProof word) a c
touched word k a b c bound taken = both_then (λ t u. u ≡ with_inlet_path inlet.Proof word t) (TakesFirst inlet.Proof k) (TouchesProof word)
    (λ t u v e f. inr (k, bound_and_taken word k t u v e f)) a b c bound taken
