-- How a call of `checkbound` ends.
use Rattle.std.proofs.Common.{◌≡◌, ℕ, ◌≤◌, List, [], length, take, drop, refl, sym, ap, subst, ◌∙◌, inl, inr, Option, Some, None}
use Rattle.std.specs.Prelude.{◌↔◌}
use Rattle.std.proofs.Math.Seq.{drop-length}
use Rattle.ports.specs.Outside.{BothTell, WhereTold}
use Rattle.ports.specs.Desk.{Told, Adds, TakesFirst, with_left, with_inlet_path}
use Rattle.ports.specs.declared.desk.Inlet.TheVariants as inlet
use Rattle.ports.specs.declared.desk.Outlet.TheVariants as outlet
use Rattle.tspdef.specs.Instances.{Instance}
use Rattle.tspinst.specs.Texts.{InstanceText}
use Rattle.onetree.specs.Certificates.{IsAccepted, IsRefused}
use Rattle.onetree.specs.Answers.{Judges, NoTourIsShorterThan, AnswersAreOne}
use Rattle.onetree.specs.declared.answer.Answer.{Answer}
use Rattle.onetree.specs.declared.answer.Answer.TheVariants as answers
use Rattle.tspwords.specs.Program.{instance_word, cert_word}
use Rattle.verification.specs.Transfers.{ReadsInstance, TouchesInstance, read_told, proof_told}
use Rattle.verification.specs.Runs.{IsSilent}
use Rattle.verification.proofs.Tells.{both_to, both_then}
use Rattle.tspengine.specs.Calls.{Call, SlotsKept}
use Rattle.tspengine.specs.Steps.{reads, prints}
use Rattle.tspengine.specs.Bounds.{takes}
use Rattle.tspengine.specs.Bounding.{ChecksBound, Unjudged, IsSaid, answer_text, answer_status, paths_of_bound}
use Rattle.tspengine.specs.declared.statuses.Status.{Status}
use Rattle.tspengine.specs.declared.statuses.Status.TheVariants as status
use Rattle.tspengine.proofs.InstanceReads.{EndsRefused, had, read_touches}

-- ---- where there is no answer

touched_is_silent : (words : Call) (a b : Option Told) → BothTell (TouchesInstance (instance_word words.words)) a b → BothTell (IsSilent (paths_of_bound words.words)) a b
touched_is_silent c a b r = both_to (TouchesInstance (instance_word c.words)) (IsSilent (paths_of_bound c.words)) (λ t u x. elim x [ inl e ↦ inl e | inr y ↦ inr (inl y) ]) a b r

-- the instance was touched
pub unjudged : (c : Call) → SlotsKept c → BothTell (TouchesInstance (instance_word c.words)) c.before.desk c.after.desk → Unjudged c
unjudged c kept touches = record { desk = touched_is_silent c c.before.desk c.after.desk touches; slots = kept }

pub refused_checkbound : (s : Status) (c : Call) → EndsRefused s c → ChecksBound s c
refused_checkbound s c ends = elim ends [
  | inl (e, x) ↦ inr (inr (inl (e, x)))
  | inr (inl (e, x)) ↦ inr (inr (inr (inr (inl (e, inl x)))))
  | inr (inr (e, x)) ↦ inr (inr (inr (inr (inr (e, unjudged c x.slots x.desk)))))
]

-- the instance was read, and the certificate could not be bound
pub unopened : (c : Call) (i : Instance) (b : Option Told) → SlotsKept c → BothTell (ReadsInstance (instance_word c.words) i) c.before.desk b → c.after.desk ≡ b → Unjudged c
unopened c i b kept read same = unjudged c kept
    (subst (λ (x : Option Told). BothTell (TouchesInstance (instance_word c.words)) c.before.desk x) (sym same) (read_touches (instance_word c.words) i c.before.desk b read))

-- it was bound, and a front of it taken
pub unread_certificate : (c : Call) (i : Instance) (k : ℕ) (b d : Option Told) → SlotsKept c → BothTell (ReadsInstance (instance_word c.words) i) c.before.desk b
    → BothTell (λ t u. u ≡ with_inlet_path inlet.Proof (cert_word c.words) t) b d → BothTell (TakesFirst inlet.Proof k) d c.after.desk → Unjudged c
unread_certificate c i k b d kept read bind taken =
    let path = instance_word c.words in
    let word = cert_word c.words in
    let both = both_then (λ t u. u ≡ with_inlet_path inlet.Proof word t) (TakesFirst inlet.Proof k) (λ t w. w ≡ proof_told word k t)
    (λ t v w e f. f ∙ ap (λ (x : Told). with_left inlet.Proof (drop k x.proof_in) x) e) b d c.after.desk bind taken in
    record {
      desk = both_then (ReadsInstance path i) (λ t w. w ≡ proof_told word k t) (IsSilent (paths_of_bound c.words))
          (λ t u w x f. inr (inr (k, f ∙ ap (λ (y : Told). proof_told word k y) x.others))) c.before.desk b c.after.desk read both;
      slots = kept;
    }

-- ---- an answer

-- the answer about some bytes, which is yes exactly where they are accepted
pub record IsAnswerOn (i : Instance) (bytes : List ℕ) (ans : Answer) : Type 0 where
  pub right : Judges i bytes ans
  pub exact : (b : ℕ) → (ans ≡ answers.Yes b) ↔ IsAccepted i bytes b

-- the certificate was bound to a word and judged, and nothing is printed yet
pub record IsJudged (i : Instance) (word : List ℕ) (ans : Answer) (t u : Told) : Type 0 where
  pub answer : IsAnswerOn i t.proof_in ans
  pub others : u ≡ takes word t

judged_at : (i : Instance) (word : List ℕ) (ans : Answer) (k : ℕ) (t u v : Told) → u ≡ with_inlet_path inlet.Proof word t → Judges i u.proof_in ans
    → ((b : ℕ) → (ans ≡ answers.Yes b) ↔ IsAccepted i u.proof_in b) → v.proof_in ≡ [] → TakesFirst inlet.Proof k u v → IsJudged i word ans t v
judged_at i word ans k t u v bind right exact whole taken =
    let same : u.proof_in ≡ t.proof_in = ap (λ (x : Told). x.proof_in) bind in
    let none : drop k u.proof_in ≡ [] = sym (ap (λ (x : Told). x.proof_in) taken) ∙ whole in record {
      answer = subst (λ (x : List ℕ). IsAnswerOn i x ans) same (record { right = right; exact = exact });
      others = taken ∙ ap (λ (rest : List ℕ). with_left inlet.Proof rest u) none ∙ ap (λ (x : Told). with_left inlet.Proof [] x) bind;
    }

pub judged : (i : Instance) (word : List ℕ) (ans : Answer) (k : ℕ) (a b c : Option Told) → BothTell (λ t u. u ≡ with_inlet_path inlet.Proof word t) a b
    → WhereTold (λ t. Judges i t.proof_in ans) b → WhereTold (λ t. (n : ℕ) → (ans ≡ answers.Yes n) ↔ IsAccepted i t.proof_in n) b
    → BothTell (λ t u. u.proof_in ≡ []) b c → BothTell (TakesFirst inlet.Proof k) b c → BothTell (IsJudged i word ans) a c
judged i word ans k None None None bind right exact whole taken = tt
judged i word ans k None None (Some v) bind right exact whole taken = absurd taken
judged i word ans k None (Some u) c bind right exact whole taken = absurd bind
judged i word ans k (Some t) None c bind right exact whole taken = absurd bind
judged i word ans k (Some t) (Some u) None bind right exact whole taken = absurd taken
judged i word ans k (Some t) (Some u) (Some v) bind right exact whole taken = judged_at i word ans k t u v bind right exact whole taken

-- and before it the instance was read
record IsReadAndJudged (path word : List ℕ) (i : Instance) (ans : Answer) (t u : Told) : Type 0 where
  pub read : InstanceText t.instance i
  pub answer : IsAnswerOn i t.proof_in ans
  pub others : u ≡ takes word (reads path t)

read_and_judged : (path word : List ℕ) (i : Instance) (ans : Answer) (a b c : Option Told) → BothTell (ReadsInstance path i) a b → BothTell (IsJudged i word ans) b c
    → BothTell (IsReadAndJudged path word i ans) a c
read_and_judged path word i ans a b c read judges = both_then (ReadsInstance path i) (IsJudged i word ans) (IsReadAndJudged path word i ans)
    (λ t u v x f. record {
      read = x.read;
      answer = subst (λ (y : List ℕ). IsAnswerOn i y ans) (ap (λ (w : Told). w.proof_in) x.others) f.answer;
      others = f.others ∙ ap (takes word) x.others;
    })
    a b c read judges

-- the answer was printed, or a front of it
printed_so : (path word printed : List ℕ) (i : Instance) (ans : Answer) (a b c : Option Told) → BothTell (IsReadAndJudged path word i ans) a b → BothTell (Adds outlet.Text printed) b c
    → BothTell (λ t u. u ≡ prints printed (takes word (reads path t))) a c
printed_so path word printed i ans a b c judges adds = both_then (IsReadAndJudged path word i ans) (Adds outlet.Text printed) (λ t u. u ≡ prints printed (takes word (reads path t)))
    (λ t u v x f. f ∙ ap (prints printed) x.others) a b c judges adds

yes_is_one : (b other : ℕ) → answers.Yes b ≡ answers.Yes other → other ≡ b
yes_is_one b other e = cc

no_is_one : (k at j to : ℕ) → answers.No k at ≡ answers.No j to → (j ≡ k) × (to ≡ at)
no_is_one k at j to e = let x : j ≡ k = cc in let y : to ≡ at = cc in (x, y)

no_is_not_yes : (k at b : ℕ) → answers.No k at ≡ answers.Yes b → ⊥
no_is_not_yes k at b e = cc

-- what is printed of an answer, by its status
told_at : AnswersAreOne → (ans : Answer) (c : Call) (i : Instance) (e : Option Told) → i.n ≤ 2000 → NoTourIsShorterThan i ans → SlotsKept c
    → BothTell (IsReadAndJudged (instance_word c.words) (cert_word c.words) i ans) c.before.desk e
    → BothTell (Adds outlet.Text (answer_text ans)) e c.after.desk → ChecksBound (answer_status ans) c
told_at law (answers.Yes b) c i e few shorter kept judges adds =
    let path = instance_word c.words in
    let word = cert_word c.words in
    let R = IsReadAndJudged path word i (answers.Yes b) in
    inl (
      refl,
      record {
        instance = i;
        bound = b;
        bytes_read = had R (λ t. InstanceText t.instance i) (λ t u x. x.read) c.before.desk e judges;
        certificate_is_accepted = had R (λ t. IsAccepted i t.proof_in b) (λ t u x. x.answer.right) c.before.desk e judges;
        accepted_with_no_other = had R (λ t. (other : ℕ) → IsAccepted i t.proof_in other → other ≡ b) (λ t u x other h. yes_is_one b other ((x.answer.exact other).1 h)) c.before.desk e judges;
        no_tour_is_shorter = shorter;
        desk = printed_so path word (answer_text (answers.Yes b)) i (answers.Yes b) c.before.desk e c.after.desk judges adds;
        slots = kept;
      },
    )
told_at law (answers.No k at) c i e few shorter kept judges adds =
    let path = instance_word c.words in
    let word = cert_word c.words in
    let R = IsReadAndJudged path word i (answers.No k at) in
    inr (inl (
      refl,
      record {
        instance = i;
        refusal = k;
        line = at;
        bytes_read = had R (λ t. InstanceText t.instance i) (λ t u x. x.read) c.before.desk e judges;
        first_refusal = had R (λ t. IsRefused i t.proof_in k at) (λ t u x. x.answer.right) c.before.desk e judges;
        refused_with_no_other = had R (λ t. (j to : ℕ) → IsRefused i t.proof_in j to → (j ≡ k) × (to ≡ at))
            (λ t u x j to h. no_is_one k at j to (law i t.proof_in (answers.No k at) (answers.No j to) few x.answer.right h)) c.before.desk e judges;
        accepted_with_no_bound = had R (λ t. (b : ℕ) → ¬ IsAccepted i t.proof_in b) (λ t u x b h. no_is_not_yes k at b ((x.answer.exact b).1 h)) c.before.desk e judges;
        desk = printed_so path word (answer_text (answers.No k at)) i (answers.No k at) c.before.desk e c.after.desk judges adds;
        slots = kept;
      },
    ))

torn_at : (ans : Answer) (c : Call) (i : Instance) (e : Option Told) (k : ℕ) → SlotsKept c
    → BothTell (IsReadAndJudged (instance_word c.words) (cert_word c.words) i ans) c.before.desk e
    → BothTell (Adds outlet.Text (take k (answer_text ans))) e c.after.desk → ChecksBound status.WriteFault c
torn_at ans c i e k kept judges front =
    let path = instance_word c.words in
    let word = cert_word c.words in
    let R = IsReadAndJudged path word i ans in
    inr (inr (inr (inr (inl (
      refl,
      inr (record {
        instance = i;
        answer = ans;
        front = k;
        bytes_read = had R (λ t. InstanceText t.instance i) (λ t u x. x.read) c.before.desk e judges;
        judged = had R (λ t. Judges i t.proof_in ans) (λ t u x. x.answer.right) c.before.desk e judges;
        desk = printed_so path word (take k (answer_text ans)) i ans c.before.desk e c.after.desk judges front;
        slots = kept;
      }),
    )))))

silent_at : (ans : Answer) (c : Call) (i : Instance) (e : Option Told) → SlotsKept c
    → BothTell (IsReadAndJudged (instance_word c.words) (cert_word c.words) i ans) c.before.desk e → c.after.desk ≡ e → Unjudged c
silent_at ans c i e kept judges same =
    let path = instance_word c.words in
    let word = cert_word c.words in record {
      desk = subst (λ (x : Option Told). BothTell (IsSilent (paths_of_bound c.words)) c.before.desk x) (sym same)
          (both_to (IsReadAndJudged path word i ans) (IsSilent (paths_of_bound c.words))
          (λ t u x. inr (inr (
            length t.proof_in,
            x.others ∙ ap (λ (rest : List ℕ). with_left inlet.Proof rest (with_inlet_path inlet.Proof word (read_told path t))) (sym (drop-length t.proof_in)),
          )))
          c.before.desk e judges);
      slots = kept;
    }

pub answered : AnswersAreOne → (s : Status) (ans : Answer) (c : Call) (i : Instance) (b e : Option Told) → i.n ≤ 2000 → NoTourIsShorterThan i ans → SlotsKept c
    → BothTell (ReadsInstance (instance_word c.words) i) c.before.desk b → BothTell (IsJudged i (cert_word c.words) ans) b e → IsSaid s ans
    → (s ≡ answer_status ans → BothTell (Adds outlet.Text (answer_text ans)) e c.after.desk)
    → (s ≡ status.WriteFault → (k : ℕ) × BothTell (Adds outlet.Text (take k (answer_text ans))) e c.after.desk)
    → (s ≡ status.NoMemory → c.after.desk ≡ e) → ChecksBound s c
answered law s ans c i b e few shorter kept read judges is whole torn same =
    let both = read_and_judged (instance_word c.words) (cert_word c.words) i ans c.before.desk b e read judges in
    elim is [
      | inl q ↦ subst (λ (x : Status). ChecksBound x c) (sym q) (told_at law ans c i e few shorter kept both (whole q))
      | inr (inl q) ↦ subst (λ (x : Status). ChecksBound x c) (sym q) (let (k, front) = torn q in torn_at ans c i e k kept both front)
      | inr (inr q) ↦ inr (inr (inr (inr (inr (q, silent_at ans c i e kept both (same q))))))
    ]
