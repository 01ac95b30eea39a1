-- What becomes of a desk's proof that is read piece by piece.
use Rattle.std.proofs.Common.{◌≡◌, ℕ, ◌+◌, ◌<◌, ◌^◌, List, [], ◌∷◌, ◌++◌, length, refl, sym, ap, subst, ◌∙◌, arith, Option, Some, None, Result, Ok, Err, Bool, true, false}
use Rattle.std.specs.Prelude.{IfOk, ◌↔◌, ◌==◌, nat_le, nat_lt, if◌then◌else◌}
use Rattle.ports.specs.Outside.{BothTell, WhereTold}
use Rattle.ports.specs.Desk.{Told, Takes, TakesAll, IsAtEnd, left}
use Rattle.ports.specs.declared.desk.Inlet.TheVariants as inlet
use Rattle.ports.proofs.Transfers.{takes_more, takes_all}
use Rattle.tspdef.specs.Instances.{Instance}
use Rattle.certdef.specs.Items.{item_of, longest}
use Rattle.certdef.specs.Accepted.{most_bytes, IsAcceptedText}
use Rattle.verdict.specs.Laws.{YesIsAcceptedText}
use Rattle.certdef.specs.Tests.{Tests}
use Rattle.certdef.specs.Verdicts.{Verdict, yes, no, Outcome, go, refused, is_end, line_step}
use Rattle.certdef.specs.Bytes.{Reading, Read, reads, stops, line_on, byte_on, bytes_on, verdict}
use Rattle.certcheck.specs.Answers.{verdict_of, Tells}
use Rattle.certcheck.specs.declared.answer.Answer.{Answer}
use Rattle.certcheck.specs.declared.answer.Answer.TheVariants as answers
use Rattle.certcheck.specs.Checkers.{IsRefusalOf}
use Rattle.certcheck.specs.declared.answer.CheckError.{CheckError}
use Rattle.certcheck.specs.declared.answer.Trouble.{Trouble}
use Rattle.certcheck.specs.declared.answer.Trouble.TheVariants as troubles

-- the pieces are the whole
pub ends_judged : (i : Instance) (c b : List ℕ) (w : Verdict) (t u v : Option Told) → BothTell (Takes inlet.Proof c) t u → BothTell (Takes inlet.Proof b) u v → b ≡ [] → WhereTold (IsAtEnd inlet.Proof) u
    → w ≡ verdict i c → WhereTold (λ t. w ≡ verdict i t.proof_in) t
ends_judged i c b w t u v x y e end h = told t v (takes_all inlet.Proof c b t u v x y e end) where
  told : (t v : Option Told) → BothTell (TakesAll inlet.Proof c) t v → WhereTold (λ t. w ≡ verdict i t.proof_in) t
  told None v z = tt
  told (Some t) None z = absurd z
  told (Some t) (Some v) z = h ∙ sym (ap (verdict i) z.whole)

-- all was taken
pub ends_taken : (c b : List ℕ) (t u v : Option Told) → BothTell (Takes inlet.Proof c) t u → BothTell (Takes inlet.Proof b) u v → b ≡ [] → WhereTold (IsAtEnd inlet.Proof) u
    → BothTell (λ t u. u.proof_in ≡ []) t v
ends_taken c b t u v x y e end = told t v (takes_all inlet.Proof c b t u v x y e end) where
  told : (t v : Option Told) → BothTell (TakesAll inlet.Proof c) t v → BothTell (λ t u. u.proof_in ≡ []) t v
  told None None z = tt
  told None (Some v) z = z
  told (Some t) None z = z
  told (Some t) (Some v) z = ap (λ (w : Told). w.proof_in) z.others

-- a piece is refused
pub refusal_judged : (i : Instance) (c b : List ℕ) (k at : ℕ) (t u v : Option Told) → BothTell (Takes inlet.Proof c) t u → BothTell (Takes inlet.Proof b) u v
    → ((more : List ℕ) → verdict i ((c ++ b) ++ more) ≡ no k at) → WhereTold (λ t. no k at ≡ verdict i t.proof_in) t
refusal_judged i c b k at t u v x y f = told t v (takes_more inlet.Proof c b (c ++ b) t u v x y refl) where
  told : (t v : Option Told) → BothTell (Takes inlet.Proof (c ++ b)) t v → WhereTold (λ t. no k at ≡ verdict i t.proof_in) t
  told None v z = tt
  told (Some t) None z = absurd z
  told (Some t) (Some v) z = sym (ap (verdict i) z.front ∙ f (left inlet.Proof v))

-- a refusal is told, unless there is no memory
pub refusal_told : (i : Instance) (c b : List ℕ) (trouble : Trouble) (result : Result Answer CheckError) (t u v : Option Told)
    → BothTell (Takes inlet.Proof c) t u → BothTell (Takes inlet.Proof b) u v → ((more : List ℕ) → IsRefusalOf i trouble ((c ++ b) ++ more))
    → Tells trouble result → IfOk result (λ a. WhereTold (λ t. verdict_of a ≡ verdict i t.proof_in) t)
refusal_told i c b troubles.NoMemory result t u v x y f e = subst (λ s. IfOk s (λ a. WhereTold (λ t. verdict_of a ≡ verdict i t.proof_in) t)) (sym e) tt
refusal_told i c b (troubles.Refused k at) result t u v x y f e =
    subst (λ s. IfOk s (λ a. WhereTold (λ t. verdict_of a ≡ verdict i t.proof_in) t)) (sym e) (refusal_judged i c b k at t u v x y f)

-- the answer is yes exactly where the verdict is
yes_of : (a : Answer) (v : Verdict) (l b : ℕ) → verdict_of a ≡ v → (a ≡ answers.Yes l b) ↔ (v ≡ yes l b)
yes_of (answers.Yes m k) v l b e = (
  (λ h. let x : m ≡ l = cc in let y : k ≡ b = cc in sym e ∙ (ap (λ q. yes q k) x ∙ ap (yes l) y)),
  (λ h. let x : m ≡ l = cc in let y : k ≡ b = cc in ap (λ q. answers.Yes q k) x ∙ ap (answers.Yes l) y),
)
yes_of (answers.No k at) v l b e = ((λ h. cc), (λ h. cc))

pub accepted_of : (i : Instance) (result : Result Answer CheckError) (t : Option Told) → i.n < 2 ^ 32 → YesIsAcceptedText → IfOk result (λ a. WhereTold (λ t. verdict_of a ≡ verdict i t.proof_in) t)
    → IfOk result (λ a. WhereTold (λ t. (l b : ℕ) → (a ≡ answers.Yes l b) ↔ IsAcceptedText i t.proof_in l b) t)
accepted_of i (Err e) t few law h = tt
accepted_of i (Ok a) None few law h = tt
accepted_of i (Ok a) (Some t) few law h = λ l b.
    let one = yes_of a (verdict i t.proof_in) l b h in
    let two = law i t.proof_in l b few in
    ((λ x. two.0 (one.0 x)), (λ x. one.1 (two.1 x)))

-- ---- each byte that is read counts

abbrev Grows : ℕ → Read → Type 0
Grows n x = (q : Reading) → x ≡ reads q → q.read ≡ n

grows_not : (n k at : ℕ) → Grows n (stops k at)
grows_not n k at q e = cc

grows_if : (n : ℕ) (b : Bool) (x y : Read) → Grows n x → Grows n y → Grows n (if b then x else y)
grows_if n true x y f g = f
grows_if n false x y f g = g

grows_line : (at read : ℕ) (o : Outcome) → Grows (read + 1) (line_on at read o)
grows_line at read (go s) q e = ap read_of (sym e) where
  read_of : Read → ℕ
  read_of (reads r) = r.read
  read_of (stops k at) = 0
grows_line at read (refused k from) q e = cc

grows_byte : (j : Tests) (r : Reading) (b : ℕ) → Grows (r.read + 1) (byte_on j r b)
grows_byte j r b =
    grows_if (r.read + 1) (nat_le most_bytes r.read) _ _ (grows_not (r.read + 1) 10 r.at)
    (grows_if (r.read + 1) (is_end r.stage) _ _ (grows_not (r.read + 1) 9 r.at)
    (grows_if (r.read + 1) (b == 10) _ _ (grows_line r.at r.read (line_step j r.at r.stage (item_of j.n r.begun)))
    (grows_if (r.read + 1) (nat_lt (length r.begun) longest) _ _ (λ q e. ap read_of (sym e)) (grows_not (r.read + 1) 1 r.at)))) where
      read_of : Read → ℕ
      read_of (reads r) = r.read
      read_of (stops k at) = 0

grows_from : (x : Read) (j : Tests) (bs : List ℕ) (n : ℕ) → Grows n x → Grows (n + length bs) (bytes_on j x bs)
grows_from (stops k at) j bs n h q e = cc
grows_from (reads r) j [] n h q e = h q e ∙ omega arith
grows_from (reads r) j (b ∷ bs) n h q e =
    grows_from (byte_on j r b) j bs (n + 1) (λ s f. grows_byte j r b s f ∙ ap (λ k. k + 1) (h r refl)) q e ∙ omega arith

pub read_grows : (j : Tests) (r q : Reading) (bs : List ℕ) → bytes_on j (reads r) bs ≡ reads q → q.read ≡ r.read + length bs
read_grows j r q bs e = grows_from (reads r) j bs r.read (λ s f. ap read_of (sym f)) q e where
  read_of : Read → ℕ
  read_of (reads r) = r.read
  read_of (stops k at) = 0
