-- Lists that are read one by one.
use Rattle.std.proofs.Common.{◌≡◌, ℕ, zero, suc, ◌+◌, ◌-◌, ◌<◌, ◌≤◌, List, [], ◌∷◌, ◌++◌, length, Option, Some, None, refl, sym, ap, ◌∙◌, arith}
use Rattle.std.specs.Prelude.{slice_get, nat_le, nat_lt, true}
use Rattle.std.specs.List.{AllByRecursion}
use Rattle.std.specs.Option.{option_map}
use Rattle.std.proofs.lemmas.Bool.{leb-true}
use Rattle.std.proofs.lemmas.Bool.Decides.{nat_tests}
use Rattle.certdef.specs.Verdicts.{after}
use Rattle.tapeboss.specs.Messages.{onward, listed_on}

-- the next one is read
pub listed_step : {X : Type 0} (next : List X → List ℕ → Option (X × List ℕ)) (xs : List X) (left : ℕ) (text : List ℕ) (r : X × List ℕ) → 0 < left → next xs text ≡ Some r
    → listed_on next xs left text ≡ listed_on next (xs ++ r.0 ∷ []) (left - 1) r.1
listed_step {X} next xs zero text r some e = absurd (omega arith)
listed_step {X} next xs (suc k) text r some e =
    let less : suc k - 1 ≡ k = omega arith in
    ap (λ o. onward o (λ (q : X × List ℕ). listed_on next (xs ++ q.0 ∷ []) k q.1)) e ∙ ap (λ j. listed_on next (xs ++ r.0 ∷ []) j r.1) (sym less)

-- there is no next one
pub listed_stuck : {X : Type 0} (next : List X → List ℕ → Option (X × List ℕ)) (xs : List X) (left : ℕ) (text : List ℕ) → 0 < left → next xs text ≡ None
    → listed_on next xs left text ≡ None
listed_stuck {X} next xs zero text some e = absurd (omega arith)
listed_stuck {X} next xs (suc k) text some e = ap (λ o. onward o (λ (q : X × List ℕ). listed_on next (xs ++ q.0 ∷ []) k q.1)) e

-- all are read
pub listed_all : {X : Type 0} (next : List X → List ℕ → Option (X × List ℕ)) (xs : List X) (left : ℕ) (text : List ℕ) → left ≡ 0 → listed_on next xs left text ≡ Some (xs, text)
listed_all {X} next xs zero text e = refl
listed_all {X} next xs (suc k) text e = absurd (omega arith)

-- One more is read, of those that are read with a view.
pub one_read : {X Y : Type 0} (next : ℕ → List X → List ℕ → Option (X × List ℕ)) (view : Y → X) (n m count at : ℕ) (xs ys new : List X) (text rest : List ℕ) (o : Option Y) (y : Y) (all : Option (List X × List ℕ))
    → at < count → m ≡ n → ys ≡ xs → option_map (λ (p : Y). (view p, rest)) o ≡ next m ys text → o ≡ Some y → new ≡ xs ++ view y ∷ []
    → listed_on (next n) xs (count - at) text ≡ all → listed_on (next n) new (count - (at + 1)) rest ≡ all
one_read {X} {Y} next view n m count at xs ys new text rest o y all l e f v is put h =
    let here : next n xs text ≡ Some (view y, rest) = ap (λ (k : ℕ). next k xs text) (sym e) ∙ (ap (λ (z : List X). next m z text) (sym f) ∙ (sym v ∙ ap (option_map (λ (p : Y). (view p, rest))) is)) in
    let less : count - (at + 1) ≡ (count - at) - 1 = omega arith in
    ap (λ (z : List X). listed_on (next n) z (count - (at + 1)) rest) put
    ∙ (ap (λ (j : ℕ). listed_on (next n) (xs ++ view y ∷ []) j rest) less
    ∙ (sym (listed_step (next n) xs (count - at) text (view y, rest) (omega arith) here) ∙ h))

-- The next one is not read.
pub none_read : {X Y : Type 0} (next : ℕ → List X → List ℕ → Option (X × List ℕ)) (view : Y → X) (n m count at : ℕ) (xs ys : List X) (text rest : List ℕ) (o : Option Y) (all : Option (List X × List ℕ))
    → at < count → m ≡ n → ys ≡ xs → option_map (λ (p : Y). (view p, rest)) o ≡ next m ys text → o ≡ None
    → listed_on (next n) xs (count - at) text ≡ all → None ≡ all
none_read {X} {Y} next view n m count at xs ys text rest o all l e f v is h =
    let here : next n xs text ≡ None = ap (λ (k : ℕ). next k xs text) (sym e) ∙ (ap (λ (z : List X). next m z text) (sym f) ∙ (sym v ∙ ap (option_map (λ (p : Y). (view p, rest))) is)) in
    sym (listed_stuck (next n) xs (count - at) text (omega arith) here) ∙ h

-- one more with a property
pub all_and_one : {X : Type 0} (P : X → Type 0) (xs : List X) (x : X) → AllByRecursion P xs → P x → AllByRecursion P (xs ++ x ∷ [])
all_and_one P [] x h p = (p, tt)
all_and_one P (y ∷ ys) x h p = (h.0, all_and_one P ys x h.1 p)

-- ---- numbers that rise

after_last : {X : Type 0} (xs : List (ℕ × X)) (k : ℕ) (v : ℕ × X) → suc k ≡ length xs → Some v ≡ slice_get xs k → after xs ≡ v.0 + 1
after_last [] k v l e = absurd (omega arith)
after_last (p ∷ []) zero v l e = let h : v ≡ p = cc in ap (λ r. r.0 + 1) (sym h)
after_last (p ∷ []) (suc k) v l e = absurd (omega arith)
after_last (p ∷ q ∷ qs) zero v l e = absurd (omega arith)
after_last (p ∷ q ∷ qs) (suc k) v l e = after_last (q ∷ qs) k v (omega arith) e

below_is_within : (a b : ℕ) → nat_lt a b ≡ nat_le (a + 1) b
below_is_within a b = grind (arith, nat_tests)

-- a number above the last may follow
pub follows : {X : Type 0} (xs : List (ℕ × X)) (v : ℕ × X) (next : ℕ) → 0 < length xs → Some v ≡ slice_get xs (length xs - 1) → nat_lt v.0 next ≡ nat_le (after xs) next
follows xs v next l e = below_is_within v.0 next ∙ ap (λ r. nat_le r next) (sym (after_last xs (length xs - 1) v (omega arith) e))

some_after : {X : Type 0} (xs : List (ℕ × X)) → 1 ≤ after xs
some_after [] = omega arith
some_after (p ∷ []) = omega arith
some_after (p ∷ q ∷ qs) = some_after (q ∷ qs)

-- numbers that rise are from 1 on
pub from_one : {X : Type 0} (xs : List (ℕ × X)) (next : ℕ) → nat_le (after xs) next ≡ true → 1 ≤ next
from_one xs next h = let low = some_after xs in let high = leb-true (after xs) next h in omega (arith, low, high)
