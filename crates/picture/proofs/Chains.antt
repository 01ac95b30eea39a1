-- Texts that are put together piece by piece.
use Rattle.std.proofs.Common.{◌≡◌, ℕ, List, ◌++◌, ap, ◌∙◌, append_assoc, Result, Ok, Err}
use Rattle.std.specs.Prelude.{OnOk, is_ok, if◌then◌else◌}

-- a last piece, if there was memory for it
pub when_ok : {A E : Type 0} (r : Result A E) (x y z : List ℕ) → x ≡ (if is_ok r then z else y) → OnOk r (x ≡ z)
when_ok (Ok a) x y z e = e
when_ok (Err f) x y z e = tt

pub then_ok : {A E : Type 0} (r : Result A E) (P Q : Type 0) → OnOk r P → (P → Q) → OnOk r Q
then_ok (Ok a) P Q p f = f p
then_ok (Err e) P Q p f = tt

-- one piece between two
pub between : (old a mid b s t u : List ℕ) → s ≡ old ++ a → t ≡ s ++ mid → u ≡ t ++ b → u ≡ old ++ (a ++ mid ++ b)
between old a mid b s t u e f g = g ∙ (ap (λ (x : List ℕ). x ++ b) (f ∙ (ap (λ (x : List ℕ). x ++ mid) e ∙ append_assoc old a mid)) ∙ append_assoc old (a ++ mid) b)

-- three pieces between two
pub three_between : (old a x y z b s t u v w : List ℕ) → s ≡ old ++ a → t ≡ s ++ x → u ≡ t ++ y → v ≡ u ++ z → w ≡ v ++ b → w ≡ old ++ (a ++ x ++ y ++ z ++ b)
three_between old a x y z b s t u v w e f g h i =
    let two : u ≡ old ++ (a ++ x ++ y) = between old a x y s t u e f g in
    i ∙ (ap (λ (q : List ℕ). q ++ b) (h ∙ (ap (λ (q : List ℕ). q ++ z) two ∙ append_assoc old (a ++ x ++ y) z)) ∙ append_assoc old (a ++ x ++ y ++ z) b)
