use Rattle.std.proofs.Common.{◌≡◌, ◌≤◌, ℕ, List, [], ◌∷◌, ◌++◌, pos, ⊎_elim, get_or, subst, sym}
use Rattle.std.specs.Prelude.{replicate}
use Rattle.std.specs.List.{AllByRecursion}
use Rattle.std.proofs.lemmas.Bool.{cases_lt}
use Rattle.std.proofs.lemmas.List.{get_or-replicate, get_or_past, length-replicate}

-- a fact of each element, and of one more behind them
pub all_push : {X : Type 0} (P : X → Type 0) (xs : List X) (x : X) → AllByRecursion P xs → P x → AllByRecursion P (xs ++ x ∷ [])
all_push {X} P [] x a p = (p, tt)
all_push {X} P (y ∷ xs) x a p = (a.0, all_push {X = X} P xs x a.1 p)

pub all_front : {X : Type 0} (P : X → Type 0) (xs : List X) (x : X) → AllByRecursion P (xs ++ x ∷ []) → AllByRecursion P xs
all_front {X} P [] x a = tt
all_front {X} P (y ∷ xs) x a = (a.0, all_front {X = X} P xs x a.1)

pub all_last : {X : Type 0} (P : X → Type 0) (xs : List X) (x : X) → AllByRecursion P (xs ++ x ∷ []) → P x
all_last {X} P [] x a = a.0
all_last {X} P (y ∷ xs) x a = all_last {X = X} P xs x a.1

-- nothing but 0
pub no_number : (n k : ℕ) → get_or (replicate n (pos 0)) k (pos 0) ≡ pos 0
no_number n k = ⊎_elim (λ l. get_or-replicate n k (pos 0) (pos 0) l) (λ g. get_or_past (replicate n (pos 0)) k (pos 0) (subst (λ m. m ≤ k) (sym (length-replicate n (pos 0))) g)) (cases_lt k n)
