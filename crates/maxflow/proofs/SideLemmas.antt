-- The sets that a search met.
use Rattle.std.proofs.Common.{◌≡◌, ℕ, ◌+◌, ◌<◌, ◌≤◌, Bool, true, false, eqb, ◌||◌, List, [], ◌∷◌, ◌++◌, length, refl, subst, sym, ◌∙◌, arith, ⊎_elim}
use Rattle.std.proofs.lemmas.Bool.{cases_eq, cases_lt, or_parts, eq-eqb, ne_eqb, eqb-false}
use Rattle.tspdef.specs.Sets.{has, RisesFrom, IsSet, IsProper}
use Rattle.cyc.proofs.ListLemmas.{has-push}

-- one city more, the last
pub set_push : (k m : ℕ) (xs : List ℕ) → m ≤ k → RisesFrom k m xs → RisesFrom (k + 1) m (xs ++ k ∷ [])
set_push k m [] le r = ((le, omega arith), tt)
set_push k m (x ∷ xs) le r = let a = r.0.0 in let b = r.0.1 in ((a, omega arith), set_push k (x + 1) xs (omega arith) r.1)

-- a set of cities below k is one of cities below k + 1
pub set_wider : (k m : ℕ) (xs : List ℕ) → RisesFrom k m xs → RisesFrom (k + 1) m xs
set_wider k m [] r = tt
set_wider k m (x ∷ xs) r = let a = r.0.0 in let b = r.0.1 in ((a, omega arith), set_wider k (x + 1) xs r.1)

-- the cities below k that pass are listed, and no others
pub record AreThoseBelow (k : ℕ) (passes : ℕ → Bool) (xs : List ℕ) : Type 0 where
  pub set : RisesFrom k 0 xs
  pub below : (j : ℕ) → j < k → has xs j ≡ passes j
  pub past : (j : ℕ) → k ≤ j → has xs j ≡ false

pub those_none : (passes : ℕ → Bool) → AreThoseBelow 0 passes []
those_none passes = record { set = tt; below = λ j h. absurd (omega arith); past = λ j h. refl }

or_false : (b c : Bool) → b ≡ false → (b || c) ≡ c
or_false true c e = absurd cc
or_false false c e = refl

or_true : (b c : Bool) → b ≡ true → (b || c) ≡ true
or_true true c e = refl
or_true false c e = absurd cc

pub those_push : (k : ℕ) (passes : ℕ → Bool) (xs : List ℕ) → AreThoseBelow k passes xs → passes k ≡ true → AreThoseBelow (k + 1) passes (xs ++ k ∷ [])
those_push k passes xs a t = record {
  set = set_push k 0 xs (omega arith) a.set;
  below = λ j h. ⊎_elim
      (λ (e : j ≡ k). has-push xs k j ∙ or_true (eqb k j) (has xs j) (eq-eqb k j (sym e)) ∙ sym (subst (λ i. passes i ≡ true) (sym e) t))
      (λ (ne : j ≡ k → ⊥). has-push xs k j ∙ or_false (eqb k j) (has xs j) (ne_eqb k j (omega arith)) ∙ a.below j (omega arith))
      (cases_eq j k);
  past = λ j h. has-push xs k j ∙ or_false (eqb k j) (has xs j) (ne_eqb k j (omega arith)) ∙ a.past j (omega arith);
}

pub those_skip : (k : ℕ) (passes : ℕ → Bool) (xs : List ℕ) → AreThoseBelow k passes xs → passes k ≡ false → AreThoseBelow (k + 1) passes xs
those_skip k passes xs a f = record {
  set = set_wider k 0 xs a.set;
  below = λ j h. ⊎_elim
      (λ (e : j ≡ k). a.past j (omega arith) ∙ sym (subst (λ i. passes i ≡ false) (sym e) f))
      (λ (ne : j ≡ k → ⊥). a.below j (omega arith))
      (cases_eq j k);
  past = λ j h. a.past j (omega arith);
}

-- ---- proper sets

few_from : (n m : ℕ) (s : List ℕ) → m ≤ n → RisesFrom n m s → m + length s ≤ n
few_from n m [] l r = omega arith
few_from n m (c ∷ cs) l r = let a = r.0.0 in let b = r.0.1 in let ih = few_from n (c + 1) cs (omega arith) r.1 in omega arith

-- a rising list that lacks a city is short
short_from : (n m k : ℕ) (s : List ℕ) → RisesFrom n m s → m ≤ k → k < n → has s k ≡ false → m + length s < n
short_from n m k [] r l h f = omega arith
short_from n m k (c ∷ cs) r l h f =
    let p = or_parts (eqb c k) (has cs k) f in
    let a = r.0.0 in
    let b = r.0.1 in
    ⊎_elim
    (λ (q : c < k). let ih = short_from n (c + 1) k cs r.1 (omega arith) h p.1 in omega arith)
    (λ (q : k ≤ c). let few = few_from n (c + 1) cs (omega arith) r.1 in let ne : c ≡ k → ⊥ = eqb-false c k p.0 in omega arith)
    (cases_lt c k)

some_in : (s : List ℕ) (k : ℕ) → has s k ≡ true → 0 < length s
some_in [] k h = absurd cc
some_in (c ∷ cs) k h = omega arith

-- a set that holds one city and lacks another is proper
pub proper_from : (n i o : ℕ) (s : List ℕ) → IsSet n s → has s i ≡ true → o < n → has s o ≡ false → IsProper n s
proper_from n i o s set holds inside lacks = record {
  set = set;
  some = some_in s i holds;
  not_all = let l = short_from n 0 o s set (omega arith) inside lacks in omega arith;
}
