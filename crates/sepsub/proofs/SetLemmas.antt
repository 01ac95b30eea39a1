-- Members of proper sets, and cities outside.
use Rattle.std.proofs.Common.{◌≡◌, ℕ, ◌+◌, ◌<◌, ◌≤◌, true, false, eqb, List, [], ◌∷◌, length, refl, arith, ⊎_elim}
use Rattle.std.proofs.lemmas.Bool.{cases_lt, or_left, or_parts, eq-eqb, ne_eqb, eqb-false}
use Rattle.tspdef.specs.Sets.{has, RisesFrom, IsSet, IsProper}

pub first_in : (s : List ℕ) → 0 < length s → (x : ℕ) × (has s x ≡ true)
first_in [] l = absurd (omega arith)
first_in (c ∷ cs) l = (c, or_left _ _ (eq-eqb c c refl))

-- what is before a rising list is not in it
before_rising : (n m k : ℕ) (s : List ℕ) → RisesFrom n m s → k < m → has s k ≡ false
before_rising n m k [] r l = refl
before_rising n m k (c ∷ cs) r l =
    let e : eqb c k ≡ false = ne_eqb c k (omega arith) in
    let rest = before_rising n (c + 1) k cs r.1 (omega arith) in
    cc

-- a short rising list lacks a city
pub lacking : (n m : ℕ) (s : List ℕ) → RisesFrom n m s → m + length s < n → (y : ℕ) × ((m ≤ y) × ((y < n) × (has s y ≡ false)))
lacking n m [] r l = (m, (omega arith, (omega arith, refl)))
lacking n m (c ∷ cs) r l = ⊎_elim
    (λ q. (m, (omega arith, (omega arith, before_rising n c m (c ∷ cs) ((omega arith, r.0.1), r.1) q))))
    (λ q. let e : c ≡ m = omega arith in
    let d = lacking n (c + 1) cs r.1 (omega arith) in
    let ne : eqb c d.0 ≡ false = let o = d.1.0 in ne_eqb c d.0 (omega arith) in
    let h = d.1.1.1 in
    (d.0, (let o = d.1.0 in omega arith, (d.1.1.0, let goal : has (c ∷ cs) d.0 ≡ false = cc in goal))))
    (cases_lt m c)

few_from : (n m : ℕ) (s : List ℕ) → m ≤ n → RisesFrom n m s → m + length s ≤ n
few_from n m [] l r = omega arith
few_from n m (c ∷ cs) l r = let a = r.0.0 in let b = r.0.1 in let ih = few_from n (c + 1) cs (omega arith) r.1 in omega arith

-- a rising list that lacks a city is short
short_from : (n m k : ℕ) (s : List ℕ) → RisesFrom n m s → m ≤ k → k < n → has s k ≡ false → m + length s < n
short_from n m k [] r l h f = omega arith
short_from n m k (c ∷ cs) r l h f =
    let p = or_parts (eqb c k) (has cs k) f in
    let a = r.0.0 in
    let b = r.0.1 in
    ⊎_elim
    (λ (q : c < k). let ih = short_from n (c + 1) k cs r.1 (omega arith) h p.1 in omega arith)
    (λ (q : k ≤ c). let few = few_from n (c + 1) cs (omega arith) r.1 in let ne : c ≡ k → ⊥ = eqb-false c k p.0 in omega arith)
    (cases_lt c k)

some_in : (s : List ℕ) (k : ℕ) → has s k ≡ true → 0 < length s
some_in [] k h = absurd cc
some_in (c ∷ cs) k h = omega arith

pub proper_from : (n i o : ℕ) (s : List ℕ) → IsSet n s → has s i ≡ true → o < n → has s o ≡ false → IsProper n s
proper_from n i o s set holds inside lacks = record {
  set = set;
  some = some_in s i holds;
  not_all = let l = short_from n 0 o s set (omega arith) inside lacks in omega arith;
}
