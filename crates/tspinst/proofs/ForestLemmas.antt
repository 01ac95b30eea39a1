-- Pairs and parts: where no cycle is closed, a set that no pair leaves has a city with one pair at most.
use Rattle.std.proofs.Common.{◌≡◌, ◌≢◌, ℕ, zero, suc, ◌+◌, ◌<◌, ◌≤◌, ◌⊎◌, inl, inr, Bool, true, false, cond, ◌==◌, ◌||◌, ◌&&◌, List, [], ◌∷◌, refl, sym, ◌∙◌, ap, arith}
use Rattle.std.specs.List.{AllByRecursion}
use Rattle.std.proofs.lemmas.Bool.{false≢true}
use Rattle.std.proofs.lemmas.Bool.Decides.{eqb_tells, nat_tests}
use Rattle.tspdef.specs.Fixed.{pairs_at, NoneLeaves, IsEnd, LeavesNoneOut}
use Rattle.tspinst.specs.Fixings.{sum_to, pairs_in, name_at, ArePartNames, IsForest, IsOnePart}
use Rattle.tspinst.proofs.TableLemmas.{same_eqb}
use Rattle.tspinst.proofs.SumLemmas.{sum_same, sum_plus, sum_least, sum_none, sum_one}

one_end : (b : Bool) (d : ℕ) → cond b (1 + d) 0 ≡ cond b 1 0 + cond b d 0
one_end true d = refl
one_end false d = refl

no_end : (b : Bool) (d : ℕ) → cond b (0 + d) 0 ≡ cond b d 0
no_end true d = omega arith
no_end false d = refl

module _ (n : ℕ) (s : ℕ → Bool) where
  -- the pairs at a city of the set
  abbrev pub inside : List (ℕ × ℕ) → ℕ → ℕ
  inside pairs c = cond (s c) (pairs_at pairs c) 0

  abbrev ends : ℕ × ℕ → ℕ → ℕ
  ends p c = cond (p.0 == c) (cond (s p.0) 1 0) 0 + cond (p.1 == c) (cond (s p.1) 1 0) 0

  ends_split : (p : ℕ × ℕ) (ps : List (ℕ × ℕ)) (c : ℕ) → p.0 < p.1 → inside (p ∷ ps) c ≡ ends p c + inside ps c
  ends_split p ps c l = elim (eqb_tells p.0 c) [
    | inl a ↦ elim (eqb_tells p.1 c) [
      | inl b ↦ absurd (let x = a.1 in let y = b.1 in omega arith)
      | inr b ↦ let e = one_end (s c) (pairs_at ps c) in let same : s p.0 ≡ s c = ap s a.1 in rw (a.0, b.0, same) (omega arith)
    ]
    | inr a ↦ elim (eqb_tells p.1 c) [
      | inl b ↦ let e = one_end (s c) (pairs_at ps c) in let same : s p.1 ≡ s c = ap s b.1 in rw (a.0, b.0, same) (omega arith)
      | inr b ↦ let e = no_end (s c) (pairs_at ps c) in rw (a.0, b.0) (omega arith)
    ]
  ]

  inside_none : (b : Bool) → ◌≡◌ {A = ℕ} (cond b 0 0) 0
  inside_none true = refl
  inside_none false = refl

  -- each pair inside counts at both its ends
  inside_sum : (pairs : List (ℕ × ℕ)) → AllByRecursion (λ p. (p.0 < p.1) × (p.1 < n)) pairs → NoneLeaves pairs s → sum_to n (inside pairs) ≡ pairs_in s pairs + pairs_in s pairs
  inside_sum [] all none = sum_same n (inside []) (λ c. 0) (λ c l. inside_none (s c)) ∙ sum_none n
  inside_sum (p ∷ ps) all none =
      let rest = inside_sum ps all.1 none.1 in
      let split = sum_same n (inside (p ∷ ps)) (λ c. ends p c + inside ps c) (λ c l. ends_split p ps c all.0.0) in
      let plus = sum_plus n (ends p) (inside ps) in
      let both : sum_to n (ends p) ≡ sum_to n (λ c. cond (p.0 == c) (cond (s p.0) 1 0) 0) + sum_to n (λ c. cond (p.1 == c) (cond (s p.1) 1 0) 0) = sum_plus n (λ c. cond (p.0 == c) (cond (s p.0) 1 0) 0) (λ c. cond (p.1 == c) (cond (s p.1) 1 0) 0) in
      let low = sum_one n p.0 (cond (s p.0) 1 0) (let x = all.0.0 in let y = all.0.1 in omega arith) in
      let high = sum_one n p.1 (cond (s p.1) 1 0) all.0.1 in
      let same : ◌≡◌ {A = ℕ} (cond (s p.0) 1 0) (cond (s p.1) 1 0) = ap (λ (b : Bool). cond {A = ℕ} b 1 0) none.0 in
      omega arith

  -- a city of the set with one pair at most, or there is none
  abbrev End : List (ℕ × ℕ) → Type 0
  End pairs = (c : ℕ) × IsEnd n pairs s c

  end_at : (pairs : List (ℕ × ℕ)) (m : ℕ) → m < n → (b : Bool) → s m ≡ b → (pairs_at pairs m ≤ 1) ⊎ (2 ≤ pairs_at pairs m) → End pairs ⊎ (s m ≡ true → 2 ≤ pairs_at pairs m)
  end_at pairs m l true e (inl few) = inl (m, record { city = l; inside = e; few = few })
  end_at pairs m l true e (inr many) = inr (λ h. many)
  end_at pairs m l false e d = inr (λ h. absurd (false≢true (sym e ∙ h)))

  join_ends : (pairs : List (ℕ × ℕ)) (m : ℕ) → End pairs ⊎ (s m ≡ true → 2 ≤ pairs_at pairs m) → End pairs ⊎ ((c : ℕ) → c < m → s c ≡ true → 2 ≤ pairs_at pairs c) → End pairs ⊎ ((c : ℕ) → c < suc m → s c ≡ true → 2 ≤ pairs_at pairs c)
  join_ends pairs m (inl e) rest = inl e
  join_ends pairs m (inr a) (inl e) = inl e
  join_ends pairs m (inr a) (inr b) = inr (λ c l e. elim (eqb_tells c m) [
    | inl at ↦ rw at.1 (a (rw (← at.1) e))
    | inr off ↦ b c (let x = off.1 in grind arith) e
  ])

  few_or_many : (k : ℕ) → (k ≤ 1) ⊎ (2 ≤ k)
  few_or_many k = grind arith

  find_end : (pairs : List (ℕ × ℕ)) (m : ℕ) → m ≤ n → End pairs ⊎ ((c : ℕ) → c < m → s c ≡ true → 2 ≤ pairs_at pairs c)
  find_end pairs zero l = inr (λ c k e. absurd (omega arith))
  find_end pairs (suc m) l = join_ends pairs m (end_at pairs m (omega arith) (s m) refl (few_or_many (pairs_at pairs m))) (find_end pairs m (omega arith))

  two_each : (pairs : List (ℕ × ℕ)) (c : ℕ) (b : Bool) → s c ≡ b → (s c ≡ true → 2 ≤ pairs_at pairs c) → cond b 1 0 + cond b 1 0 ≤ cond b (pairs_at pairs c) 0
  two_each pairs c true e h = let k = h e in omega arith
  two_each pairs c false e h = omega arith

  root_one : (names : List ℕ) (a c : ℕ) → s a ≡ true → name_at names a ≡ a → cond (a == c) 1 0 ≤ cond (s c && (name_at names c == c)) 1 0
  root_one names a c inside own = elim (eqb_tells a c) [
    | inl at ↦ let e : (s c && (name_at names c == c)) ≡ true = rw (← at.1, inside, own) (same_eqb a) in rw (at.0, e) (omega arith)
    | inr off ↦ rw off.0 (omega arith)
  ]

  pub forest_end : (pairs : List (ℕ × ℕ)) (names : List ℕ) (u : ℕ) → AllByRecursion (λ p. (p.0 < p.1) × (p.1 < n)) pairs → ArePartNames n pairs names → IsForest n pairs names → u < n → s u ≡ true → NoneLeaves pairs s → End pairs
  forest_end pairs names u all named forest lu su none = elim (find_end pairs n (omega arith)) [
    | inl e ↦ e
    | inr many ↦ absurd (
        let count = forest s none in
        let degrees = inside_sum pairs all none in
        let twice = sum_plus n (λ c. cond (s c) 1 0) (λ c. cond (s c) 1 0) in
        let most = sum_least n (λ c. cond (s c) 1 0 + cond (s c) 1 0) (inside pairs) (λ c l. two_each pairs c (s c) refl (many c l)) in
        let a = name_at names u in
        let one = sum_one n a 1 (named.below u lu) in
        let root = sum_least n (λ c. cond (a == c) 1 0) (λ c. cond (s c && (name_at names c == c)) 1 0) (λ c l. root_one names a c (named.apart s none u lu ∙ su) (named.own u lu)) in
        omega arith)
  ]

-- pairs that are a forest, or join all cities, leave none out
pub none_left_out : (n : ℕ) (pairs : List (ℕ × ℕ)) (names : List ℕ) → AllByRecursion (λ p. (p.0 < p.1) × (p.1 < n)) pairs → ArePartNames n pairs names → IsForest n pairs names ⊎ IsOnePart n names → LeavesNoneOut n pairs
none_left_out n pairs names all named (inl forest) s u v lu su lv sv none = forest_end n s pairs names u all named forest lu su none
none_left_out n pairs names all named (inr one) s u v lu su lv sv none =
    absurd (false≢true (sym sv ∙ sym (named.apart s none v lv) ∙ ap s (one v u lv lu) ∙ named.apart s none u lu ∙ su))
