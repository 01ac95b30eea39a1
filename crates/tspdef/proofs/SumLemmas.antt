use Rattle.std.proofs.Common.{◌≡◌, ℕ, zero, suc, ◌<◌, false, cond, eqb, refl, sym, ◌∙◌, ap, subst, arith, ⊎_elim}
use Rattle.std.specs.Prelude.{ℤ, pos, ◌+ℤ◌, ◌≤ℤ◌}
use Rattle.std.proofs.lemmas.Int.{ints}
use Rattle.std.proofs.lemmas.Bool.{cases_lt, cond-true, cond-false, ne_eqb, eq-eqb}
use Rattle.std.proofs.lemmas.Bool.Decides.{nat_tests}
use Rattle.tspdef.specs.Tours.{joins}
use Rattle.tspdef.specs.Sums.{sum_below, sum_pairs}

pub sum_below-same : (f g : ℕ → ℤ) (n : ℕ) → ((k : ℕ) → k < n → f k ≡ g k) → sum_below f n ≡ sum_below g n
sum_below-same f g zero h = refl
sum_below-same f g (suc n) h =
    let ih = sum_below-same f g n (λ k l. h k (omega arith)) in
    let here : f n ≡ g n = h n (omega arith) in
    cc

pub sum_below-le : (f g : ℕ → ℤ) (n : ℕ) → ((k : ℕ) → k < n → f k ≤ℤ g k) → sum_below f n ≤ℤ sum_below g n
sum_below-le f g zero h = omega (arith, ints)
sum_below-le f g (suc n) h =
    let ih = sum_below-le f g n (λ k l. h k (omega arith)) in
    let here : f n ≤ℤ g n = h n (omega arith) in
    omega (arith, ints)

pub sum_below-add : (f g : ℕ → ℤ) (n : ℕ) → sum_below (λ k. f k +ℤ g k) n ≡ sum_below f n +ℤ sum_below g n
sum_below-add f g zero = refl
sum_below-add f g (suc n) = let ih = sum_below-add f g n in omega (arith, ints)

pub sum_below-zero : (n : ℕ) → sum_below (λ k. pos 0) n ≡ pos 0
sum_below-zero zero = refl
sum_below-zero (suc n) = let ih = sum_below-zero n in omega (arith, ints)

-- one place alone
pub sum_below-at : (f : ℕ → ℤ) (a n : ℕ) → a < n → sum_below (λ k. cond (eqb a k) (f k) (pos 0)) n ≡ f a
sum_below-at f a zero h = absurd (omega arith)
sum_below-at f a (suc n) h = ⊎_elim
    (λ l. let ih = sum_below-at f a n l in
    let here : cond (eqb a n) (f n) (pos 0) ≡ pos 0 = cond-false _ _ _ (ne_eqb a n (omega arith)) in
    omega (arith, ints))
    (λ l. let e : a ≡ n = omega arith in
    let here : cond (eqb a n) (f n) (pos 0) ≡ f n = cond-true _ _ _ (eq-eqb a n e) in
    let rest : sum_below (λ k. cond (eqb a k) (f k) (pos 0)) n ≡ pos 0 =
    sum_below-same _ (λ k. pos 0) n (λ k m. cond-false _ _ _ (ne_eqb a k (omega arith))) ∙ sum_below-zero n in
    let same : f n ≡ f a = ap f (sym e) in
    omega (arith, ints))
    (cases_lt a n)

pub sum_pairs-same : (f g : ℕ → ℕ → ℤ) (n : ℕ) → ((u v : ℕ) → u < v → v < n → f u v ≡ g u v) → sum_pairs f n ≡ sum_pairs g n
sum_pairs-same f g zero h = refl
sum_pairs-same f g (suc n) h =
    let ih = sum_pairs-same f g n (λ u v l m. h u v l (omega arith)) in
    let here = sum_below-same (λ u. f u n) (λ u. g u n) n (λ u l. h u n l (omega arith)) in
    cc

pub sum_pairs-le : (f g : ℕ → ℕ → ℤ) (n : ℕ) → ((u v : ℕ) → u < v → v < n → f u v ≤ℤ g u v) → sum_pairs f n ≤ℤ sum_pairs g n
sum_pairs-le f g zero h = omega (arith, ints)
sum_pairs-le f g (suc n) h =
    let ih = sum_pairs-le f g n (λ u v l m. h u v l (omega arith)) in
    let here = sum_below-le (λ u. f u n) (λ u. g u n) n (λ u l. h u n l (omega arith)) in
    omega (arith, ints)

pub sum_pairs-add : (f g : ℕ → ℕ → ℤ) (n : ℕ) → sum_pairs (λ u v. f u v +ℤ g u v) n ≡ sum_pairs f n +ℤ sum_pairs g n
sum_pairs-add f g zero = refl
sum_pairs-add f g (suc n) =
    let ih = sum_pairs-add f g n in
    let here = sum_below-add (λ u. f u n) (λ u. g u n) n in
    omega (arith, ints)

pub sum_pairs-zero : (n : ℕ) → sum_pairs (λ u v. pos 0) n ≡ pos 0
sum_pairs-zero zero = refl
sum_pairs-zero (suc n) = let ih = sum_pairs-zero n in let z = sum_below-zero n in omega (arith, ints)

joins_no : (a b u v : ℕ) → a < b → u < v → (b ≡ v → ⊥) → joins u v (a, b) ≡ false
joins_no a b u v h l ne = grind (arith, nat_tests)

joins_col : (a b u : ℕ) → a < b → u < b → joins u b (a, b) ≡ eqb a u
joins_col a b u h l = grind (arith, nat_tests)

-- one pair alone
sum_pairs-at_up : (f : ℕ → ℕ → ℤ) (a b n : ℕ) → a < b → b < n → sum_pairs (λ u v. cond (joins u v (a, b)) (f u v) (pos 0)) n ≡ f a b
sum_pairs-at_up f a b zero h l = absurd (omega arith)
sum_pairs-at_up f a b (suc n) h l = ⊎_elim
    (λ m. let ih = sum_pairs-at_up f a b n h m in
    let here : sum_below (λ u. cond (joins u n (a, b)) (f u n) (pos 0)) n ≡ pos 0 =
    sum_below-same _ (λ k. pos 0) n (λ k q. cond-false _ _ _ (joins_no a b k n h q (omega arith))) ∙ sum_below-zero n in
    omega (arith, ints))
    (λ m. let e : b ≡ n = omega arith in
    let rest : sum_pairs (λ u v. cond (joins u v (a, b)) (f u v) (pos 0)) n ≡ pos 0 =
    sum_pairs-same _ (λ u v. pos 0) n (λ u v q r. cond-false _ _ _ (joins_no a b u v h q (omega arith))) ∙ sum_pairs-zero n in
    let here : sum_below (λ u. cond (joins u b (a, b)) (f u b) (pos 0)) b ≡ f a b =
    sum_below-same _ (λ u. cond (eqb a u) (f u b) (pos 0)) b (λ u q. ap (λ t. cond t (f u b) (pos 0)) (joins_col a b u h q)) ∙ sum_below-at (λ u. f u b) a b h in
    let there : sum_below (λ u. cond (joins u n (a, b)) (f u n) (pos 0)) n ≡ f a b =
    subst (λ k. sum_below (λ u. cond (joins u k (a, b)) (f u k) (pos 0)) k ≡ f a b) e here in
    omega (arith, ints))
    (cases_lt b n)

joins_flip : (a b u v : ℕ) → joins u v (a, b) ≡ joins u v (b, a)
joins_flip a b u v = grind (arith, nat_tests)

pub sum_pairs-at : (f : ℕ → ℕ → ℤ) (sym_f : (u v : ℕ) → f u v ≡ f v u) (a b n : ℕ) → (a ≡ b → ⊥) → a < n → b < n
    → sum_pairs (λ u v. cond (joins u v (a, b)) (f u v) (pos 0)) n ≡ f a b
sum_pairs-at f sym_f a b n ne h l = ⊎_elim
    (λ m. sum_pairs-at_up f a b n m l)
    (λ m. sum_pairs-same _ (λ u v. cond (joins u v (b, a)) (f u v) (pos 0)) n (λ u v q r. ap (λ t. cond t (f u v) (pos 0)) (joins_flip a b u v))
    ∙ sum_pairs-at_up f b a n (omega arith) h ∙ sym_f b a)
    (cases_lt a b)
