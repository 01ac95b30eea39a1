-- No pairs yet.
use Rattle.std.proofs.Common.{◌≡◌, ℕ, zero, suc, ◌+◌, ◌<◌, ◌≤◌, inl, Bool, true, false, cond, ◌==◌, ◌||◌, ◌&&◌, List, [], ◌∷◌, ◌++◌, length, refl, sym, ◌∙◌, ap, arith}
use Rattle.std.proofs.lemmas.Bool.{ne_eqb}
use Rattle.tspinst.specs.Fixings.{name_at, partners_at, sum_to, AreCollected}
use Rattle.tspinst.proofs.TableLemmas.{same_eqb}
use Rattle.tspinst.proofs.SumLemmas.{sum_same}

pub blank_step : (n u : ℕ) (xs : List (ℕ × ℕ)) → ((c : ℕ) → ◌≡◌ {A = ℕ × ℕ} (partners_at n xs c) (n, n)) → ◌≡◌ {A = ℕ × ℕ} (partners_at n (xs ++ (n, n) ∷ []) u) (n, n)
blank_step n zero [] h = refl
blank_step n (suc u) [] h = refl
blank_step n zero (x ∷ xs) h = h 0
blank_step n (suc u) (x ∷ xs) h = blank_step n u xs (λ c. h (suc c))

always : (b : Bool) → ◌≡◌ {A = ℕ} (cond b 1 0) (cond (b && true) 1 0)
always true = refl
always false = refl

pub none_collected : (n : ℕ) (partners : List (ℕ × ℕ)) (names : List ℕ) → length partners ≡ n → ((c : ℕ) → ◌≡◌ {A = ℕ × ℕ} (partners_at n partners c) (n, n)) → length names ≡ n → ((c : ℕ) → c < n → name_at names c ≡ c) → AreCollected n [] partners names
none_collected n partners names full blank long own = record {
  below = tt;
  rising = tt;
  few = λ c. omega arith;
  partnered = record {
    all = full;
    tell = λ u v l. let x : (n == v) ≡ false = ne_eqb n v (λ e. let f = e in omega arith) in rw (blank u, x) refl;
    count = λ u l. rw (blank u, same_eqb n) refl;
  };
  named = record {
    all = long;
    below = λ c l. rw (own c l) l;
    own = λ c l. ap (name_at names) (own c l);
    joined = tt;
    apart = λ s none c l. ap s (own c l);
  };
  open_ended = inl (λ s none. sum_same n (λ c. cond (s c) 1 0) (λ c. cond (s c && (name_at names c == c)) 1 0) (λ c l. rw (own c l, same_eqb c) (always (s c))) ∙ omega arith);
}
