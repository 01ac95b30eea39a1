-- Tables of distances.
use Rattle.std.proofs.Common.{◌≡◌, ◌≢◌, ℕ, ◌+◌, ◌*◌, ◌^◌, ◌<◌, ◌⊎◌, inl, inr, Bool, true, false, cond, eqb, zero, suc, ◌≤◌, min, max, List, length, get_or, set, replicate, refl, sym, ◌∙◌, arith, get_or-set_other, length-set}
use Rattle.std.proofs.lemmas.Bool.{ne_eqb}
use Rattle.std.proofs.lemmas.Bool.Decides.{eqb_tells, nat_tests}
use Rattle.std.proofs.lemmas.List.{length-replicate}
use Rattle.std.proofs.lemmas.Nat.{mul-add-lt, same_from_place}
use Rattle.tspdef.specs.Instances.{Instance, IsInstance, dist}
use Rattle.std.proofs.lemmas.Grind.{get_or-set_at}
use Rattle.tspinst.specs.Tables.{put, IsTable}

pub same_eqb : (k : ℕ) → eqb k k ≡ true
same_eqb k = grind (arith, nat_tests)

-- what stands at a place after two writes of one number
pub two_writes : (t : List ℕ) (x y w k : ℕ) → x < length t → y < length t → get_or (set (set t x w) y w) k 0 ≡ cond (eqb k y) w (cond (eqb k x) w (get_or t k 0))
two_writes t x y w k lx ly =
    elim (eqb_tells k y) [
      | inl at ↦
          let ly' : y < length (set t x w) = simp length-set (omega arith) in
          rw at.0 (get_or-set_at (set t x w) y k w 0 at.1 ly')
      | inr off ↦ rw (off.0, get_or-set_other (set t x w) y k w 0 off.1) (one (eqb_tells k x))
    ]
  where
    one : ((eqb k x ≡ true) × (k ≡ x)) ⊎ ((eqb k x ≡ false) × (k ≢ x)) → get_or (set t x w) k 0 ≡ cond (eqb k x) w (get_or t k 0)
    one (inl at) = rw at.0 (get_or-set_at t x k w 0 at.1 lx)
    one (inr off) = rw (off.0, get_or-set_other t x k w 0 off.1) refl

same_place : (n a b i j : ℕ) → b < n → a < n → i < n → j < n → eqb (a * n + b) (i * n + j) ≡ eqb (b * n + a) (j * n + i)
same_place n a b i j lb la li lj =
    elim (eqb_tells (a * n + b) (i * n + j)) [
      | inl at ↦
          let p = same_from_place a b i j n lb lj at.1 in
          rw (at.0, p.0, p.1) (sym (same_eqb (j * n + i)))
      | inr off ↦ rw off.0 (sym (ne_eqb (b * n + a) (j * n + i) (λ e. let p = same_from_place b a j i n la li e in off.1 (rw (p.0, p.1) refl))))
    ]

chosen_same : (p q : Bool) (w r s : ℕ) → r ≡ s → cond p w (cond q w r) ≡ cond q w (cond p w s)
chosen_same true true w r s e = refl
chosen_same true false w r s e = refl
chosen_same false true w r s e = refl
chosen_same false false w r s e = e

small_choice : (p q : Bool) (w r : ℕ) → w < 2 ^ 30 → r < 2 ^ 30 → cond p w (cond q w r) < 2 ^ 30
small_choice true q w r h g = h
small_choice false true w r h g = h
small_choice false false w r h g = g

-- a weight of two cities
pub put_table : (n : ℕ) (t : List ℕ) (i j w : ℕ) → IsTable n t → i < n → j < n → i ≢ j → w < 2 ^ 30 → IsTable n (put n t i j w)
put_table n t i j w h li lj apart lw =
    let lx : i * n + j < length t = rw h.square (mul-add-lt i n j n li lj) in
    let ly : j * n + i < length t = rw h.square (mul-add-lt j n i n lj li) in
    record {
      many = h.many;
      few = h.few;
      square = simp length-set h.square;
      symmetric = λ a b la lb.
          two_writes t (i * n + j) (j * n + i) w (a * n + b) lx ly
          ∙ chosen_same (eqb (a * n + b) (j * n + i)) (eqb (a * n + b) (i * n + j)) w _ _ (h.symmetric a b la lb)
          ∙ rw (same_place n a b i j lb la li lj, same_place n a b j i lb la lj li) refl
          ∙ sym (two_writes t (i * n + j) (j * n + i) w (b * n + a) lx ly);
      at_home = λ a la.
          let x : eqb (a * n + a) (i * n + j) ≡ false = ne_eqb _ _ (λ e. let p = same_from_place a a i j n la lj e in apart (sym p.0 ∙ p.1)) in
          let y : eqb (a * n + a) (j * n + i) ≡ false = ne_eqb _ _ (λ e. let p = same_from_place a a j i n la li e in apart (sym p.1 ∙ p.0)) in
          two_writes t (i * n + j) (j * n + i) w (a * n + a) lx ly ∙ rw (x, y) (h.at_home a la);
      small = λ k. rw (two_writes t (i * n + j) (j * n + i) w k lx ly) (small_choice _ _ w _ lw (h.small k));
      fixed = h.fixed;
    }

-- ---- no distance yet

zero_at : (n k : ℕ) → get_or {A = ℕ} (replicate n 0) k 0 ≡ 0
zero_at zero k = refl
zero_at (suc n) zero = refl
zero_at (suc n) (suc k) = zero_at n k

pub zeros_table : (n : ℕ) (t : List ℕ) → 3 ≤ n → n ≤ 2000 → t ≡ replicate (n * n) 0 → IsTable n t
zeros_table n t l h e = rw e (record {
  many = l;
  few = h;
  square = length-replicate (n * n) 0;
  symmetric = λ i j li lj. zero_at (n * n) (i * n + j) ∙ sym (zero_at (n * n) (j * n + i));
  at_home = λ i l. zero_at (n * n) (i * n + i);
  small = λ k. rw (zero_at (n * n) k) (omega arith);
  fixed = record { below = tt; rising = tt; few = λ c. omega arith; open_ended = λ s u v lu su lv sv none. (u, record { city = lu; inside = su; few = omega arith }) };
})

-- ---- reading a distance

-- a table has the distance of u and v at either of their places
pub dist_at : (i : Instance) (u v : ℕ) → IsInstance i → u < i.n → v < i.n → get_or i.table (u * i.n + v) 0 ≡ dist i u v
dist_at i u v h lu lv = elim (order u v) [
  | inl l ↦ let a : min u v ≡ u = omega arith in let b : max u v ≡ v = omega arith in rw (a, b) refl
  | inr l ↦ let a : min u v ≡ v = omega arith in let b : max u v ≡ u = omega arith in rw (a, b) (h.symmetric u v lu lv)
]
  where
    order : (u v : ℕ) → (u ≤ v) ⊎ (v ≤ u)
    order u v = grind arith

-- where two cities stand in a table
pub place_within : (i : Instance) (u v : ℕ) → IsInstance i → u < i.n → v < i.n → u * i.n + v < length i.table
place_within i u v h lu lv = rw h.square (mul-add-lt u i.n v i.n lu lv)
