-- The closing that duals are.
use Rattle.std.proofs.Common.{◌≡◌, ℕ, zero, suc, ◌+◌, ◌-◌, ◌^◌, ◌<◌, ◌≤◌, Bool, true, false, cond, List, [], ◌∷◌, length, map, get_or, set, ℤ, pos, refl, sym, ap, ◌∙◌, inl, inr, ◌⊎◌, arith}
use Rattle.std.specs.Prelude.{replicate, nat_abs, ◌==◌, slice_index_or}
use Rattle.std.specs.Int.Signed.{lt_z}
use Rattle.std.specs.List.{AllByRecursion}
use Rattle.std.proofs.lemmas.Bool.{eq-eqb, ne_eqb, cases_eq}
use Rattle.std.proofs.lemmas.List.{length-map}
use Rattle.tspdef.specs.Instances.{Instance}
use Rattle.tspdef.specs.Cuts.{Cut, subtour, IsCut}
use Rattle.tspdef.specs.Paths.{Condition}
use Rattle.tspdef.specs.Closings.{IsDualSize, IsClosing}
use Rattle.tspdef.specs.Bounds.{bound, needed}
use Rattle.certdef.specs.Proofs.{Duals}
use Rattle.certdef.specs.Accepted.{dual_of, duals_from, cut_at, closing_of}
use Rattle.certdef.specs.Tests.{closes_leaf}
use Rattle.certtests.specs.Listed.{listed}
use Rattle.certtests.specs.Duals.{AreDuals}
use Rattle.certtests.specs.Places.{IsFromOne}
use Rattle.certtests.proofs.Listing.{cuts_again}

-- ---- the duals of cities

pub duals_count : (ps : List (ℕ × ℤ)) (v m : ℕ) → length (duals_from ps v m) ≡ m
duals_count ps v zero = refl
duals_count ps v (suc m) = let r = duals_count ps (v + 1) m in omega arith

pub no_duals : (v m : ℕ) → duals_from [] v m ≡ replicate m (pos 0)
no_duals v zero = refl
no_duals v (suc m) = ap (λ xs. pos 0 ∷ xs) (no_duals (v + 1) m)

-- the dual of a city that is not among them
pub duals_without : (ps : List (ℕ × ℤ)) (q : ℕ × ℤ) (v m : ℕ) → (q.0 < v) ⊎ (v + m ≤ q.0) → duals_from (q ∷ ps) v m ≡ duals_from ps v m
duals_without ps q v zero h = refl
duals_without ps q v (suc m) h =
    let ne : (q.0 == v) ≡ false = ne_eqb q.0 v (λ e. elim h [ inl a ↦ omega arith | inr b ↦ omega arith ]) in
    let next : (q.0 < v + 1) ⊎ (v + 1 + m ≤ q.0) = elim h [ inl a ↦ inl (omega arith) | inr b ↦ inr (omega arith) ] in
    ap (λ b. cond b q.1 (dual_of ps v) ∷ duals_from (q ∷ ps) (v + 1) m) ne ∙ ap (λ xs. dual_of ps v ∷ xs) (duals_without ps q (v + 1) m next)

set_behind : (x y : ℤ) (xs : List ℤ) (k j : ℕ) → k ≡ suc j → set (x ∷ xs) k y ≡ x ∷ set xs j y
set_behind x y xs k j e = ap (λ i. set (x ∷ xs) i y) e

set_here : (x y : ℤ) (xs : List ℤ) (k : ℕ) → k ≡ 0 → set (x ∷ xs) k y ≡ y ∷ xs
set_here x y xs k e = ap (λ i. set (x ∷ xs) i y) e

-- the dual of a city that is among them
pub duals_with : (ps : List (ℕ × ℤ)) (q : ℕ × ℤ) (v m : ℕ) → v ≤ q.0 → q.0 < v + m → duals_from (q ∷ ps) v m ≡ set (duals_from ps v m) (q.0 - v) q.1
duals_with ps q v zero low high = absurd (omega arith)
duals_with ps q v (suc m) low high = elim (cases_eq q.0 v) [
  | inl e ↦
      ap (λ b. cond b q.1 (dual_of ps v) ∷ duals_from (q ∷ ps) (v + 1) m) (eq-eqb q.0 v e)
      ∙ (ap (λ xs. q.1 ∷ xs) (duals_without ps q (v + 1) m (inl (omega arith)))
      ∙ sym (set_here (dual_of ps v) q.1 (duals_from ps (v + 1) m) (q.0 - v) (omega arith)))
  | inr ne ↦
      ap (λ b. cond b q.1 (dual_of ps v) ∷ duals_from (q ∷ ps) (v + 1) m) (ne_eqb q.0 v ne)
      ∙ (ap (λ xs. dual_of ps v ∷ xs) (duals_with ps q (v + 1) m (omega arith) (omega arith))
      ∙ sym (set_behind (dual_of ps v) q.1 (duals_from ps (v + 1) m) (q.0 - v) (q.0 - (v + 1)) (omega arith)))
]

-- one dual more, in front
pub lay_within : (ps : List (ℕ × ℤ)) (k : ℕ) (x : ℤ) (old : List ℤ) → 1 ≤ k → k ≤ length old → old ≡ duals_from ps 1 (length old) → set old (k - 1) x ≡ duals_from ((k, x) ∷ ps) 1 (length old)
lay_within ps k x old low high e = ap (λ xs. set xs (k - 1) x) e ∙ sym (duals_with ps (k, x) 1 (length old) low (omega arith))

pub lay_without : (ps : List (ℕ × ℤ)) (k : ℕ) (x : ℤ) (old : List ℤ) → (k < 1) ⊎ (length old < k) → old ≡ duals_from ps 1 (length old) → old ≡ duals_from ((k, x) ∷ ps) 1 (length old)
lay_without ps k x old out e =
    let h : (k < 1) ⊎ (1 + length old ≤ k) = elim out [ inl a ↦ inl a | inr b ↦ inr (omega arith) ] in
    e ∙ sym (duals_without ps (k, x) 1 (length old) h)

either_small : (b : Bool) (x y : ℤ) → nat_abs x ≤ 2 ^ 62 → nat_abs y ≤ 2 ^ 62 → nat_abs (cond b x y) ≤ 2 ^ 62
either_small true x y h k = h
either_small false x y h k = k

dual_small : (ps : List (ℕ × ℤ)) (v : ℕ) → AllByRecursion (λ (p : ℕ × ℤ). nat_abs p.1 ≤ 2 ^ 62) ps → nat_abs (dual_of ps v) ≤ 2 ^ 62
dual_small [] v h = omega arith
dual_small (p ∷ ps) v h = either_small (p.0 == v) p.1 (dual_of ps v) h.0 (dual_small ps v h.1)

duals_small : (ps : List (ℕ × ℤ)) (v m : ℕ) → AllByRecursion (λ (p : ℕ × ℤ). nat_abs p.1 ≤ 2 ^ 62) ps → AllByRecursion (λ y. nat_abs y ≤ 2 ^ 62) (duals_from ps v m)
duals_small ps v zero h = tt
duals_small ps v (suc m) h = (dual_small ps v h, duals_small ps (v + 1) m h)

-- ---- the duals of cuts

cut_of_list : (n m : ℕ) (cs : List Cut) → AllByRecursion (IsCut n) cs → m < length cs → IsCut n (slice_index_or cs m (subtour 0 []))
cut_of_list n m [] h l = absurd (omega arith)
cut_of_list n zero (c ∷ cs) h l = h.0
cut_of_list n (suc m) (c ∷ cs) h l = cut_of_list n m cs h.1 (omega arith)

named_are_cuts : (n : ℕ) (cs : List Cut) (qs : List (ℕ × ℕ)) → AllByRecursion (IsCut n) cs → AllByRecursion (λ (q : ℕ × ℕ). IsFromOne (length cs) q.0) qs → AllByRecursion (λ (q : Cut × ℕ). IsCut n q.0) (map (λ (q : ℕ × ℕ). (cut_at cs q.0, q.1)) qs)
named_are_cuts n cs [] k h = tt
named_are_cuts n cs (q ∷ qs) k h = let p = h.0 in (cut_of_list n (q.0 - 1) cs k (let a = p.0 in let b = p.1 in omega arith), named_are_cuts n cs qs k h.1)

named_sizes : (cs : List Cut) (qs : List (ℕ × ℕ)) → AllByRecursion (λ (q : ℕ × ℕ). IsDualSize q.1) qs → AllByRecursion (λ (q : Cut × ℕ). IsDualSize q.1) (map (λ (q : ℕ × ℕ). (cut_at cs q.0, q.1)) qs)
named_sizes cs [] h = tt
named_sizes cs (q ∷ qs) h = (h.0, named_sizes cs qs h.1)

-- a fact of each, at a place
pub all_at : {X : Type 0} (P : X → Type 0) (xs : List X) (i : ℕ) (d : X) → AllByRecursion P xs → i < length xs → P (get_or xs i d)
all_at {X} P [] i d h l = absurd (omega arith)
all_at {X} P (x ∷ xs) zero d h l = h.0
all_at {X} P (x ∷ xs) (suc i) d h l = all_at {X = X} P xs i d h.1 (omega arith)

-- ---- the closing

pub duals_are_closing : (n : ℕ) (cs : List Cut) (path : List Condition) (d : Duals) → AllByRecursion (IsCut n) cs → AreDuals (length cs) path 0 0 d → IsClosing n path (closing_of n cs d)
duals_are_closing n cs path d k a =
    let few = a.few_cuts in
    let few' = a.few_conditions in
    let same : length (closing_of n cs d).cuts ≡ length d.cuts = length-map d.cuts (λ (q : ℕ × ℕ). (cut_at cs q.0, q.1)) in
    record {
      counts = record { city = duals_count d.cities 1 n; cuts = rw same (omega arith); conds = omega arith };
      sizes = record { city = duals_small d.cities 1 n a.cities; cuts = named_sizes cs d.cuts a.cut_sizes; conds = a.condition_sizes };
      cuts = named_are_cuts n cs d.cuts k a.cuts;
      cliques = a.cliques;
    }

pub closes_listed : (i : Instance) (l : ℕ) (cs : List Cut) (path : List Condition) (d : Duals) → AllByRecursion (IsCut i.n) cs → closes_leaf i l (map listed cs) path d ≡ lt_z (needed l) (bound i path (closing_of i.n cs d))
closes_listed i l cs path d k = ap (λ ks. lt_z (needed l) (bound i path (closing_of i.n ks d))) (cuts_again i.n cs k)
