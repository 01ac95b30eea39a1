-- Cities from 0 and from 1, and cuts that are listed.
use Rattle.std.proofs.Common.{◌≡◌, ℕ, suc, ◌+◌, ◌-◌, ◌<◌, ◌≤◌, Bool, true, false, ◌&&◌, List, [], ◌∷◌, ◌++◌, length, take, drop, get_or, map, refl, sym, ap, ◌∙◌, subst, arith, ◌↔◌, IsTrue}
use Rattle.std.specs.Prelude.{nat_lt, nat_le}
use Rattle.std.specs.List.{AllByRecursion}
use Rattle.std.proofs.lemmas.Bool.{and_parts, leb-true, false_from_ne_true, false≢true}
use Rattle.tspdef.specs.Sets.{RisesFrom, IsSet, IsProper}
use Rattle.tspdef.specs.Cuts.{Cut, subtour, comb, odd, IsComb, IsOdd, IsCut}
use Rattle.certdef.specs.Items.{rises, is_set}
use Rattle.certdef.specs.Proofs.{subtour_cut, comb_cut, odd_cut}
use Rattle.certdef.specs.Accepted.{from_zero, pair_from_zero, cut_of, cuts_of}
use Rattle.certdef.specs.Tests.{is_proper, is_cut}
use Rattle.verdict.proofs.Decisions.{proper_yes, yes_proper, cut_yes, yes_cut}
use Rattle.cyc.specs.CitySet.{Members}
use Rattle.cutform.specs.Cut.{cities_of_each}
use Rattle.certtests.specs.Listed.{to_one, pair_to_one, listed}

-- ---- sets

pub zero_of_one : (s : List ℕ) → from_zero (to_one s) ≡ s
zero_of_one [] = refl
zero_of_one (c ∷ cs) =
    let e : c + 1 - 1 ≡ c = omega arith in
    ap (λ x. x ∷ from_zero (to_one cs)) e ∙ ap (λ xs. c ∷ xs) (zero_of_one cs)

one_of_zero : (n from : ℕ) (s : List ℕ) → 1 ≤ from → rises from n s ≡ true → to_one (from_zero s) ≡ s
one_of_zero n from [] b e = refl
one_of_zero n from (c ∷ cs) b e =
    let p = and_parts (nat_le from c && nat_le c n) (rises (c + 1) n cs) e in
    let q = and_parts (nat_le from c) (nat_le c n) p.0 in
    let low = leb-true from c q.0 in
    let same : c - 1 + 1 ≡ c = omega arith in
    ap (λ x. x ∷ to_one (from_zero cs)) same ∙ ap (λ xs. c ∷ xs) (one_of_zero n (c + 1) cs (omega arith) p.1)

rises_lowered : (n from : ℕ) (s : List ℕ) → 1 ≤ from → rises from n s ≡ true → RisesFrom n (from - 1) (from_zero s)
rises_lowered n from [] b e = tt
rises_lowered n from (c ∷ cs) b e =
    let p = and_parts (nat_le from c && nat_le c n) (rises (c + 1) n cs) e in
    let q = and_parts (nat_le from c) (nat_le c n) p.0 in
    let low = leb-true from c q.0 in
    let high = leb-true c n q.1 in
    let next : c + 1 - 1 ≡ c - 1 + 1 = omega arith in
    ((omega arith, omega arith), subst (λ k. RisesFrom n k (from_zero cs)) next (rises_lowered n (c + 1) cs (omega arith) p.1))

-- the cities of a line's set are one of n cities, and are those of the line again
pub set_is_set : (n : ℕ) (s : List ℕ) → is_set n s ≡ true → IsSet n (from_zero s)
set_is_set n s e = rises_lowered n 1 s (omega arith) (and_parts (nat_lt 0 (length s)) (rises 1 n s) e).1

pub set_again : (n : ℕ) (s : List ℕ) → is_set n s ≡ true → to_one (from_zero s) ≡ s
set_again n s e = one_of_zero n 1 s (omega arith) (and_parts (nat_lt 0 (length s)) (rises 1 n s) e).1

-- a list of the numbers of another, each less by one
pub lowered_each : (xs ys : List ℕ) → length ys ≡ length xs → ((k : ℕ) → k < length xs → get_or ys k 0 ≡ get_or xs k 0 - 1) → ys ≡ from_zero xs
lowered_each [] [] l h = refl
lowered_each [] (y ∷ ys) l h = absurd (omega arith)
lowered_each (x ∷ xs) [] l h = absurd (omega arith)
lowered_each (x ∷ xs) (y ∷ ys) l h =
    ap (λ z. z ∷ ys) (h 0 (omega arith)) ∙ ap (λ zs. (x - 1) ∷ zs) (lowered_each xs ys (omega arith) (λ k b. h (suc k) (omega arith)))

-- a list written over another one as long as it
written : (xs ys : List ℕ) → length ys ≡ length xs → take (length xs) (ys ++ drop (length ys) xs) ≡ ys
written [] [] l = refl
written [] (y ∷ ys) l = absurd (omega arith)
written (x ∷ xs) [] l = absurd (omega arith)
written (x ∷ xs) (y ∷ ys) l = ap (λ zs. y ∷ zs) (written xs ys (omega arith))

pub all_written : (m : ℕ) (xs ys : List ℕ) → m ≡ length xs → length ys ≡ length xs → take m (ys ++ drop (length ys) xs) ≡ ys
all_written m xs ys e l = ap (λ k. take k (ys ++ drop (length ys) xs)) e ∙ written xs ys l

-- what decides that a set is proper is the test
pub proper_decided : (n : ℕ) (s : List ℕ) (r : Bool) → IsTrue r ↔ IsProper n s → r ≡ is_proper n s
proper_decided n s true h = sym (yes_proper n s (h.0 refl))
proper_decided n s false h = sym (false_from_ne_true (is_proper n s) (λ e. false≢true (h.1 (proper_yes n s e))))

-- ---- cuts

zeros_of_ones : (ts : List (List ℕ)) → map from_zero (map to_one ts) ≡ ts
zeros_of_ones [] = refl
zeros_of_ones (t ∷ ts) = ap (λ x. x ∷ map from_zero (map to_one ts)) (zero_of_one t) ∙ ap (λ xs. t ∷ xs) (zeros_of_ones ts)

pairs_of_ones : (ps : List (ℕ × ℕ)) → map pair_from_zero (map pair_to_one ps) ≡ ps
pairs_of_ones [] = refl
pairs_of_ones (p ∷ ps) =
    let u : p.0 + 1 - 1 ≡ p.0 = omega arith in
    let v : p.1 + 1 - 1 ≡ p.1 = omega arith in
    ap (λ x. (x, p.1 + 1 - 1) ∷ map pair_from_zero (map pair_to_one ps)) u
    ∙ (ap (λ x. (p.0, x) ∷ map pair_from_zero (map pair_to_one ps)) v ∙ ap (λ qs. p ∷ qs) (pairs_of_ones ps))

-- the cut that is listed is the cut again
pub cut_again : (n : ℕ) (c : Cut) → IsCut n c → cut_of n (listed c) ≡ c
cut_again n (subtour m s) k = ap (λ t. subtour n t) (zero_of_one s) ∙ ap (λ j. subtour j s) (sym k.0)
cut_again n (comb m h ts) k =
    ap (λ t. comb n t (map from_zero (map to_one ts))) (zero_of_one h)
    ∙ (ap (λ us. comb n h us) (zeros_of_ones ts) ∙ ap (λ j. comb j h ts) (sym k.0))
cut_again n (odd m h ps) k =
    ap (λ t. odd n t (map pair_from_zero (map pair_to_one ps))) (zero_of_one h)
    ∙ (ap (λ qs. odd n h qs) (pairs_of_ones ps) ∙ ap (λ j. odd j h ps) (sym k.0))

pub cuts_again : (n : ℕ) (cs : List Cut) → AllByRecursion (IsCut n) cs → cuts_of n (map listed cs) ≡ cs
cuts_again n [] k = refl
cuts_again n (c ∷ cs) k = ap (λ x. x ∷ cuts_of n (map listed cs)) (cut_again n c k.0) ∙ ap (λ xs. c ∷ xs) (cuts_again n cs k.1)

-- a subtour cut of cities from 1
pub subtour_passes : (n : ℕ) (s : List ℕ) → IsProper n s → is_cut n (cut_of n (subtour_cut (to_one s))) ≡ true
subtour_passes n s p = ap (λ t. is_cut n (subtour n t)) (zero_of_one s) ∙ yes_cut n (subtour n s) (refl, p)

pub subtour_fails : (n : ℕ) (s : List ℕ) → (IsProper n s → ⊥) → is_cut n (cut_of n (subtour_cut (to_one s))) ≡ false
subtour_fails n s refuted =
    ap (λ t. is_cut n (subtour n t)) (zero_of_one s) ∙ false_from_ne_true (is_cut n (subtour n s)) (λ e. refuted (cut_yes n (subtour n s) e).1)

-- a comb of cities from 1
teeth_again : (ts : List Members) → map from_zero (map (λ t. to_one t.cities) ts) ≡ cities_of_each ts
teeth_again [] = refl
teeth_again (t ∷ ts) = ap (λ x. x ∷ map from_zero (map (λ (t : Members). to_one t.cities) ts)) (zero_of_one t.cities) ∙ ap (λ xs. t.cities ∷ xs) (teeth_again ts)

pub teeth_listed : (ts : List Members) → map to_one (cities_of_each ts) ≡ map (λ t. to_one t.cities) ts
teeth_listed [] = refl
teeth_listed (t ∷ ts) = ap (λ xs. to_one t.cities ∷ xs) (teeth_listed ts)

comb_again : (n : ℕ) (h : List ℕ) (ts : List Members) → is_cut n (cut_of n (comb_cut (to_one h) (map (λ t. to_one t.cities) ts))) ≡ is_cut n (comb n h (cities_of_each ts))
comb_again n h ts =
    ap (λ t. is_cut n (comb n t (map from_zero (map (λ (t : Members). to_one t.cities) ts)))) (zero_of_one h) ∙ ap (λ us. is_cut n (comb n h us)) (teeth_again ts)

pub comb_passes : (n : ℕ) (h : List ℕ) (ts : List Members) → IsComb n h (cities_of_each ts) → is_cut n (cut_of n (comb_cut (to_one h) (map (λ t. to_one t.cities) ts))) ≡ true
comb_passes n h ts p = comb_again n h ts ∙ yes_cut n (comb n h (cities_of_each ts)) (refl, p)

pub comb_fails : (n : ℕ) (h : List ℕ) (ts : List Members) → (IsComb n h (cities_of_each ts) → ⊥) → is_cut n (cut_of n (comb_cut (to_one h) (map (λ t. to_one t.cities) ts))) ≡ false
comb_fails n h ts refuted =
    comb_again n h ts ∙ false_from_ne_true (is_cut n (comb n h (cities_of_each ts))) (λ e. refuted (cut_yes n (comb n h (cities_of_each ts)) e).1)

pub comb_listed : (n : ℕ) (c : Cut) (h : List ℕ) (ts : List Members) → c ≡ comb n h (cities_of_each ts) → listed c ≡ comb_cut (to_one h) (map (λ t. to_one t.cities) ts)
comb_listed n c h ts e = ap listed e ∙ ap (λ us. comb_cut (to_one h) us) (teeth_listed ts)

-- an odd cut of cities from 1
odd_again : (n : ℕ) (h : List ℕ) (ps : List (ℕ × ℕ)) → is_cut n (cut_of n (odd_cut (to_one h) (map pair_to_one ps))) ≡ is_cut n (odd n h ps)
odd_again n h ps =
    ap (λ t. is_cut n (odd n t (map pair_from_zero (map pair_to_one ps)))) (zero_of_one h) ∙ ap (λ qs. is_cut n (odd n h qs)) (pairs_of_ones ps)

pub odd_passes : (n : ℕ) (h : List ℕ) (ps : List (ℕ × ℕ)) → IsOdd n h ps → is_cut n (cut_of n (odd_cut (to_one h) (map pair_to_one ps))) ≡ true
odd_passes n h ps p = odd_again n h ps ∙ yes_cut n (odd n h ps) (refl, p)

pub odd_fails : (n : ℕ) (h : List ℕ) (ps : List (ℕ × ℕ)) → (IsOdd n h ps → ⊥) → is_cut n (cut_of n (odd_cut (to_one h) (map pair_to_one ps))) ≡ false
odd_fails n h ps refuted =
    odd_again n h ps ∙ false_from_ne_true (is_cut n (odd n h ps)) (λ e. refuted (cut_yes n (odd n h ps) e).1)
