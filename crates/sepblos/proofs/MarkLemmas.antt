-- Marks on the cities of sets.
use Rattle.std.proofs.Common.{◌≡◌, ℕ, ◌+◌, ◌<◌, ◌≤◌, Bool, true, false, ◌||◌, List, [], ◌∷◌, ◌++◌, length, map, take, get_or, refl, sym, ap, ◌∙◌, arith}
use Rattle.std.proofs.lemmas.Bool.{ne_eqb, or_parts}
use Rattle.std.proofs.lemmas.List.{take_more}
use Rattle.cutform.proofs.SetLemmas.{has-push, cities-more}
use Rattle.cutform.specs.Cut.{cities_of_each, wide_sets, pairs_of}
use Rattle.cyc.specs.CitySet.{Members}
use Rattle.tspdef.specs.Sets.{has, RisesFrom, IsSet}
use Rattle.tspdef.specs.Cuts.{Cut, subtour, comb, odd, pair_set, sets_of, coefficient}
use Rattle.sepblos.specs.Violated.{is_in_any}

or_none : (b : Bool) → (b || false) ≡ b
or_none true = refl
or_none false = refl

or_assoc : (a b c : Bool) → (a || (b || c)) ≡ ((a || b) || c)
or_assoc true b c = refl
or_assoc false b c = refl

-- of a city past the marks there is none
pub marked-past : (old marks : List Bool) (xs : List ℕ) (i k : ℕ) → i < length xs → (get_or xs i 0 ≡ k → ⊥)
    → get_or marks k false ≡ (get_or old k false || has (take i xs) k)
    → get_or marks k false ≡ (get_or old k false || has (take (i + 1) xs) k)
marked-past old marks xs i k h other e =
    e ∙ ap (λ b. get_or old k false || b) (sym (ap (λ ys. has ys k) (take_more xs i 0 h) ∙ (has-push (take i xs) (get_or xs i 0) k
    ∙ (ap (λ b. has (take i xs) k || b) (ne_eqb (get_or xs i 0) k other) ∙ or_none (has (take i xs) k)))))

any_push : (ss : List (List ℕ)) (t : List ℕ) (c : ℕ) → is_in_any (ss ++ t ∷ []) c ≡ (is_in_any ss c || has t c)
any_push [] t c = or_none (has t c)
any_push (s ∷ ss) t c = ap (λ b. has s c || b) (any_push ss t c) ∙ or_assoc (has s c) (is_in_any ss c) (has t c)

-- the next set after those whose cities are marked
pub any_more : (ts : List Members) (i : ℕ) (t : Members) (c : ℕ) → i < length ts → t ≡ get_or ts i t
    → is_in_any (cities_of_each (take (i + 1) ts)) c ≡ (is_in_any (cities_of_each (take i ts)) c || has t.cities c)
any_more ts i t c h is = ap (λ ss. is_in_any ss c) (cities-more ts i t h is) ∙ any_push (cities_of_each (take i ts)) t.cities c

-- a pair of two cities that are in no set crosses none
pub crosses_none : (ss : List (List ℕ)) (u v : ℕ) → is_in_any ss u ≡ false → is_in_any ss v ≡ false → coefficient ss u v ≡ 0
crosses_none [] u v a b = refl
crosses_none (s ∷ ss) u v a b =
    let p = or_parts (has s u) (is_in_any ss u) a in
    let q = or_parts (has s v) (is_in_any ss v) b in
    let rest = crosses_none ss u v p.1 q.1 in
    rw (p.0, q.0) (omega (arith, rest))

-- a set of one city more, or none
rises_push : (k m : ℕ) (xs : List ℕ) → m ≤ k → RisesFrom k m xs → RisesFrom (k + 1) m (xs ++ k ∷ [])
rises_push k m [] le r = ((le, omega arith), tt)
rises_push k m (x ∷ xs) le r = let a = r.0.0 in let b = r.0.1 in ((a, omega arith), rises_push k (x + 1) xs (omega arith) r.1)

rises_wider : (k m : ℕ) (xs : List ℕ) → RisesFrom k m xs → RisesFrom (k + 1) m xs
rises_wider k m [] r = tt
rises_wider k m (x ∷ xs) r = let a = r.0.0 in let b = r.0.1 in ((a, omega arith), rises_wider k (x + 1) xs r.1)

pub set_push : (k : ℕ) (xs : List ℕ) → IsSet k xs → IsSet (k + 1) (xs ++ k ∷ [])
set_push k xs s = rises_push k 0 xs (omega arith) s

pub set_wider : (k : ℕ) (xs : List ℕ) → IsSet k xs → IsSet (k + 1) xs
set_wider k xs s = rises_wider k 0 xs s

-- the sets of a cut are its wide ones and its pairs
pub any_of_cut : (c : Cut) (city : ℕ) → is_in_any (sets_of c) city ≡ (is_in_any (wide_sets c) city || is_in_any (map pair_set (pairs_of c)) city)
any_of_cut (subtour n s) city = sym (or_none (has s city || false))
any_of_cut (comb n h ts) city = sym (or_none (has h city || is_in_any ts city))
any_of_cut (odd n h ps) city = ap (λ b. b || is_in_any (map pair_set ps) city) (sym (or_none (has h city)))

-- the next pair after those whose ends are marked
pub pair_more : (old new : Bool) (p : ℕ × ℕ) (ps : List (ℕ × ℕ)) (c : ℕ) (t : Bool) → new ≡ (old || has (pair_set p) c) → (old || is_in_any (map pair_set (p ∷ ps)) c) ≡ t → (new || is_in_any (map pair_set ps) c) ≡ t
pair_more old new p ps c t e h = ap (λ b. b || is_in_any (map pair_set ps) c) e ∙ (sym (or_assoc old (has (pair_set p) c) (is_in_any (map pair_set ps) c)) ∙ h)
