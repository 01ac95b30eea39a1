-- Sets below a number, and paths step by step.
use Rattle.std.proofs.Common.{◌≡◌, ℕ, zero, suc, ◌+◌, ◌-◌, ◌<◌, ◌≤◌, Bool, true, false, cond, ◌==◌, ◌&&◌, ◌||◌, List, [], ◌∷◌, ◌++◌, length, Option, Some, None, refl, sym, ap, subst, ◌∙◌, ⊎_elim, arith}
use Rattle.std.proofs.lemmas.Bool.{cases_Bool}
use Rattle.tspdef.specs.Sets.{has, RisesFrom, IsSet}
use Rattle.cyc.specs.declared.frac.Entry.{Entry}
use Rattle.cyc.specs.Frac.{Values}
use Rattle.sepblos.specs.Blossoms.{is_near_one}
use Rattle.sepcomb.specs.Growth.{other_end, is_free, leads_on, lower, near_ones, next_city, city_or_zero, is_next, path_from, set_below, grown, outside}

-- ---- sets

rises_push : (k m : ℕ) (xs : List ℕ) → m ≤ k → RisesFrom k m xs → RisesFrom (k + 1) m (xs ++ k ∷ [])
rises_push k m [] le r = ((le, omega arith), tt)
rises_push k m (x ∷ xs) le r = let a = r.0.0 in let b = r.0.1 in ((a, omega arith), rises_push k (x + 1) xs (omega arith) r.1)

rises_wider : (k m : ℕ) (xs : List ℕ) → RisesFrom k m xs → RisesFrom (k + 1) m (xs ++ [])
rises_wider k m [] r = tt
rises_wider k m (x ∷ xs) r = let a = r.0.0 in let b = r.0.1 in ((a, omega arith), rises_wider k (x + 1) xs r.1)

rises_by : (k : ℕ) (xs : List ℕ) (b : Bool) → RisesFrom k 0 xs → RisesFrom (k + 1) 0 (xs ++ cond b (k ∷ []) [])
rises_by k xs true r = rises_push k 0 xs (omega arith) r
rises_by k xs false r = rises_wider k 0 xs r

pub set_below_is_set : (n : ℕ) (cities : List ℕ) → IsSet n (set_below n cities)
set_below_is_set zero cities = tt
set_below_is_set (suc n) cities =
    let e : n + 1 ≡ suc n = omega arith in
    subst (λ m. RisesFrom m 0 (set_below n cities ++ cond (has cities n) (n ∷ []) [])) e (rises_by n (set_below n cities) (has cities n) (set_below_is_set n cities))

-- ---- paths

-- pairs that are not near one length lead nowhere
pub next_near : (h used path : List ℕ) (newest : ℕ) (best : Option ℕ) (es : List Entry)
    → next_city h used path newest best (near_ones es) ≡ next_city h used path newest best es
next_near h used path newest best [] = refl
next_near h used path newest best (e ∷ es) = ⊎_elim
    (λ (t : is_near_one e.x ≡ true).
    ap (λ b. next_city h used path newest best (cond b (e ∷ near_ones es) (near_ones es))) t
    ∙ next_near h used path newest (cond (leads_on h used path newest e) (Some (lower best (other_end newest e))) best) es)
    (λ (f : is_near_one e.x ≡ false).
    ap (λ b. next_city h used path newest best (cond b (e ∷ near_ones es) (near_ones es))) f
    ∙ (next_near h used path newest best es
    ∙ sym (ap (λ b. next_city h used path newest (cond b (Some (lower best (other_end newest e))) best) es) (leads_nowhere h used path newest e f))))
    (cases_Bool (is_near_one e.x))
  where
    leads_nowhere : (h used path : List ℕ) (newest : ℕ) (e : Entry) → is_near_one e.x ≡ false → leads_on h used path newest e ≡ false
    leads_nowhere h used path newest e f = ap (λ b. b && ((e.u == newest) || (e.v == newest)) && is_free h used path (other_end newest e)) f

-- as many teeth as pairs
pub teeth_many : (x : Values) (h used : List ℕ) (ps : List Entry) → length (grown x h used ps) ≡ length ps
teeth_many x h used [] = refl
teeth_many x h used (e ∷ es) = ap suc (teeth_many x h (used ++ path_from x.n x.entries h used [] (outside h e)) es)

-- a step of a path that is not over
pub path_more : (n step : ℕ) (es : List Entry) (h used path : List ℕ) (newest city : ℕ) → step < n → next_city h used path newest None es ≡ Some city
    → path_from (n - step) es h used path newest ≡ path_from (n - (step + 1)) es h used (path ++ city ∷ []) city
path_more n step es h used path newest city l e =
    let s : n - step ≡ suc (n - (step + 1)) = omega arith in
    ap (λ k. path_from k es h used path newest) s
    ∙ ap (λ o. cond (is_next o) (path_from (n - (step + 1)) es h used (path ++ city_or_zero o ∷ []) (city_or_zero o)) path) e
