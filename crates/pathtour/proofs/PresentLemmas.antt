-- The pairs that a path uses.
use Rattle.std.proofs.Common.{◌≡◌, ℕ, ◌<◌, Bool, true, false, ◌||◌, List, [], ◌∷◌, ◌++◌, refl, sym, ◌∙◌, ap, arith, ⊎_elim}
use Rattle.std.proofs.lemmas.Bool.{cases_lt, or_cases, or_parts, or_left, or_right}
use Rattle.std.proofs.lemmas.Bool.Decides.{nat_tests}
use Rattle.std.specs.List.{AllByRecursion}
use Rattle.tspdef.specs.Tours.{joins, has_step, steps, IsTour}
use Rattle.tspdef.specs.Fixed.{AreSteps}
use Rattle.tspdef.specs.Instances.{Instance, IsInstance, IsTourOf}
use Rattle.tspdef.specs.Paths.{Condition, fixed, absent, present, two, four, is_absent, is_present, is_decided, ContinuesPath, IsPath, fixed_conditions, root}
use Rattle.tspdef.specs.Rays.{AreStepsOf}
use Rattle.tspdef.proofs.Steps.{joins_is, has_step_swap}

or_assoc : (x y z : Bool) → (x || y) || z ≡ x || (y || z)
or_assoc true y z = refl
or_assoc false y z = refl

joins_swap : (a b u v : ℕ) → joins u v (a, b) ≡ joins v u (a, b)
joins_swap a b u v = grind (arith, nat_tests)

pub is_present-swap : (path : List Condition) (u v : ℕ) → is_present path u v ≡ is_present path v u
is_present-swap [] u v = refl
is_present-swap (fixed a b ∷ path) u v = let ih = is_present-swap path u v in let j = joins_swap a b u v in cc
is_present-swap (present a b ∷ path) u v = let ih = is_present-swap path u v in let j = joins_swap a b u v in cc
is_present-swap (absent a b ∷ path) u v = is_present-swap path u v
is_present-swap (two s ∷ path) u v = is_present-swap path u v
is_present-swap (four s ∷ path) u v = is_present-swap path u v

pub is_present-append : (path more : List Condition) (u v : ℕ) → is_present (path ++ more) u v ≡ is_present path u v || is_present more u v
is_present-append [] more u v = refl
is_present-append (fixed a b ∷ path) more u v = ap (λ x. joins u v (a, b) || x) (is_present-append path more u v) ∙ sym (or_assoc (joins u v (a, b)) (is_present path u v) (is_present more u v))
is_present-append (present a b ∷ path) more u v = ap (λ x. joins u v (a, b) || x) (is_present-append path more u v) ∙ sym (or_assoc (joins u v (a, b)) (is_present path u v) (is_present more u v))
is_present-append (absent a b ∷ path) more u v = is_present-append path more u v
is_present-append (two s ∷ path) more u v = is_present-append path more u v
is_present-append (four s ∷ path) more u v = is_present-append path more u v

-- a used pair is of two different cities
pub used_pair : (n : ℕ) (path more : List Condition) → ContinuesPath n path more → (u v : ℕ) → is_present more u v ≡ true → (u < n) × (v < n) × (u ≡ v → ⊥)
used_pair n path [] h u v e = cc
used_pair n path (fixed a b ∷ more) h u v e = ⊎_elim
    (λ j. let low = h.0.0.0.0 in let high = h.0.0.0.1 in ⊎_elim
    (λ p. let x = p.0 in let y = p.1 in (omega arith, omega arith, λ q. omega arith))
    (λ p. let x = p.0 in let y = p.1 in (omega arith, omega arith, λ q. omega arith))
    (joins_is a b u v j))
    (λ r. used_pair n (path ++ fixed a b ∷ []) more h.1 u v r)
    (or_cases (joins u v (a, b)) (is_present more u v) e)
used_pair n path (present a b ∷ more) h u v e = ⊎_elim
    (λ j. let low = h.0.0.0 in let high = h.0.0.1 in ⊎_elim
    (λ p. let x = p.0 in let y = p.1 in (omega arith, omega arith, λ q. omega arith))
    (λ p. let x = p.0 in let y = p.1 in (omega arith, omega arith, λ q. omega arith))
    (joins_is a b u v j))
    (λ r. used_pair n (path ++ present a b ∷ []) more h.1 u v r)
    (or_cases (joins u v (a, b)) (is_present more u v) e)
used_pair n path (absent a b ∷ more) h u v e = used_pair n (path ++ absent a b ∷ []) more h.1 u v e
used_pair n path (two s ∷ more) h u v e = used_pair n (path ++ two s ∷ []) more h.1 u v e
used_pair n path (four s ∷ more) h u v e = used_pair n (path ++ four s ∷ []) more h.1 u v e

-- the used pairs are the steps, in either order
pub used_are_steps : (n : ℕ) (path : List Condition) (tour : List ℕ) → AreStepsOf n path tour → (u v : ℕ) → u < n → v < n → (u ≡ v → ⊥) → is_present path u v ≡ has_step (steps tour) u v
used_are_steps n path tour are u v l m ne = ⊎_elim
    (λ low. are u v low m)
    (λ high. is_present-swap path u v ∙ are v u (omega (arith, ne)) l ∙ has_step_swap (steps tour) v u)
    (cases_lt u v)

-- each used pair is a step
pub used_is_step : (n : ℕ) (path : List Condition) (tour : List ℕ) → IsPath n path → AreStepsOf n path tour → (u v : ℕ) → is_present path u v ≡ true → has_step (steps tour) u v ≡ true
used_is_step n path tour is are u v h =
    let p = used_pair n [] path is u v h in
    sym (used_are_steps n path tour are u v p.0 p.1 p.2) ∙ h

-- a pair that a path does not decide is not used
pub not_used : (path : List Condition) (a b : ℕ) → is_decided path a b ≡ false → is_present path a b ≡ false
not_used path a b h = (or_parts (is_absent path a b) (is_present path a b) h).1

-- ---- the fixed pairs of an instance

joins_own : (a b : ℕ) → joins a b (a, b) ≡ true
joins_own a b = grind (arith, nat_tests)

fixed_are_steps : (n : ℕ) (es : List (ℕ × ℕ)) (used : ℕ → ℕ → Bool) (pairs : List (ℕ × ℕ)) → AllByRecursion (λ p. (p.0 < p.1) × (p.1 < n)) pairs
    → ((u v : ℕ) → u < v → v < n → used u v ≡ has_step es u v) → ((u v : ℕ) → is_present (fixed_conditions pairs) u v ≡ true → used u v ≡ true) → AreSteps es pairs
fixed_are_steps n es used [] below are is = tt
fixed_are_steps n es used (p ∷ ps) below are is = (
  sym (are p.0 p.1 below.0.0 below.0.1) ∙ is p.0 p.1 (or_left _ _ (joins_own p.0 p.1)),
  fixed_are_steps n es used ps below.1 are (λ u v h. is u v (or_right _ _ h)),
)

-- a tour of the used pairs of a path that begins with the fixed pairs holds these
pub holds_fixed : (i : Instance) (rest : List Condition) (tour : List ℕ) → IsInstance i → IsTour i.n tour → AreStepsOf i.n (root i ++ rest) tour → IsTourOf i tour
holds_fixed i rest tour is t are = record {
  is_tour = t;
  holds_fixed = fixed_are_steps i.n (steps tour) (is_present (root i ++ rest)) i.fixed is.fixed.below are (λ u v h. is_present-append (root i) rest u v ∙ or_left _ _ h);
}
