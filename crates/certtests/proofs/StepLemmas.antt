-- Steps of a tour, by what is behind each city.
use Rattle.std.proofs.Common.{◌≡◌, ℕ, ◌<◌, Bool, true, false, List, [], ◌∷◌, ◌++◌, length, get_or, set, refl, sym, ap, ◌∙◌, subst, arith, ⊎_elim, append_assoc}
use Rattle.std.specs.Prelude.{◌==◌}
use Rattle.std.specs.List.{AllByRecursion}
use Rattle.std.proofs.lemmas.Bool.{eqb-true, or_cases}
use Rattle.std.proofs.lemmas.List.{get_or-set_same, get_or-set_other, length-set}
use Rattle.std.proofs.lemmas.Bool.Decides.{nat_tests}
use Rattle.tspdef.specs.Sets.{has}
use Rattle.tspdef.specs.Tours.{IsTour, AreDistinct, walk, steps, joins, has_step}
use Rattle.tspdef.proofs.Steps.{tour_has}
use Rattle.cyc.specs.Tour.{IsWhole}
use Rattle.certdef.specs.Tests.{are_steps}
use Rattle.certtests.specs.Followers.{first_or, Follow, AreFollowers, is_joined, all_joined}

-- ---- writing what is behind a city

-- a city that is not among them
pub follow_without : (home : ℕ) (followers : List ℕ) (k x : ℕ) (cs : List ℕ) → has cs k ≡ false → Follow home followers cs → Follow home (set followers k x) cs
follow_without home followers k x [] h f = tt
follow_without home followers k x (c ∷ cs) h f =
    let ne : c ≡ k → ⊥ = λ e. grind (arith, nat_tests) in
    let rest : has cs k ≡ false = grind (arith, nat_tests) in
    (get_or-set_other followers k c x 0 ne ∙ f.0, follow_without home followers k x cs rest f.1)

-- one city more in front
pub follow_more : (home : ℕ) (followers : List ℕ) (c : ℕ) (cs : List ℕ) → c < length followers → has cs c ≡ false → Follow home followers cs → Follow home (set followers c (first_or home cs)) (c ∷ cs)
follow_more home followers c cs l h f = (get_or-set_same followers c (first_or home cs) 0 l, follow_without home followers c (first_or home cs) cs h f)

-- the last city before others is none of them
pub none_behind : (before : List ℕ) (c : ℕ) (done : List ℕ) → AreDistinct (before ++ c ∷ done) → has done c ≡ false
none_behind [] c done d = d.0
none_behind (b ∷ bs) c done d = none_behind bs c done d.1

pub within : (n : ℕ) (before : List ℕ) (c : ℕ) (done : List ℕ) → AllByRecursion (λ x. x < n) (before ++ c ∷ done) → c < n
within n [] c done h = h.0
within n (b ∷ bs) c done h = within n bs c done h.1

-- where what is behind each city is written from the last city back: the rest is to come, and this city is behind it
abbrev pub Laid : List ℕ → List ℕ → ℕ → List ℕ → Type 0
Laid cities followers behind rest =
    (length followers ≡ length cities) × ((done : List ℕ) × (cities ≡ rest ++ done) × (behind ≡ first_or (first_or 0 cities) done) × Follow (first_or 0 cities) followers done)

pub laid_none : (cities followers : List ℕ) → length followers ≡ length cities → Laid cities followers (get_or cities 0 0) cities
laid_none [] followers e = (e, ([], refl, refl, tt))
laid_none (a ∷ bs) followers e = (e, ([], sym (nothing (a ∷ bs)), refl, tt)) where
  nothing : (xs : List ℕ) → xs ++ [] ≡ xs
  nothing [] = refl
  nothing (x ∷ xs) = ap (λ ys. x ∷ ys) (nothing xs)

laid_whole : (cities followers : List ℕ) (behind : ℕ) (rest before : List ℕ) (city : ℕ) → (l : Laid cities followers behind rest) → rest ≡ before ++ city ∷ [] → cities ≡ before ++ city ∷ l.1.0
laid_whole cities followers behind rest before city l e = l.1.1 ∙ (ap (λ xs. xs ++ l.1.0) e ∙ append_assoc before (city ∷ []) l.1.0)

pub laid_within : (cities followers : List ℕ) (behind : ℕ) (rest before : List ℕ) (city : ℕ) → IsWhole cities → Laid cities followers behind rest → rest ≡ before ++ city ∷ [] → city < length followers
laid_within cities followers behind rest before city w l e =
    let low = within (length cities) before city l.1.0 (subst (AllByRecursion (λ x. x < length cities)) (laid_whole cities followers behind rest before city l e) w.is_tour.below) in
    let long = l.0 in omega arith

pub laid_more : (cities followers : List ℕ) (behind : ℕ) (rest before : List ℕ) (city : ℕ) → IsWhole cities → Laid cities followers behind rest → rest ≡ before ++ city ∷ [] → Laid cities (set followers city behind) city before
laid_more cities followers behind rest before city w l e =
    let whole = laid_whole cities followers behind rest before city l e in
    let none = none_behind before city l.1.0 (subst AreDistinct whole w.is_tour.distinct) in
    let low = laid_within cities followers behind rest before city w l e in (
      length-set followers city behind ∙ l.0,
      (
        city ∷ l.1.0,
        whole,
        refl,
        subst (λ x. Follow (first_or 0 cities) (set followers city x) (city ∷ l.1.0)) (sym l.1.2) (follow_more (first_or 0 cities) followers city l.1.0 low none l.1.3),
      ),
    )

pub laid_all : (cities followers : List ℕ) (behind : ℕ) (rest : List ℕ) → length rest ≡ 0 → Laid cities followers behind rest → AreFollowers cities followers
laid_all cities followers behind [] e l = record { all = l.0; follow = subst (Follow (first_or 0 cities) followers) (sym l.1.1) l.1.3 }
laid_all cities followers behind (x ∷ xs) e l = absurd (omega arith)

-- ---- steps

step_forth : (home : ℕ) (followers : List ℕ) (a : ℕ) (bs : List ℕ) (u v : ℕ) → Follow home followers (a ∷ bs) → has_step (walk home a bs) u v ≡ true → is_joined followers u v ≡ true
step_forth home followers a [] u v f e = let x = f.0 in grind (arith, nat_tests)
step_forth home followers a (b ∷ bs) u v f e = ⊎_elim
    (λ j. let x = f.0 in grind (arith, nat_tests))
    (λ j. step_forth home followers b bs u v f.1 j) (or_cases (joins u v (a, b)) (has_step (walk home b bs) u v) e)

step_back : (home : ℕ) (followers : List ℕ) (a : ℕ) (bs : List ℕ) (u v : ℕ) → Follow home followers (a ∷ bs) → has (a ∷ bs) u ≡ true → get_or followers u 0 ≡ v → has_step (walk home a bs) u v ≡ true
step_back home followers a [] u v f h e = let x = f.0 in grind (arith, nat_tests)
step_back home followers a (b ∷ bs) u v f h e = ⊎_elim
    (λ j. let x = f.0 in grind (arith, nat_tests))
    (λ j. let r = step_back home followers b bs u v f.1 j e in grind (arith, nat_tests)) (or_cases (a == u) (has (b ∷ bs) u) h)

turned : (es : List (ℕ × ℕ)) (u v : ℕ) → has_step es u v ≡ true → has_step es v u ≡ true
turned [] u v e = e
turned (e ∷ es) u v h = ⊎_elim
    (λ j. grind (arith, nat_tests))
    (λ j. let r = turned es u v j in grind (arith, nat_tests)) (or_cases (joins u v e) (has_step es u v) h)

same_bool : (a b : Bool) → (a ≡ true → b ≡ true) → (b ≡ true → a ≡ true) → a ≡ b
same_bool true b f g = sym (f refl)
same_bool false true f g = g refl
same_bool false false f g = refl

pub step_joined : (n : ℕ) (cities followers : List ℕ) (u v : ℕ) → IsTour n cities → AreFollowers cities followers → u < n → v < n → is_joined followers u v ≡ has_step (steps cities) u v
step_joined n [] followers u v t f k l = let all = t.all in absurd (omega arith)
step_joined n (a ∷ bs) followers u v t f k l = same_bool (is_joined followers u v) (has_step (walk a a bs) u v)
    (λ e. ⊎_elim
    (λ j. step_back a followers a bs u v f.follow (tour_has n (a ∷ bs) t u k) (eqb-true (get_or followers u 0) v j))
    (λ j. turned (walk a a bs) v u (step_back a followers a bs v u f.follow (tour_has n (a ∷ bs) t v l) (eqb-true (get_or followers v 0) u j)))
    (or_cases (get_or followers u 0 == v) (get_or followers v 0 == u) e))
    (step_forth a followers a bs u v f.follow)

pub all_steps : (n : ℕ) (cities followers : List ℕ) (pairs : List (ℕ × ℕ)) → IsTour n cities → AreFollowers cities followers → AllByRecursion (λ p. (p.0 < p.1) × (p.1 < n)) pairs
    → all_joined followers pairs ≡ are_steps (steps cities) pairs
all_steps n cities followers [] t f h = refl
all_steps n cities followers (p ∷ ps) t f h =
    let low = h.0.0 in
    let high = h.0.1 in
    let one = step_joined n cities followers p.0 p.1 t f (omega arith) high in
    let rest = all_steps n cities followers ps t f h.1 in cc
