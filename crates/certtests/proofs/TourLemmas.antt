-- Tours of cities from 1.
use Rattle.std.proofs.Common.{◌≡◌, ℕ, suc, ◌-◌, ◌<◌, ◌≤◌, Bool, true, false, ◌&&◌, List, [], ◌∷◌, length, get_or, refl, sym, ap, ◌∙◌, subst, arith}
use Rattle.std.specs.Prelude.{nat_lt, ◌==◌}
use Rattle.std.specs.List.{AllByRecursion}
use Rattle.std.proofs.lemmas.Bool.{ne_eqb, false_from_ne_true}
use Rattle.tspdef.specs.Tours.{IsTour, steps, last_city}
use Rattle.tspdef.specs.Instances.{Instance}
use Rattle.certdef.specs.Accepted.{from_zero}
use Rattle.certdef.specs.Tests.{are_steps, is_canonical, is_tour_from_one}
use Rattle.verdict.proofs.Decisions.{tour_from_one_yes, yes_tour_from_one, steps_yes, yes_steps, canonical_yes, yes_canonical}
use Rattle.certtests.specs.Places.{AreFromOne}

-- ---- canonical lists, by their places

last_is : (b : ℕ) (cs : List ℕ) → last_city b cs ≡ get_or (b ∷ cs) (length cs) 0
last_is b [] = refl
last_is b (c ∷ cs) = last_is c cs

last_behind : (a b : ℕ) (cs : List ℕ) → get_or (a ∷ b ∷ cs) (length (a ∷ b ∷ cs) - 1) 0 ≡ last_city b cs
last_behind a b cs =
    let e : length (a ∷ b ∷ cs) - 1 ≡ suc (length cs) = omega arith in
    ap (λ k. get_or (a ∷ b ∷ cs) k 0) e ∙ sym (last_is b cs)

pub canonical_is_long : (cs : List ℕ) → length cs < 2 → is_canonical cs ≡ false
canonical_is_long [] h = refl
canonical_is_long (a ∷ []) h = refl
canonical_is_long (a ∷ b ∷ cs) h = absurd (omega arith)

canonical_by_places : (cs : List ℕ) → 2 ≤ length cs → is_canonical cs ≡ ((get_or cs 0 0 == 0) && nat_lt (get_or cs 1 0) (get_or cs (length cs - 1) 0))
canonical_by_places [] h = absurd (omega arith)
canonical_by_places (a ∷ []) h = absurd (omega arith)
canonical_by_places (a ∷ b ∷ cs) h = ap (λ k. (a == 0) && nat_lt b k) (sym (last_behind a b cs))

-- of a list that begins with city 0
pub canonical_from_home : (cs : List ℕ) → 2 ≤ length cs → get_or cs 0 0 ≡ 0 → nat_lt (get_or cs 1 0) (get_or cs (length cs - 1) 0) ≡ is_canonical cs
canonical_from_home cs h home =
    sym (canonical_by_places cs h ∙ ap (λ k. (k == 0) && nat_lt (get_or cs 1 0) (get_or cs (length cs - 1) 0)) home)

-- of one that does not
pub canonical_from_elsewhere : (cs : List ℕ) → 2 ≤ length cs → (get_or cs 0 0 ≡ 0 → ⊥) → is_canonical cs ≡ false
canonical_from_elsewhere cs h ne =
    canonical_by_places cs h ∙ ap (λ b. b && nat_lt (get_or cs 1 0) (get_or cs (length cs - 1) 0)) (ne_eqb (get_or cs 0 0) 0 ne)

-- ---- what passes

are_positive : (n : ℕ) (cs : List ℕ) → AreFromOne n cs → AllByRecursion (λ c. 1 ≤ c) cs
are_positive n [] h = tt
are_positive n (c ∷ cs) h = (h.0.0, are_positive n cs h.1)

are_within : (n : ℕ) (cs : List ℕ) → AllByRecursion (λ c. 1 ≤ c) cs → AllByRecursion (λ c. c < n) (from_zero cs) → AreFromOne n cs
are_within n [] p h = tt
are_within n (c ∷ cs) p h = ((p.0, omega arith), are_within n cs p.1 h.1)

pub tour_passes : (i : Instance) (cs : List ℕ) → AreFromOne i.n cs → is_canonical (from_zero cs) ≡ true → IsTour i.n (from_zero cs) → are_steps (steps (from_zero cs)) i.fixed ≡ true → is_tour_from_one i cs ≡ true
tour_passes i cs r c t f = yes_tour_from_one i cs (are_positive i.n cs r) (record { is_tour = t; holds_fixed = steps_yes (steps (from_zero cs)) i.fixed f }) (canonical_yes (from_zero cs) c)

pub tour_out_of_range : (i : Instance) (cs : List ℕ) → (AreFromOne i.n cs → ⊥) → is_tour_from_one i cs ≡ false
tour_out_of_range i cs refuted = false_from_ne_true (is_tour_from_one i cs) (λ e.
    let p = tour_from_one_yes i cs e in
    refuted (are_within i.n cs p.from_one p.is_tour.is_tour.below))

pub tour_not_canonical : (i : Instance) (cs : List ℕ) → is_canonical (from_zero cs) ≡ false → is_tour_from_one i cs ≡ false
tour_not_canonical i cs refuted = false_from_ne_true (is_tour_from_one i cs) (λ e.
    let p = tour_from_one_yes i cs e in
    let q = yes_canonical (from_zero cs) p.canonical in cc)

pub tour_none : (i : Instance) (cs : List ℕ) → (IsTour i.n (from_zero cs) → ⊥) → is_tour_from_one i cs ≡ false
tour_none i cs refuted = false_from_ne_true (is_tour_from_one i cs) (λ e. refuted (tour_from_one_yes i cs e).is_tour.is_tour)

-- a tour that lacks a fixed pair
pub tour_lacks : (i : Instance) (cs : List ℕ) → are_steps (steps (from_zero cs)) i.fixed ≡ false → is_tour_from_one i cs ≡ false
tour_lacks i cs refuted = false_from_ne_true (is_tour_from_one i cs) (λ e.
    let p = tour_from_one_yes i cs e in
    let q = yes_steps (steps (from_zero cs)) i.fixed p.is_tour.holds_fixed in cc)

-- what making a tour of canonical cities answers
pub no_tour : (i : Instance) (n : ℕ) (cs xs : List ℕ) → n ≡ i.n → xs ≡ from_zero cs → ¬ IsTour n xs → false ≡ is_tour_from_one i cs
no_tour i n cs xs e f none = sym (tour_none i cs (λ t. none (subst (λ m. IsTour m xs) (sym e) (subst (IsTour i.n) (sym f) t))))

pub fixed_within : (i : Instance) (n : ℕ) (xs ys : List ℕ) (pairs : List (ℕ × ℕ)) → AllByRecursion (λ p. (p.0 < p.1) × (p.1 < i.n)) i.fixed → n ≡ i.n → IsTour n xs → ys ≡ xs → pairs ≡ i.fixed
    → AllByRecursion (λ p. (p.0 < p.1) × (p.1 < length ys)) pairs
fixed_within i n xs ys pairs h e t same f =
    let long : i.n ≡ length ys = sym (ap length same ∙ t.all ∙ e) in
    subst (λ ps. AllByRecursion (λ (p : ℕ × ℕ). (p.0 < p.1) × (p.1 < length ys)) ps) (sym f) (subst (λ m. AllByRecursion (λ (p : ℕ × ℕ). (p.0 < p.1) × (p.1 < m)) i.fixed) long h)

-- the steps that were tested
pub steps_tested : (i : Instance) (cs xs ys : List ℕ) (pairs : List (ℕ × ℕ)) (b : Bool) → xs ≡ from_zero cs → ys ≡ xs → pairs ≡ i.fixed → b ≡ are_steps (steps ys) pairs → are_steps (steps (from_zero cs)) i.fixed ≡ b
steps_tested i cs xs ys pairs b e f g h = sym (h ∙ (ap (λ ps. are_steps (steps ys) ps) g ∙ ap (λ zs. are_steps (steps zs) i.fixed) (f ∙ e)))

pub tour_found : (i : Instance) (n : ℕ) (cs xs : List ℕ) → n ≡ i.n → AreFromOne n cs → xs ≡ from_zero cs → is_canonical xs ≡ true → IsTour n xs → are_steps (steps (from_zero cs)) i.fixed ≡ true → true ≡ is_tour_from_one i cs
tour_found i n cs xs e r f c t g =
    sym (tour_passes i cs (subst (λ m. AreFromOne m cs) e r) (subst (λ ys. is_canonical ys ≡ true) f c) (subst (IsTour i.n) f (subst (λ m. IsTour m xs) e t)) g)
