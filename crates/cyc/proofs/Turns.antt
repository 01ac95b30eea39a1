-- How often a walk enters or leaves a set, told by whether it is inside.
use Rattle.std.proofs.Common.{◌≡◌, ℕ, ◌+◌, ◌<◌, Bool, true, false, cond, not, List, [], ◌∷◌, length, get_or, refl, sym, subst, ap, arith}
use Rattle.tspdef.specs.Tours.{walk, steps, crossings}

-- one of the two is inside
abbrev pub differ : Bool → Bool → Bool
differ a b = cond a (not b) b

-- how often a walk that is inside or not, goes through bs and ends at home, enters or leaves the set s
abbrev pub turns : (ℕ → Bool) → Bool → Bool → List ℕ → ℕ
turns s home inside [] = cond (differ inside home) 1 0
turns s home inside (b ∷ bs) = cond (differ inside (s b)) 1 0 + turns s home (s b) bs

walk_turns : (s : ℕ → Bool) (home a : ℕ) (bs : List ℕ) → crossings s (walk home a bs) ≡ turns s (s home) (s a) bs
walk_turns s home a [] = omega arith
walk_turns s home a (b ∷ bs) = ap (λ k. cond (differ (s a) (s b)) 1 0 + k) (walk_turns s home b bs)

differ_same : (a : Bool) → differ a a ≡ false
differ_same true = refl
differ_same false = refl

-- a tour's crossings, from its first city on
tour_turns : (s : ℕ → Bool) (a : ℕ) (bs : List ℕ) → turns s (s a) (s a) (a ∷ bs) ≡ crossings s (steps (a ∷ bs))
tour_turns s a bs = rw (differ_same (s a), walk_turns s a a bs) (omega arith)

-- the same, where a list is given
pub turns_at_home : (s : ℕ → Bool) (tour : List ℕ) (home : Bool) → 0 < length tour → home ≡ s (get_or tour 0 0) → 0 + turns s home home tour ≡ crossings s (steps tour)
turns_at_home s [] home some e = absurd (omega arith)
turns_at_home s (a ∷ bs) home some e =
    let same : home ≡ s a = e in
    subst (λ h. 0 + turns s h h (a ∷ bs) ≡ crossings s (steps (a ∷ bs))) (sym same) (omega (arith, tour_turns s a bs))
