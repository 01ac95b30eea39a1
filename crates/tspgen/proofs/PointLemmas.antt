use Rattle.std.proofs.Common.{◌≡◌, ℕ, zero, suc, ◌+◌, ◌-◌, ◌<◌, ◌≤◌, List, [], ◌∷◌, ◌++◌, length, append_assoc, ◌∙◌, ap, refl, arith}
use Rattle.std.proofs.lemmas.List.{append-nil}
use Rattle.tspinst.specs.Tables.{Point}
use Rattle.rand_pcg.specs.Lcg.{Lcg}
use Rattle.tspgen.specs.Points.{after, point, points}

-- one point more is drawn
pub one_more : (n k : ℕ) (g : Lcg) (front : List Point) → k < n → (front ++ point g ∷ []) ++ points (n - (k + 1)) (after (after g)) ≡ front ++ points (n - k) g
one_more n k g front h =
    let e : suc (n - (k + 1)) ≡ n - k = omega arith in
    append_assoc front (point g ∷ []) (points (n - (k + 1)) (after (after g))) ∙ ap (λ (m : ℕ). front ++ points m g) e

-- none is left to draw
pub no_more : (n k : ℕ) (g : Lcg) (front : List Point) → n ≤ k → front ++ points (n - k) g ≡ front
no_more n k g front h =
    let e : n - k ≡ 0 = omega arith in
    ap (λ (m : ℕ). front ++ points m g) e ∙ append-nil front

-- so many are drawn
pub length_points : (n : ℕ) (g : Lcg) → length (points n g) ≡ n
length_points zero g = refl
length_points (suc n) g = let ih = length_points n (after (after g)) in omega arith
