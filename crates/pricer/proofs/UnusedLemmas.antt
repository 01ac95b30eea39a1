use Rattle.std.proofs.Common.{◌≡◌, ℕ, ◌≤◌, false, true, List, [], ◌∷◌, arith, ⊎_elim}
use Rattle.std.proofs.lemmas.Bool.{cases_lt, or_left}
use Rattle.std.proofs.lemmas.Bool.Decides.{nat_tests}
use Rattle.tspdef.specs.Tours.{joins, steps, has_step, IsTour}
use Rattle.tspdef.specs.Paths.{Condition, is_present}
use Rattle.tspdef.specs.Rays.{AreStepsOf}
use Rattle.tspdef.proofs.Steps.{lacks}

joins_own : (a b : ℕ) → joins a b (a, b) ≡ true
joins_own a b = grind (arith, nat_tests)

joins_back : (a b : ℕ) → joins b a (a, b) ≡ true
joins_back a b = grind (arith, nat_tests)

-- a path that uses no pair leaves no tour
pub unused_is_no_tour : (n : ℕ) (path : List Condition) (tour : List ℕ) → 3 ≤ n → ((u v : ℕ) → is_present path u v ≡ false) → IsTour n tour → AreStepsOf n path tour → ⊥
unused_is_no_tour n path [] many none is used = let l = is.all in absurd (omega arith)
unused_is_no_tour n path (a ∷ []) many none is used = let l = is.all in absurd (omega arith)
unused_is_no_tour n path (a ∷ b ∷ cs) many none is used =
    let apart = (lacks b cs a is.distinct.0).0 in
    let la = is.below.0 in
    let lb = is.below.1.0 in
    ⊎_elim
    (λ l. let step = used a b l lb in let one : has_step (steps (a ∷ b ∷ cs)) a b ≡ true = or_left _ _ (joins_own a b) in let no_step = none a b in cc)
    (λ l. let step = used b a (omega arith) la in let one : has_step (steps (a ∷ b ∷ cs)) b a ≡ true = or_left _ _ (joins_back a b) in let no_step = none b a in cc)
    (cases_lt a b)
