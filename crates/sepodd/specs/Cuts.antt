-- The pairs of the best side, and its cut.
use Rattle.std.specs.Prelude.{◌≡◌, ℕ, ◌<◌, Bool, true, List, pos}
use Rattle.std.specs.List.{AllByRecursion}
use Rattle.tspdef.specs.Sets.{has}
use Rattle.tspdef.specs.Tours.{crosses, has_step}
use Rattle.tspdef.specs.Fixed.{IsPairBefore, AreRisingPairs}
use Rattle.tspdef.specs.Cuts.{Cut, odd, IsOdd}
use Rattle.cyc.specs.Frac.{Values}
use Rattle.sepodd.specs.declared.sides.Best.{Best}
use Rattle.sepodd.specs.Odd.{odd_weight}

-- of the pairs u < v of n cities that come before one, those that cross the set and are chosen, rising
pub record ArePairsTo (n : ℕ) (p : ℕ → Bool) (chosen : ℕ → ℕ → Bool) (end : ℕ × ℕ) (ps : List (ℕ × ℕ)) : Type 0 where
  pub below : AllByRecursion (λ q. (q.0 < q.1) × (q.1 < n)) ps
  pub rising : AreRisingPairs ps
  pub before : AllByRecursion (λ q. IsPairBefore q end) ps
  pub crossed : AllByRecursion (λ q. crosses p q ≡ true) ps
  pub wanted : AllByRecursion (λ q. chosen q.0 q.1 ≡ true) ps
  pub all : (u v : ℕ) → u < v → v < n → IsPairBefore (u, v) end → crosses p (u, v) ≡ true → chosen u v ≡ true → has_step ps u v ≡ true

-- the cut of a handle with city 0 and of pairs that weigh what the best does
pub record IsCutOf (x : Values) (b : Best) (c : Cut) : Type 0 where
  pub handle : List ℕ
  pub pairs : List (ℕ × ℕ)
  pub is_odd : IsOdd x.n handle pairs
  pub is_cut : c ≡ odd x.n handle pairs
  pub home : has handle 0 ≡ true
  pub weighs : odd_weight x handle pairs ≡ pos b.weight
