-- Closings: the whole-number duals that close a node. One length is 2^20 units.
use Rattle.std.specs.Prelude.{◌≡◌, ℕ, ◌^◌, ◌<◌, ◌≤◌, ◌⊎◌, List, [], ◌∷◌, length, ℤ, nat_abs}
use Rattle.std.specs.declared.cmp.Ordering.TheVariants.{Less}
use Rattle.std.specs.List.{AllByRecursion}
use Rattle.tspdef.specs.Cuts.{Cut, cut_cmp, IsCut}
use Rattle.tspdef.specs.Paths.{Condition, condition_at, IsClique}

-- a dual for each city, for some cuts, and for some conditions on sets, each named by its depth on the path
pub record Closing : Type 0 where
  pub city : List ℤ
  pub cuts : List (Cut × ℕ)
  pub conds : List (ℕ × ℕ)

-- a city dual for each city, and at most 4,096 cut and 4,096 clique duals
pub record HasCounts (n : ℕ) (c : Closing) : Type 0 where
  pub city : length c.city ≡ n
  pub cuts : length c.cuts ≤ 4096
  pub conds : length c.conds ≤ 4096

-- from 1 to 2^62
abbrev pub IsDualSize : ℕ → Type 0
IsDualSize y = (1 ≤ y) × (y ≤ 2 ^ 62)

-- city duals of size at most 2^62, cut and clique duals from 1 to 2^62
pub record HasSizes (c : Closing) : Type 0 where
  pub city : AllByRecursion (λ y. nat_abs y ≤ 2 ^ 62) c.city
  pub cuts : AllByRecursion (λ q. IsDualSize q.1) c.cuts
  pub conds : AllByRecursion (λ q. IsDualSize q.1) c.conds

-- each cut behind c, and each behind the one before it, is greater in the order of cuts
abbrev pub CutsRise : Cut → List (Cut × ℕ) → Type 0
CutsRise c [] = Unit {0}
CutsRise c (q ∷ qs) = (cut_cmp c q.0 ≡ Less) × CutsRise q.0 qs

-- strictly rising cuts
abbrev pub AreRisingCuts : List (Cut × ℕ) → Type 0
AreRisingCuts [] = Unit {0}
AreRisingCuts (q ∷ qs) = CutsRise q.0 qs

-- cuts of n cities, strictly rising
pub record HasCuts (n : ℕ) (c : Closing) : Type 0 where
  pub cuts : AllByRecursion (λ q. IsCut n q.0) c.cuts
  pub rising : AreRisingCuts c.cuts

-- strictly rising depths, the first of them above d
abbrev pub DepthsRise : ℕ → List (ℕ × ℕ) → Type 0
DepthsRise d [] = Unit {0}
DepthsRise d (q ∷ qs) = (d < q.0) × DepthsRise q.0 qs

-- the depths name conditions on sets
abbrev pub NamesCliques : List Condition → List (ℕ × ℕ) → Type 0
NamesCliques path qs = AllByRecursion (λ q. IsClique (condition_at path q.0)) qs

-- strictly rising depths of conditions on sets
pub record HasDepths (path : List Condition) (c : Closing) : Type 0 where
  pub rising : DepthsRise 0 c.conds
  pub cliques : NamesCliques path c.conds

-- a closing that a node of n cities with this path takes
pub record Fits (n : ℕ) (path : List Condition) (c : Closing) : Type 0 where
  pub counts : HasCounts n c
  pub sizes : HasSizes c
  pub cuts : HasCuts n c
  pub depths : HasDepths path c

-- The least that is wrong: 1 a count, 2 the size of a dual, 3 a cut of another number of cities or out of order,
-- 4 a depth out of order, past the path, or of a condition on an edge
abbrev pub IsMisfit : ℕ → List Condition → Closing → ℕ → Type 0
IsMisfit n path c k =
    ((k ≡ 1) × ¬ HasCounts n c)
    ⊎ ((k ≡ 2) × HasCounts n c × ¬ HasSizes c)
    ⊎ ((k ≡ 3) × HasCounts n c × HasSizes c × ¬ HasCuts n c)
    ⊎ ((k ≡ 4) × HasCounts n c × HasSizes c × HasCuts n c × ¬ HasDepths path c)

-- What a closed leaf of a proof needs beside its bound: counts, sizes, cuts, and depths of conditions on sets. No order.
pub record IsClosing (n : ℕ) (path : List Condition) (c : Closing) : Type 0 where
  pub counts : HasCounts n c
  pub sizes : HasSizes c
  pub cuts : AllByRecursion (λ q. IsCut n q.0) c.cuts
  pub cliques : NamesCliques path c.conds
