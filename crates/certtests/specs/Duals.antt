-- The duals of a closed leaf, as far as its lines are read.
use Rattle.std.specs.Prelude.{ℕ, ◌+◌, ◌^◌, ◌≤◌, List, length, nat_abs}
use Rattle.std.specs.List.{AllByRecursion}
use Rattle.tspdef.specs.Paths.{Condition}
use Rattle.tspdef.specs.Closings.{IsDualSize, NamesCliques}
use Rattle.certdef.specs.Proofs.{Duals}

-- what the lines of a leaf say so far, where k cuts are listed and the leaf has this path; b cut duals and c condition
-- duals may still come
pub record AreDuals (k : ℕ) (path : List Condition) (b c : ℕ) (d : Duals) : Type 0 where
  pub cities : AllByRecursion (λ p. nat_abs p.1 ≤ 2 ^ 62) d.cities
  pub cuts : AllByRecursion (λ q. (1 ≤ q.0) × (q.0 ≤ k)) d.cuts
  pub cut_sizes : AllByRecursion (λ q. IsDualSize q.1) d.cuts
  pub cliques : NamesCliques path d.conds
  pub condition_sizes : AllByRecursion (λ q. IsDualSize q.1) d.conds
  pub few_cuts : length d.cuts + b ≤ 4096
  pub few_conditions : length d.conds + c ≤ 4096
