-- Tables of distances, row by row, and the instance that some points have.
use Rattle.std.specs.Prelude.{◌≡◌, ℕ, ◌+◌, ◌*◌, ◌<◌, List, [], length, map, flat_map, ℤ, pos, slice_index, slice_index_or, slice_set, Bool, ◌==◌}
use Rattle.std.specs.Ordering.{on, eq_of_both}
use Rattle.std.specs.Cmp.{IsEquivalence}
use Rattle.std.specs.Cmp.Lexicographic.{pointwise, on_texts_equal}
use Rattle.std.proofs.lemmas.Cmp.{and_equiv, on_equiv, nat_eq_equiv, lists_equiv}
use Rattle.tspdef.specs.Instances.{Instance, IsInstance}
use Rattle.tspdef.specs.Distances.{Rule, distance}

-- distances of all pairs of n cities, without fixed pairs
abbrev pub IsTable : ℕ → List ℕ → Type 0
IsTable n table = IsInstance (record { n = n; table = table; fixed = [] })

-- the table with this distance of i and j, in both directions
abbrev pub put : ℕ → List ℕ → ℕ → ℕ → ℕ → List ℕ
put n table i j w = slice_set (slice_set table (i * n + j) w) (j * n + i) w

-- an x and a y
abbrev pub Point : Type 0
Point = ℤ × ℤ

-- the distances from each point to each
abbrev pub distances : Rule → List Point → List ℕ
distances rule points = flat_map (λ a. map (λ b. distance rule a b) points) points

-- the instance of some points
abbrev pub instance_of : Rule → List Point → Instance
instance_of rule points = record { n = length points; table = distances rule points; fixed = [] }

-- two pairs are the same
abbrev pub same_pair : ℕ × ℕ → ℕ × ℕ → Bool
same_pair = eq_of_both (on (λ p. p.0) ◌==◌) (on (λ p. p.1) ◌==◌)

-- two instances have the same cities, the same distances and the same fixed pairs
abbrev pub is_same : Instance → Instance → Bool
is_same = eq_of_both (on (λ i. i.n) ◌==◌) (eq_of_both (on (λ i. i.table) (pointwise ◌==◌)) (on (λ i. i.fixed) (pointwise same_pair)))

pub same_is_equivalence : IsEquivalence is_same
same_is_equivalence = and_equiv (on_equiv (λ i. i.n) nat_eq_equiv) (and_equiv (on_texts_equal (λ i. i.table)) (on_equiv (λ i. i.fixed) (lists_equiv (and_equiv (on_equiv (λ p. p.0) nat_eq_equiv) (on_equiv (λ p. p.1) nat_eq_equiv)))))

abbrev pub point_at : List Point → ℕ → Point
point_at points v = slice_index_or points v (pos 0, pos 0)

-- The table has the distances of each of the first u points to those before it, and of point u to the first v.
pub record Fills (rule : Rule) (points : List Point) (table : List ℕ) (u v : ℕ) : Type 0 where
  pub rows : (i j : ℕ) → j < i → i < u → slice_index table (i * length points + j) ≡ distance rule (point_at points i) (point_at points j)
  pub row : (j : ℕ) → j < v → slice_index table (u * length points + j) ≡ distance rule (point_at points u) (point_at points j)
