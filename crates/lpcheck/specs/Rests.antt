-- Duals that no change of one of them by a power of two improves much.
use Rattle.std.specs.Prelude.{◌⊎◌, ◌≡◌, ℕ, ◌^◌, ◌<◌, ◌≤◌, length, List, ℤ, pos, neg_ℤ, ◌+ℤ◌, ◌-ℤ◌, ◌≤ℤ◌, ◌<ℤ◌, slice_index_or, slice_set}
use Rattle.lpcheck.specs.Rows.{lower_side}
use Rattle.lpcheck.specs.declared.row.Sense.{Sense}
use Rattle.lpcheck.specs.declared.row.Sense.TheVariants.{Eq, AtLeast, AtMost}
use Rattle.lpcheck.specs.declared.row.Row.{Row}
use Rattle.lpcheck.specs.declared.column.Column.{Column}

abbrev pub least_dual : Sense → ℤ
least_dual Eq = neg_ℤ (pos (2 ^ 62))
least_dual AtLeast = pos 0
least_dual AtMost = pos 0

-- of size at most 2^62, and negative only at Eq
pub record IsDual (sense : Sense) (y : ℤ) : Type 0 where
  pub low : least_dual sense ≤ℤ y
  pub high : y ≤ℤ pos (2 ^ 62)

-- one dual a row
pub record AreDuals (rows : List Row) (ys : List ℤ) : Type 0 where
  pub all : length ys ≡ length rows
  pub each : (i : ℕ) (none : Row) → i < length rows → IsDual (slice_index_or rows i none).sense (slice_index_or ys i (pos 0))

-- from y by 2^k, up or down
abbrev pub IsStep : ℤ → ℕ → ℤ → Type 0
IsStep y k z = (z ≡ y +ℤ pos (2 ^ k)) ⊎ (z ≡ y -ℤ pos (2 ^ k))

-- no step of row i's dual, by a power of two from 2^10 to 2^61 and to a dual, raises the lower side by 2^10 or more
abbrev pub RowRests : List Row → List Column → List ℤ → ℕ → Row → Type 0
RowRests rows cols ys i row = (k : ℕ) (z : ℤ) → 10 ≤ k → k ≤ 61 → IsStep (slice_index_or ys i (pos 0)) k z → IsDual row.sense z
    → lower_side rows cols (slice_set ys i z) <ℤ (lower_side rows cols ys +ℤ pos (2 ^ 10))

abbrev pub AreAtRest : List Row → List Column → List ℤ → Type 0
AreAtRest rows cols ys = (i : ℕ) (none : Row) → i < length rows → RowRests rows cols ys i (slice_index_or rows i none)
