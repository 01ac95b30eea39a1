-- What duals of sets take off the cost of a pair, city by city: a set with exactly one of two cities is one that has the
-- first, or the second, less twice one that has both.
use Rattle.std.specs.Prelude.{◌≡◌, ℕ, ◌+◌, ◌*◌, ◌^◌, Bool, true, cond, List, [], ◌∷◌, length, Option, Some, None, ℤ, pos, ◌+ℤ◌, ◌-ℤ◌, neg_ℤ, slice_index_or}
use Rattle.std.specs.Int.{int_min}
use Rattle.tspdef.specs.Sets.{has}
use Rattle.tspdef.specs.Paths.{Condition, fixed, absent, present, two, four}
use Rattle.tspdef.specs.Closings.{Closing}
use Rattle.tspdef.specs.Sums.{sum_pairs}
use Rattle.pricer.specs.Sizes.{IsWithin}
use Rattle.tspdef.specs.Bounds.{Row, at_least, exactly, scale, cut_rows, condition_rows, city_dual, pair_term}

-- a set counts: always, or where it holds a city
abbrev pub is_counted : Option ℕ → List ℕ → Bool
is_counted None s = true
is_counted (Some v) s = has s v

-- how many of the sets that count have a city
abbrev pub holders : Option ℕ → List (List ℕ) → ℕ → ℕ
holders holder [] c = 0
holders holder (s ∷ ss) c = cond (is_counted holder s) (cond (has s c) 1 0) 0 + holders holder ss c

-- the duals of rows at a city, once for each of their sets that counts and has it; those of exact rows are negative
abbrev pub held : Option ℕ → List Row → ℕ → ℤ
held holder [] c = pos 0
held holder (at_least ss r y ∷ rows) c = held holder rows c +ℤ pos (y * holders holder ss c)
held holder (exactly ss r y ∷ rows) c = held holder rows c -ℤ pos (y * holders holder ss c)

-- a number at a city of a set that counts
abbrev pub laid_one : ℤ → Option ℕ → List ℕ → ℕ → ℤ
laid_one y holder s c = cond (is_counted holder s) (cond (has s c) y (pos 0)) (pos 0)

-- a number at a city, once for each of the sets that counts and has it
abbrev pub laid : ℤ → Option ℕ → List (List ℕ) → ℕ → ℤ
laid y holder [] c = pos 0
laid y holder (s ∷ ss) c = laid_one y holder s c +ℤ laid y holder ss c

-- the price of a city: its dual, and those of the sets that have it
abbrev pub price_of : List Condition → Closing → ℕ → ℤ
price_of path closing c = city_dual closing c +ℤ held None (cut_rows closing.cuts) c +ℤ held None (condition_rows path closing.conds) c

-- the duals of the sets that have two cities
abbrev pub shared_by : List Condition → Closing → ℕ → ℕ → ℤ
shared_by path closing v u = held (Some v) (cut_rows closing.cuts) u +ℤ held (Some v) (condition_rows path closing.conds) u

-- what a condition on a pair that was undecided changes in the sum over all pairs, by the pair's reduced cost
abbrev pub change_of : (ℕ → ℕ → ℤ) → Condition → ℤ
change_of r (fixed u v) = r u v -ℤ int_min (pos 0) (r u v)
change_of r (absent u v) = neg_ℤ (int_min (pos 0) (r u v))
change_of r (present u v) = r u v -ℤ int_min (pos 0) (r u v)
change_of r (two s) = pos 0
change_of r (four s) = pos 0

-- the number at a place, 0 past the end
abbrev pub at : List ℤ → ℕ → ℤ
at xs c = slice_index_or xs c (pos 0)

-- the same numbers, each of size 2^50 at most
pub record AreSmall (numbers small : List ℤ) : Type 0 where
  pub long : length small ≡ length numbers
  pub same : (c : ℕ) → at small c ≡ at numbers c
  pub size : (c : ℕ) → IsWithin (2 ^ 50) (at small c)

-- a pair's distance, in units, less the numbers at its cities, and twice a number of its own
abbrev pub cost_of : ℕ → ℤ → ℤ → ℤ → ℤ
cost_of d a b own = pos (scale * d) -ℤ a -ℤ b +ℤ own +ℤ own

-- the sum over all pairs of what they add to the bound
abbrev pub terms : ℕ → (ℕ → ℕ → ℤ) → List Condition → ℤ
terms n r path = sum_pairs (pair_term path r) n
