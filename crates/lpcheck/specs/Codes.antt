-- Which of some sets hold a city, as one number.
use Rattle.std.specs.Prelude.{ℕ, ◌+◌, ◌*◌, ◌<◌, ◌≡◌, cond, List, [], ◌∷◌, length, slice_index}
use Rattle.tspdef.specs.Sets.{has}
use Rattle.lpcheck.specs.Rows.{cities_of_each}
use Rattle.lpcheck.specs.declared.row.Row.{Row}

-- a number, and behind its binary digits one for each set: 1 where it holds the city
abbrev pub code : ℕ → List (List ℕ) → ℕ → ℕ
code a [] c = a
code a (s ∷ ss) c = code (2 * a + cond (has s c) 1 0) ss c

-- of the cities below some number, their codes by the sets of a row
abbrev pub AreCodes : Row → List ℕ → Type 0
AreCodes row codes = (c : ℕ) → c < length codes → slice_index codes c ≡ code 0 (cities_of_each row.sets.items) c
