-- Marks on cities, 64 to a number.
use Rattle.std.specs.Prelude.{◌≡◌, ℕ, ◌/◌, ◌%◌, Bool, ◌==◌, List, slice_index}
use Rattle.std.specs.Int.{bit_at}
use Rattle.tspdef.specs.Sets.{has}

-- a city is marked where its bit is 1
abbrev pub is_marked : List ℕ → ℕ → Bool
is_marked marks city = bit_at (slice_index marks (city / 64)) (city % 64) == 1

-- the marked cities are these
abbrev pub AreMarksOf : List ℕ → List ℕ → Type 0
AreMarksOf cities marks = (city : ℕ) → is_marked marks city ≡ has cities city
