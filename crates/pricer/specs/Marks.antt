-- Marks on cities.
use Rattle.std.specs.Prelude.{◌≡◌, ℕ, Bool, false, List, slice_index_or}

-- the city is marked
abbrev pub is_marked : List Bool → ℕ → Bool
is_marked marks v = slice_index_or marks v false

-- a city that is not marked was not marked before either, and this is true of it
abbrev pub AreMarkedUnless : List Bool → List Bool → (ℕ → Type 0) → Type 0
AreMarkedUnless new old P = (v : ℕ) → is_marked new v ≡ false → (is_marked old v ≡ false) × P v
