-- Numbers that count from 1.
use Rattle.std.specs.Prelude.{ℕ, ◌≤◌, List}
use Rattle.std.specs.List.{AllByRecursion}

-- from 1 to n
abbrev pub IsFromOne : ℕ → ℕ → Type 0
IsFromOne n c = (1 ≤ c) × (c ≤ n)

-- each of the numbers is from 1 to n
abbrev pub AreFromOne : ℕ → List ℕ → Type 0
AreFromOne n cs = AllByRecursion (IsFromOne n) cs
