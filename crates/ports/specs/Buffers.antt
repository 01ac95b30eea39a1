-- What byte lists in memory hold.
use Rattle.std.specs.Prelude.{ℕ, List, drop, Option, Some, None, Bool, if◌then◌else◌}

-- what is left of a list from a place on
abbrev pub rest_from : ℕ → List ℕ → List ℕ
rest_from at bytes = drop at bytes

-- the path that is bound, if one is
abbrev pub path_if : Bool → List ℕ → Option (List ℕ)
path_if is_bound bytes = if is_bound then Some bytes else None
