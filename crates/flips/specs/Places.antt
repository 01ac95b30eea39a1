-- Places in an array that is read round its end, in either direction.
use Rattle.std.specs.Prelude.{ℕ, ◌-◌, Bool, cond, nat_lt, List, ◌++◌, take, drop, reverse}

-- a place behind the end of n counts from the beginning again
abbrev pub wrap : ℕ → ℕ → ℕ
wrap n x = cond (nat_lt x n) x (x - n)

-- the list from its place i on, round to the place before it
abbrev pub turn : ℕ → List ℕ → List ℕ
turn i xs = drop i xs ++ take i xs

-- the list, or the other way round
abbrev pub read : Bool → List ℕ → List ℕ
read backward xs = cond backward (reverse xs) xs
