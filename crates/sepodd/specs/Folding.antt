-- Values folded at a half: for each pair the cheaper of crossing it and of having it among the pairs of an odd cut.
use Rattle.std.specs.Prelude.{ℕ, ◌+◌, ◌-◌, min, Bool, false, cond, not, nat_lt, ◌&&◌, List, [], ◌∷◌, map}
use Rattle.tspdef.specs.Tours.{crosses}
use Rattle.cyc.specs.declared.frac.Entry.{Entry}
use Rattle.cyc.specs.Frac.{value_of}
use Rattle.maxflow.specs.Crossings.{crossing}

-- one length
abbrev pub one : ℕ
one = 1048576

-- what a pair costs at least, whether it is among the pairs of the cut or not
abbrev pub folded : ℕ → ℕ
folded x = min x (one - x)

abbrev pub folded_entry : Entry → Entry
folded_entry e = record { u = e.u; v = e.v; x = folded e.x }

abbrev pub folded_entries : List Entry → List Entry
folded_entries es = map folded_entry es

-- a pair is cheaper among the pairs of the cut: above a half
abbrev pub is_over : ℕ → Bool
is_over x = nat_lt 524288 x

-- what it costs more to choose otherwise
abbrev pub turning : ℕ → ℕ
turning x = cond (is_over x) (x - (one - x)) (one - x - x)

-- exactly one of two holds
abbrev pub differ : Bool → Bool → Bool
differ a b = cond a (not b) b

-- the entry is above a half and crosses the set
abbrev pub crosses_over : (ℕ → Bool) → Entry → Bool
crosses_over p e = is_over e.x && crosses p (e.u, e.v)

-- the entries above a half that cross the set are odd in number
abbrev pub is_odd : List Entry → (ℕ → Bool) → Bool
is_odd [] p = false
is_odd (e ∷ es) p = differ (crosses_over p e) (is_odd es p)

-- what crosses a set, folded
abbrev pub folded_crossing : List Entry → (ℕ → Bool) → ℕ
folded_crossing es p = crossing (folded_entries es) p

-- a group's number, once the groups of a kind are put into one
abbrev pub joined : (ℕ → Bool) → ℕ → ℕ → ℕ
joined kind to g = cond (kind g) to g

-- the sum of the values of some pairs
abbrev pub value_of_pairs : List Entry → List (ℕ × ℕ) → ℕ
value_of_pairs es [] = 0
value_of_pairs es (p ∷ ps) = value_of es p.0 p.1 + value_of_pairs es ps
