-- Sections: a fixed number of words, or words up to -1, wherever lines end.
use Rattle.std.specs.Prelude.{◌≡◌, ℕ, zero, suc, ◌+◌, ◌-◌, ◌*◌, ◌^◌, ◌&&◌, ◌==◌, Bool, true, false, nat_lt, nat_le, if◌then◌else◌, List, [], ◌∷◌, length, map, flat_map, replicate, ℤ, pos, negsuc, Option, Some, None, is_none, unwrap_or, Result, Ok, Err, slice_index_or, slice_set}
use Rattle.std.specs.List.{range_with_len}
use Rattle.tspdef.specs.Distances.{Rule}
use Rattle.tsplex.specs.Number.{whole_of}
use Rattle.tsplex.specs.declared.number.NumberFault.{NumberFault}
use Rattle.tsplex.specs.declared.number.NumberFault.TheVariants.{NotANumber, Fractional, OutOfRange}
use Rattle.tspinst.specs.declared.refusals.PairFault.{PairFault}
use Rattle.tspinst.specs.declared.refusals.Refusal.{Refusal}
use Rattle.tspinst.specs.declared.refusals.Refusal.TheVariants as refusals
use Rattle.tspinst.specs.declared.keywords.Format.{Format}
use Rattle.tspinst.specs.declared.keywords.Format.TheVariants.{Function, Full, Upper, Lower, UpperDiagonal, LowerDiagonal}
use Rattle.tspinst.specs.Headers.{Token}
use Rattle.tspinst.specs.Tables.{Point, put, distances}
use Rattle.tspinst.specs.Fixings.{fixed_with}

-- Each reading below answers what it read and the words behind that, or the first refusal.

-- one reading, then another
infixl 10 ◌>>=◌
abbrev pub ◌>>=◌ : {A B : Type 0} → Result A Refusal → (A → Result B Refusal) → Result B Refusal
(Ok x) >>= f = f x
(Err e) >>= f = Err e

-- the next word
abbrev pub next : List Token → Result (Token × List Token) Refusal
next [] = Err refusals.Truncated
next (t ∷ ts) = Ok (t, ts)

-- passes over words unread
unfoldable pub passed : ℕ → List Token → Result (List Token) Refusal
passed zero ts = Ok ts
passed (suc m) [] = Err refusals.Truncated
passed (suc m) (t ∷ ts) = passed m ts

-- ---- weights

-- the columns that row i lists, of n
abbrev pub columns : Format → ℕ → ℕ → List ℕ
columns Function n i = []
columns Full n i = range_with_len 0 n
columns Upper n i = range_with_len (i + 1) (n - (i + 1))
columns Lower n i = range_with_len 0 i
columns UpperDiagonal n i = range_with_len i (n - i)
columns LowerDiagonal n i = range_with_len 0 (i + 1)

-- the entries that row i lists, each a row and a column
abbrev pub row : Format → ℕ → ℕ → List (ℕ × ℕ)
row format n i = map (λ j. (i, j)) (columns format n i)

-- the entries that a format lists, row by row
unfoldable pub entries : Format → ℕ → List (ℕ × ℕ)
entries format n = flat_map (row format n) (range_with_len 0 n)

-- a weight is a whole number of 0 to 2^30 - 1
abbrev pub weight_if : ℕ → Result ℤ NumberFault → Result ℕ Refusal
weight_if line (Ok (pos w)) = Ok w
weight_if line (Ok (negsuc w)) = Err (refusals.BadNumber line OutOfRange)
weight_if line (Err fault) = Err (refusals.BadNumber line fault)

abbrev pub weight : Token → Result ℕ Refusal
weight t = weight_if t.0 (whole_of t.1 (2 ^ 30 - 1))

abbrev pub is_full : Format → Bool
is_full Full = true
is_full Function = false
is_full Upper = false
is_full Lower = false
is_full UpperDiagonal = false
is_full LowerDiagonal = false

-- the weight of i and j goes into the table; below the diagonal a full matrix lists a pair again, which has to agree
abbrev pub with_weight : Format → ℕ → List ℕ → ℕ → ℕ → ℕ → ℕ → Result (List ℕ) Refusal
with_weight format n table i j line w = (if is_full format && nat_lt j i then (if slice_index_or table (j * n + i) 0 == w then Ok table else Err (refusals.Asymmetric line (j + 1) (i + 1))) else Ok (put n table i j w))

-- the entry of row i and column j; on the diagonal it is passed over unread
abbrev pub with_entry : Format → ℕ → List ℕ → ℕ → ℕ → Token → Result (List ℕ) Refusal
with_entry format n table i j t = (if i == j then Ok table else (weight t >>= λ w. with_weight format n table i j t.0 w))

unfoldable pub entry_read : Format → ℕ → ℕ × ℕ → List ℕ → List Token → Result (List ℕ × List Token) Refusal
entry_read format n place table ts = (next ts >>= λ t. (with_entry format n table place.0 place.1 t.0 >>= λ x. Ok (x, t.1)))

-- some entries, in their order
unfoldable pub entries_read : Format → ℕ → List (ℕ × ℕ) → List ℕ → List Token → Result (List ℕ × List Token) Refusal
entries_read format n [] table ts = Ok (table, ts)
entries_read format n (place ∷ places) table ts = (entry_read format n place table ts >>= λ x. entries_read format n places x.0 x.1)

-- a section of weights gives a table
unfoldable pub weights_read : Format → ℕ → List Token → Result (List ℕ × List Token) Refusal
weights_read format n ts = entries_read format n (entries format n) (replicate (n * n) 0) ts

-- ---- points

-- a coordinate is a whole number of size at most 2^24
abbrev pub coordinate_if : ℕ → Result ℤ NumberFault → Result ℤ Refusal
coordinate_if line (Ok x) = Ok x
coordinate_if line (Err fault) = Err (refusals.BadNumber line fault)

unfoldable pub coordinate_read : List Token → Result (ℤ × List Token) Refusal
coordinate_read ts = (next ts >>= λ t. (coordinate_if t.0.0 (whole_of t.0.1 (2 ^ 24)) >>= λ x. Ok (x, t.1)))

-- a node of 1 to n that has no point yet, by its place, which counts from 0
abbrev pub node_if : ℕ → ℕ → List (Option Point) → Result ℤ NumberFault → Result ℕ Refusal
node_if line n points (Ok (pos v)) = (if nat_lt 0 v && is_none (slice_index_or points (v - 1) None) then Ok (v - 1) else Err (refusals.BadNode line))
node_if line n points (Ok (negsuc v)) = Err (refusals.BadNode line)
node_if line n points (Err OutOfRange) = Err (refusals.BadNode line)
node_if line n points (Err NotANumber) = Err (refusals.BadNumber line NotANumber)
node_if line n points (Err Fractional) = Err (refusals.BadNumber line Fractional)

unfoldable pub node_read : ℕ → List (Option Point) → List Token → Result (ℕ × List Token) Refusal
node_read n points ts = (next ts >>= λ t. (node_if t.0.0 n points (whole_of t.0.1 n) >>= λ v. Ok (v, t.1)))

-- a node's number and its point
unfoldable pub point_read : ℕ → List (Option Point) → List Token → Result (List (Option Point) × List Token) Refusal
point_read n points ts = (node_read n points ts >>= λ v. (coordinate_read v.1 >>= λ x. (coordinate_read x.1 >>= λ y. Ok (slice_set points v.0 (Some (x.0, y.0)), y.1))))

-- m nodes more, in any order
unfoldable pub points_from : ℕ → ℕ → List (Option Point) → List Token → Result (List (Option Point) × List Token) Refusal
points_from n zero points ts = Ok (points, ts)
points_from n (suc m) points ts = (point_read n points ts >>= λ x. points_from n m x.0 x.1)

-- the points of n nodes; none is left without one once n nodes were read
abbrev pub all_points : List (Option Point) → List Point
all_points points = map (λ p. unwrap_or p (pos 0, pos 0)) points

-- a section of coordinates gives the table of their distances
unfoldable pub points_read : Rule → ℕ → List Token → Result (List ℕ × List Token) Refusal
points_read rule n ts = (points_from n n (replicate n None) ts >>= λ x. Ok (distances rule (all_points x.0), x.1))

-- ---- fixed edges

-- a section of fixed edges ends with -1 in the place of a first city
abbrev pub ends_edges : Result ℤ NumberFault → Bool
ends_edges (Ok (pos v)) = false
ends_edges (Ok (negsuc v)) = v == 0
ends_edges (Err fault) = false

-- a city of 1 to n, by its place, which counts from 0
abbrev pub city_if : ℕ → ℕ → Result ℤ NumberFault → Result ℕ Refusal
city_if line n (Ok (pos v)) = (if nat_lt 0 v && nat_le v n then Ok (v - 1) else Err (refusals.BadNode line))
city_if line n (Ok (negsuc v)) = Err (refusals.BadNode line)
city_if line n (Err OutOfRange) = Err (refusals.BadNode line)
city_if line n (Err NotANumber) = Err (refusals.BadNumber line NotANumber)
city_if line n (Err Fractional) = Err (refusals.BadNumber line Fractional)

-- the pairs with one more, which may be refused
abbrev pub edge_if : ℕ → Result (List (ℕ × ℕ)) PairFault → Result (List (ℕ × ℕ)) Refusal
edge_if line (Ok pairs) = Ok pairs
edge_if line (Err fault) = Err (refusals.FixedEdges line fault)

-- the second city of a pair, and the pairs with that one
unfoldable pub second_read : ℕ → List (ℕ × ℕ) → ℕ → List Token → Result (List (ℕ × ℕ) × List Token) Refusal
second_read n pairs u ts = (next ts >>= λ t. (city_if t.0.0 n (whole_of t.0.1 n) >>= λ v. (edge_if t.0.0 (fixed_with n pairs u v) >>= λ more. Ok (more, t.1))))

-- a pair, or the end of the section; and whether it was a pair
unfoldable pub edge_read : ℕ → List (ℕ × ℕ) → List Token → Result ((Bool × List (ℕ × ℕ)) × List Token) Refusal
edge_read n pairs ts = (next ts >>= λ t. (if ends_edges (whole_of t.0.1 n) then Ok ((false, pairs), t.1) else (city_if t.0.0 n (whole_of t.0.1 n) >>= λ u. (second_read n pairs u t.1 >>= λ x. Ok ((true, x.0), x.1)))))

-- m pairs more at most, up to the end of the section
unfoldable pub edges_from : ℕ → ℕ → List (ℕ × ℕ) → List Token → Result (List (ℕ × ℕ) × List Token) Refusal
edges_from n zero pairs ts = Err refusals.Truncated
edges_from n (suc m) pairs ts = (edge_read n pairs ts >>= λ x. (if x.0.0 then edges_from n m x.0.1 x.1 else Ok (x.0.1, x.1)))

-- a section of fixed edges gives the pairs, rising; it has no more pairs than words
unfoldable pub edges_read : ℕ → List Token → Result (List (ℕ × ℕ) × List Token) Refusal
edges_read n ts = edges_from n (length ts) [] ts

-- ---- what functions did

-- What a function returned and left behind is what reading gives.
abbrev pub Gives : {A B : Type 0} → Result B Refusal → A → Result A Refusal → Type 0
Gives {A} (Ok u) x read = ◌≡◌ {A = Result A Refusal} read (Ok x)
Gives {A} (Err e) x read = ◌≡◌ {A = Result A Refusal} read (Err e)

-- A function's answer, and the words that it left behind, are what reading gives.
abbrev pub Returns : {A : Type 0} → Result A Refusal → List Token → Result (A × List Token) Refusal → Type 0
Returns {A} (Ok x) ts read = ◌≡◌ {A = Result (A × List Token) Refusal} read (Ok (x, ts))
Returns {A} (Err e) ts read = ◌≡◌ {A = Result (A × List Token) Refusal} read (Err e)
