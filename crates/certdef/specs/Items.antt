-- The lines of a proof text: what a line says, how it is spelled, and its bounds of form.
use Rattle.std.specs.Prelude.{ℕ, ◌+◌, ◌^◌, Bool, true, ◌&&◌, ◌||◌, ◌==◌, nat_lt, nat_le, if◌then◌else◌, List, [], ◌∷◌, length, map, get_or, drop, Option, Some, None, ℤ, nat_abs, codes, decimal}
use Rattle.std.specs.Fmt.{signed_decimal}
use Rattle.std.specs.List.{join_with_byte, slice_split}
use Rattle.std.specs.Str.{bytes_eq}
use Rattle.std.specs.Str.Parse.{digits_value, signed_digits_value}

-- What a line says, in its own numbers: cities, cuts and depths count from 1. A set of k cities begins with k, which is
-- not kept; a comb line tells how many teeth follow, a line of an odd cut how many pairs, a leaf line how many lines of each kind.
pub data Item : Type 0 where
  title_line : (version : ℕ) → Item
  size_line : (n : ℕ) → Item
  length_line : (l : ℕ) → Item
  bound_line : (b : ℕ) → Item
  tour_line : (cities : List ℕ) → Item
  cuts_line : (k : ℕ) → Item
  subtour_line : (set : List ℕ) → Item
  comb_line : (teeth : ℕ) → Item
  handle_line : (set : List ℕ) → Item
  tooth_line : (set : List ℕ) → Item
  odd_line : (pairs : ℕ) → Item
  pair_line : (u v : ℕ) → Item
  edge_line : (u v : ℕ) → Item
  clique_line : (set : List ℕ) → Item
  leaf_line : (a b c : ℕ) → Item
  city_line : (city : ℕ) → (dual : ℤ) → Item
  cut_line : (cut : ℕ) → (dual : ℕ) → Item
  condition_line : (depth : ℕ) → (dual : ℕ) → Item
  open_line : Item

-- a set is spelled by its size and its cities
abbrev pub set_words : List ℕ → List (List ℕ)
set_words s = decimal (length s) ∷ map decimal s

-- the words of a line
abbrev pub words : Item → List (List ℕ)
words (title_line v) = codes "TSPCERT" ∷ decimal v ∷ []
words (size_line n) = codes "N" ∷ decimal n ∷ []
words (length_line l) = codes "LENGTH" ∷ decimal l ∷ []
words (bound_line b) = codes "BOUND" ∷ decimal b ∷ []
words (tour_line cs) = codes "TOUR" ∷ map decimal cs
words (cuts_line k) = codes "CUTS" ∷ decimal k ∷ []
words (subtour_line s) = codes "S" ∷ set_words s
words (comb_line t) = codes "C" ∷ decimal t ∷ []
words (handle_line s) = codes "H" ∷ set_words s
words (tooth_line s) = codes "T" ∷ set_words s
words (odd_line t) = codes "B" ∷ decimal t ∷ []
words (pair_line u v) = codes "F" ∷ decimal u ∷ decimal v ∷ []
words (edge_line u v) = codes "E" ∷ decimal u ∷ decimal v ∷ []
words (clique_line s) = codes "K" ∷ set_words s
words (leaf_line a b c) = codes "L" ∷ decimal a ∷ decimal b ∷ decimal c ∷ []
words (city_line v x) = codes "P" ∷ decimal v ∷ signed_decimal x ∷ []
words (cut_line k y) = codes "Y" ∷ decimal k ∷ decimal y ∷ []
words (condition_line d z) = codes "Z" ∷ decimal d ∷ decimal z ∷ []
words open_line = codes "O" ∷ []

-- words are separated by one space
abbrev pub line : Item → List ℕ
line i = join_with_byte 32 (words i)

-- strictly rising, the first at least `from` and none above `most`
abbrev pub rises : ℕ → ℕ → List ℕ → Bool
rises from most [] = true
rises from most (c ∷ cs) = (nat_le from c && nat_le c most) && rises (c + 1) most cs

abbrev pub each_below : ℕ → List ℕ → Bool
each_below most [] = true
each_below most (c ∷ cs) = nat_lt c most && each_below most cs

-- the second pair comes behind the first: by its first city, then by its second
abbrev pub is_before : (ℕ × ℕ) → (ℕ × ℕ) → Bool
is_before p q = nat_lt p.0 q.0 || ((p.0 == q.0) && nat_lt p.1 q.1)

-- strictly rising pairs, behind p
abbrev pub pairs_rise_from : (ℕ × ℕ) → List (ℕ × ℕ) → Bool
pairs_rise_from p [] = true
pairs_rise_from p (q ∷ qs) = is_before p q && pairs_rise_from q qs

-- strictly rising pairs
abbrev pub pairs_rise : List (ℕ × ℕ) → Bool
pairs_rise [] = true
pairs_rise (p ∷ ps) = pairs_rise_from p ps

-- a set of some of the cities 1 to n
abbrev pub is_set : ℕ → List ℕ → Bool
is_set n s = nat_lt 0 (length s) && rises 1 n s

-- from 1 to 2^62
abbrev pub is_dual : ℕ → Bool
is_dual y = nat_lt 0 y && nat_le y (2 ^ 62)

-- the numbers are within the bounds of form, for n cities
abbrev pub in_bounds : ℕ → Item → Bool
in_bounds n (title_line v) = nat_lt 0 v && nat_le v 2
in_bounds n (size_line m) = nat_lt m (2 ^ 32)
in_bounds n (length_line l) = nat_le l (2 ^ 42)
in_bounds n (bound_line b) = nat_le b (2 ^ 42)
in_bounds n (tour_line cs) = (length cs == n) && each_below (10 ^ 10) cs
in_bounds n (cuts_line k) = nat_lt k (2 ^ 32)
in_bounds n (subtour_line s) = is_set n s
in_bounds n (comb_line t) = nat_le t 2000
in_bounds n (handle_line s) = is_set n s
in_bounds n (tooth_line s) = is_set n s
in_bounds n (odd_line t) = nat_lt 0 t && nat_le t 4095
in_bounds n (pair_line u v) = nat_lt 0 u && (nat_lt u v && nat_le v n)
in_bounds n (edge_line u v) = nat_lt 0 u && (nat_lt u v && nat_le v n)
in_bounds n (clique_line s) = is_set n s
in_bounds n (leaf_line a b c) = nat_le a n && (nat_le b 4096 && nat_le c 4096)
in_bounds n (city_line v x) = (nat_lt 0 v && nat_le v n) && is_dual (nat_abs x)
in_bounds n (cut_line k y) = (nat_lt 0 k && nat_lt k (2 ^ 32)) && is_dual y
in_bounds n (condition_line d z) = (nat_lt 0 d && nat_lt d (2 ^ 32)) && is_dual z
in_bounds n open_line = true

-- how many bytes a line has at most, its LF left out
abbrev pub longest : ℕ
longest = 16384

-- an item whose line is of the form: its numbers are within their bounds, and it is not too long
abbrev pub fits : ℕ → Item → Bool
fits n i = in_bounds n i && nat_le (length (line i)) longest

-- ---- from a line to its item: read leniently, and spelled again

abbrev pub value : List ℕ → ℕ
value w = digits_value 10 w

abbrev pub values : List (List ℕ) → List ℕ
values ws = map value ws

-- the only item whose words these could be: the first word, and those behind it
unfoldable pub only_item : List ℕ → List (List ℕ) → Item
only_item w ws =
    let set = values (drop 1 ws) in
    let a = value (get_or ws 0 []) in
    let b = value (get_or ws 1 []) in
    if bytes_eq w (codes "TSPCERT") then title_line a else
    if bytes_eq w (codes "N") then size_line a else
    if bytes_eq w (codes "LENGTH") then length_line a else
    if bytes_eq w (codes "BOUND") then bound_line a else
    if bytes_eq w (codes "TOUR") then tour_line (values ws) else
    if bytes_eq w (codes "CUTS") then cuts_line a else
    if bytes_eq w (codes "S") then subtour_line set else
    if bytes_eq w (codes "C") then comb_line a else
    if bytes_eq w (codes "H") then handle_line set else
    if bytes_eq w (codes "T") then tooth_line set else
    if bytes_eq w (codes "B") then odd_line a else
    if bytes_eq w (codes "F") then pair_line a b else
    if bytes_eq w (codes "E") then edge_line a b else
    if bytes_eq w (codes "K") then clique_line set else
    if bytes_eq w (codes "L") then leaf_line a b (value (get_or ws 2 [])) else
    if bytes_eq w (codes "P") then city_line a (signed_digits_value 10 (get_or ws 1 [])) else
    if bytes_eq w (codes "Y") then cut_line a b else
    if bytes_eq w (codes "Z") then condition_line a b else
    open_line

-- the item whose line these bytes are, if they are a line of the form
unfoldable pub item_of : ℕ → List ℕ → Option Item
item_of n bytes =
    let ws = slice_split (λ b. b == 32) bytes in
    let i = only_item (get_or ws 0 []) (drop 1 ws) in
    if bytes_eq (line i) bytes && fits n i then Some i else None
