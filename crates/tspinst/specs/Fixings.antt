-- Fixed pairs, one after the other: which pair may join those before it.
use Rattle.std.specs.Prelude.{◌≡◌, ◌↔◌, ℕ, zero, suc, ◌+◌, ◌<◌, ◌≤◌, ◌⊎◌, min, max, Bool, true, false, not, cond, nat_lt, ◌==◌, ◌&&◌, ◌||◌, if◌then◌else◌, List, [], ◌∷◌, length, Option, Some, None, Result, Ok, Err, IsTrue, slice_index_or}
use Rattle.std.specs.List.{AllByRecursion}
use Rattle.tspdef.specs.Tours.{has_step}
use Rattle.tspdef.specs.Fixed.{pairs_at, NoneLeaves, AreRisingPairs}
use Rattle.tspinst.specs.declared.refusals.PairFault.{PairFault}
use Rattle.tspinst.specs.declared.refusals.PairFault.TheVariants.{Loop, Third, Cycle, NoCity}

-- ---- pairs

-- two cities as a pair, the lower one first
abbrev pub pair_of : ℕ → ℕ → ℕ × ℕ
pair_of u v = (min u v, max u v)

abbrev pub is_pair_before : ℕ × ℕ → ℕ × ℕ → Bool
is_pair_before p q = nat_lt p.0 q.0 || ((p.0 == q.0) && nat_lt p.1 q.1)

-- a pair at its place among rising ones
unfoldable pub with_pair : ℕ × ℕ → List (ℕ × ℕ) → List (ℕ × ℕ)
with_pair p [] = p ∷ []
with_pair p (q ∷ qs) = (if is_pair_before p q then p ∷ q ∷ qs else q ∷ with_pair p qs)

-- ---- what pairs join

-- Each city is a part by itself, and a pair makes the parts of its cities one. A part is named after one of its cities.
unfoldable pub part_of : List (ℕ × ℕ) → ℕ → ℕ
part_of [] c = c
part_of (p ∷ ps) c = (if part_of ps c == part_of ps p.0 then part_of ps p.1 else part_of ps c)

-- pairs join the two cities, directly or through others
abbrev pub are_joined : List (ℕ × ℕ) → ℕ → ℕ → Bool
are_joined pairs u v = part_of pairs u == part_of pairs v

-- pairs do not join u to each of the first n cities
unfoldable pub leaves_out : List (ℕ × ℕ) → ℕ → ℕ → Bool
leaves_out pairs u zero = false
leaves_out pairs u (suc m) = not (are_joined pairs u m) || leaves_out pairs u m

-- the same in plain words: each set that no pair leaves has both cities or none
abbrev pub AreJoined : List (ℕ × ℕ) → ℕ → ℕ → Type 0
AreJoined pairs u v = (s : ℕ → Bool) → NoneLeaves pairs s → s u ≡ s v

-- Which cities pairs join, and whether they leave out a city, is told as it is.
pub record CyclesAreTold : Type 0 where
  pub joined : (pairs : List (ℕ × ℕ)) (u v : ℕ) → IsTrue (are_joined pairs u v) ↔ AreJoined pairs u v
  pub left_out : (pairs : List (ℕ × ℕ)) (u n : ℕ) → IsTrue (leaves_out pairs u n) ↔ ((c : ℕ) × (c < n) × ¬ AreJoined pairs u c)

-- ---- one pair more

-- The pairs with that of u and v among them, unless the two are one city, or one of them has two pairs, or the pair closes a cycle
-- that leaves out one of the n cities. A pair that is there counts once.
unfoldable pub fixed_with : ℕ → List (ℕ × ℕ) → ℕ → ℕ → Result (List (ℕ × ℕ)) PairFault
fixed_with n pairs u v =
    (if u == v then Err Loop else
    (if has_step pairs u v then Ok pairs else
    (if nat_lt 1 (pairs_at pairs u) || nat_lt 1 (pairs_at pairs v) then Err Third else
    (if are_joined pairs u v && leaves_out pairs u n then Err Cycle else Ok (with_pair (pair_of u v) pairs)))))

-- the same of any two numbers
abbrev pub fixed_if : ℕ → List (ℕ × ℕ) → ℕ × ℕ → Result (List (ℕ × ℕ)) PairFault
fixed_if n pairs p = (if nat_lt p.0 n && nat_lt p.1 n then fixed_with n pairs p.0 p.1 else Err NoCity)

-- what comes after the pair at a place, if it may be fixed
abbrev pub placed : ℕ → Result (List (ℕ × ℕ)) PairFault → (List (ℕ × ℕ) → Result (List (ℕ × ℕ)) (ℕ × PairFault)) → Result (List (ℕ × ℕ)) (ℕ × PairFault)
placed k (Ok pairs) onward = onward pairs
placed k (Err fault) onward = Err (k, fault)

-- some pairs, one after the other, or the place of the first that may not be fixed beside those before it, and why; places count
-- from k
unfoldable pub all_fixed : ℕ → List (ℕ × ℕ) → ℕ → List (ℕ × ℕ) → Result (List (ℕ × ℕ)) (ℕ × PairFault)
all_fixed n pairs k [] = Ok pairs
all_fixed n pairs k (p ∷ ps) = placed k (fixed_if n pairs p) (λ more. all_fixed n more (k + 1) ps)

-- ---- what is kept while pairs come together

-- the two partners of a city; n in place of one that it does not have
abbrev pub partners_at : ℕ → List (ℕ × ℕ) → ℕ → ℕ × ℕ
partners_at n partners c = slice_index_or partners c (n, n)

abbrev pub is_partner : ℕ × ℕ → ℕ → Bool
is_partner p c = (p.0 == c) || (p.1 == c)

-- the list tells of each city whether it has a pair with another
abbrev pub TellPartners : ℕ → List (ℕ × ℕ) → List (ℕ × ℕ) → Type 0
TellPartners n pairs partners = (u v : ℕ) → v < n → has_step pairs u v ≡ is_partner (partners_at n partners u) v

-- one partner more, in the first place that is free
abbrev pub with_partner : ℕ → ℕ × ℕ → ℕ → ℕ × ℕ
with_partner n p c = (if p.0 == n then (c, p.1) else (p.0, c))

abbrev pub partners_of : ℕ → ℕ × ℕ → ℕ
partners_of n p = cond (p.0 == n) 0 1 + cond (p.1 == n) 0 1

-- The list tells each city's partners, all of them.
pub record ArePartners (n : ℕ) (pairs partners : List (ℕ × ℕ)) : Type 0 where
  pub all : length partners ≡ n
  pub tell : TellPartners n pairs partners
  pub count : (u : ℕ) → u < n → pairs_at pairs u ≡ partners_of n (partners_at n partners u)

-- the name of a city's part
abbrev pub name_at : List ℕ → ℕ → ℕ
name_at names c = slice_index_or names c 0

-- a part's name, where one part gets the name of another
abbrev pub renamed : ℕ → ℕ → ℕ → ℕ
renamed from to name = (if name == from then to else name)

-- The list names the part of each city, after one of the part's cities.
pub record ArePartNames (n : ℕ) (pairs : List (ℕ × ℕ)) (names : List ℕ) : Type 0 where
  pub all : length names ≡ n
  pub below : (c : ℕ) → c < n → name_at names c < n
  pub own : (c : ℕ) → c < n → name_at names (name_at names c) ≡ name_at names c
  pub joined : AllByRecursion (λ p. name_at names p.0 ≡ name_at names p.1) pairs
  pub apart : (s : ℕ → Bool) → NoneLeaves pairs s → (c : ℕ) → c < n → s (name_at names c) ≡ s c

-- the sum over the first m cities
abbrev pub sum_to : ℕ → (ℕ → ℕ) → ℕ
sum_to zero f = 0
sum_to (suc m) f = f m + sum_to m f

-- how many pairs have their first city in the set
abbrev pub pairs_in : (ℕ → Bool) → List (ℕ × ℕ) → ℕ
pairs_in s [] = 0
pairs_in s (p ∷ ps) = cond (s p.0) 1 0 + pairs_in s ps

-- no cycle: a set that no pair leaves has as many cities as pairs and parts
abbrev pub IsForest : ℕ → List (ℕ × ℕ) → List ℕ → Type 0
IsForest n pairs names = (s : ℕ → Bool) → NoneLeaves pairs s
    → sum_to n (λ c. cond (s c) 1 0) ≡ pairs_in s pairs + sum_to n (λ c. cond (s c && (name_at names c == c)) 1 0)

-- all cities are one part
abbrev pub IsOnePart : ℕ → List ℕ → Type 0
IsOnePart n names = (c d : ℕ) → c < n → d < n → name_at names c ≡ name_at names d

-- the pairs of n cities that came together, rising
pub record Collected : Type 0 where
  pub n : ℕ
  pub pairs : List (ℕ × ℕ)

-- Pairs that may be fixed, and what is kept of them.
pub record AreCollected (n : ℕ) (pairs partners : List (ℕ × ℕ)) (names : List ℕ) : Type 0 where
  pub below : AllByRecursion (λ p. (p.0 < p.1) × (p.1 < n)) pairs
  pub rising : AreRisingPairs pairs
  pub few : (c : ℕ) → pairs_at pairs c ≤ 2
  pub partnered : ArePartners n pairs partners
  pub named : ArePartNames n pairs names
  pub open_ended : IsForest n pairs names ⊎ IsOnePart n names

-- what one pair more gave: the pairs with it, or why it may not be fixed
abbrev pub IsJudged : Option PairFault → List (ℕ × ℕ) → Result (List (ℕ × ℕ)) PairFault → Type 0
IsJudged None pairs judged = judged ≡ Ok pairs
IsJudged (Some fault) pairs judged = judged ≡ Err fault
