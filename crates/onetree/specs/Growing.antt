-- A spanning tree that grows: what is inside, and the nearest inside city of each city (Prim 1957).
use Rattle.std.specs.Prelude.{◌≡◌, ℕ, ◌+◌, ◌<◌, ◌≤◌, Bool, true, false, cond, ◌==◌, ◌||◌, List, [], ◌∷◌, length, ℤ, pos, neg_ℤ, ◌+ℤ◌, ◌≤ℤ◌, slice_index, slice_index_or, Option, Some, None}
use Rattle.std.specs.List.{AllByRecursion}
use Rattle.tspdef.specs.Tours.{crossings}
use Rattle.onetree.specs.OneTrees.{Connects, weight}

-- of size m at most
pub record IsWithin (m : ℕ) (x : ℤ) : Type 0 where
  pub low : neg_ℤ (pos m) ≤ℤ x
  pub high : x ≤ℤ pos m

-- both cities of each pair are below n
abbrev pub AreBelow : ℕ → List (ℕ × ℕ) → Type 0
AreBelow n es = AllByRecursion (λ e. (e.0 < n) × (e.1 < n)) es

-- two different cities from 1 to n - 1
pub record IsInner (n : ℕ) (e : ℕ × ℕ) : Type 0 where
  pub first : 0 < e.0
  pub first_in : e.0 < n
  pub second : 0 < e.1
  pub second_in : e.1 < n
  pub apart : e.0 ≡ e.1 → ⊥

-- a spanning tree of the cities from 1 to n - 1
pub record IsSpan (n : ℕ) (es : List (ℕ × ℕ)) : Type 0 where
  pub within : AllByRecursion (IsInner n) es
  pub all : length es + 2 ≡ n
  pub spans : Connects n es

-- no spanning tree is lighter
abbrev pub IsLightestSpan : ℕ → (ℕ → ℕ → ℤ) → List (ℕ × ℕ) → Type 0
IsLightestSpan n cost es = IsSpan n es × ((span : List (ℕ × ℕ)) → IsSpan n span → weight cost es ≤ℤ weight cost span)

-- the set with one more city
abbrev pub with_city : (ℕ → Bool) → ℕ → ℕ → Bool
with_city s c k = (c == k) || s k

-- the cities that are marked
abbrev pub marked : List Bool → ℕ → Bool
marked xs k = slice_index_or xs k false

-- how many places are not marked
abbrev pub unmarked : List Bool → ℕ
unmarked [] = 0
unmarked (x ∷ xs) = cond x 0 1 + unmarked xs

-- City a of the set is nearest to v, at this cost.
pub record IsNearest (n : ℕ) (cost : ℕ → ℕ → ℤ) (s : ℕ → Bool) (v a : ℕ) (w : ℤ) : Type 0 where
  pub some : 0 < a
  pub below : a < n
  pub inside : s a ≡ true
  pub same : w ≡ cost a v
  pub least : (u : ℕ) → 0 < u → u < n → s u ≡ true → w ≤ℤ cost u v

-- for each city from 1 to n - 1 the nearest city of the set, and its cost
abbrev pub AreNearest : ℕ → (ℕ → ℕ → ℤ) → (ℕ → Bool) → List ℕ → List ℤ → Type 0
AreNearest n cost s near least = (v : ℕ) → 0 < v → v < n → IsNearest n cost s v (slice_index near v) (slice_index_or least v (pos 0))

-- the pairs connect the cities from 1 to n - 1, where those of the set count as one
abbrev pub ConnectsFrom : ℕ → (ℕ → Bool) → List (ℕ × ℕ) → Type 0
ConnectsFrom n s es = (q : ℕ → Bool) → crossings q es ≡ 0 → ((x y : ℕ) → 0 < x → x < n → 0 < y → y < n → s x ≡ true → s y ≡ true → q x ≡ q y)
    → (u v : ℕ) → 0 < u → u < n → 0 < v → v < n → q u ≡ q v

-- what a tree leaves to do: pairs that complete it, at no more than the weight w in all
pub record IsRest (n : ℕ) (cost : ℕ → ℕ → ℤ) (s : ℕ → Bool) (m : ℕ) (tree : List (ℕ × ℕ)) (w : ℤ) (rest : List (ℕ × ℕ)) : Type 0 where
  pub within : AllByRecursion (IsInner n) rest
  pub all : length rest ≡ m
  pub connects : ConnectsFrom n s rest
  pub light : (weight cost tree +ℤ weight cost rest) ≤ℤ w

-- A tree with m cities still outside: it connects its set, and each spanning tree has as many pairs that would complete it at no
-- more than the spanning tree's weight.
pub record IsGrowing (n : ℕ) (cost : ℕ → ℕ → ℤ) (s : ℕ → Bool) (m : ℕ) (tree : List (ℕ × ℕ)) : Type 0 where
  pub within : AllByRecursion (IsInner n) tree
  pub all : length tree + m + 2 ≡ n
  pub root : s 1 ≡ true
  pub joined : (q : ℕ → Bool) → crossings q tree ≡ 0 → (u v : ℕ) → 0 < u → u < n → 0 < v → v < n → s u ≡ true → s v ≡ true → q u ≡ q v
  pub lightest : (span : List (ℕ × ℕ)) → IsSpan n span → (rest : List (ℕ × ℕ)) × IsRest n cost s m tree (weight cost span) rest

-- Where the tree stands: its set is marked, with city 0, and each city's nearest city of the set is known.
pub record IsFront (n : ℕ) (cost : ℕ → ℕ → ℤ) (inside : List Bool) (near : List ℕ) (least : List ℤ) : Type 0 where
  pub many : 3 ≤ n
  pub few : n ≤ 2000
  pub marks : length inside ≡ n
  pub cities : length near ≡ n
  pub costs : length least ≡ n
  pub home : marked inside 0 ≡ true
  pub root : marked inside 1 ≡ true
  pub nearest : AreNearest n cost (marked inside) near least

-- Of the places below v that are not marked, this one has the least cost; none where there is no such place.
abbrev pub IsLeastOut : List Bool → List ℤ → ℕ → Option ℕ → Type 0
IsLeastOut inside least v None = (k : ℕ) → k < v → marked inside k ≡ true
IsLeastOut inside least v (Some c) = (c < v) × (marked inside c ≡ false)
    × ((k : ℕ) → k < v → marked inside k ≡ false → slice_index_or least c (pos 0) ≤ℤ slice_index_or least k (pos 0))

-- Of the cities from 1 to v - 1, without one of them, none is nearer to city 0.
pub record IsNearHome (n : ℕ) (cost : ℕ → ℕ → ℤ) (but v best : ℕ) : Type 0 where
  pub some : 0 < best
  pub below : best < n
  pub other : best ≡ but → ⊥
  pub least : (k : ℕ) → 0 < k → k < v → (k ≡ but → ⊥) → cost 0 best ≤ℤ cost 0 k
