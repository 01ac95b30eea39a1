-- Labels of cities: the same one where linked cities join them.
use Rattle.std.specs.Prelude.{◌≡◌, ℕ, zero, suc, ◌+◌, ◌<◌, ◌≤◌, min, max, false, cond, ◌==◌, List, length, slice_index}
use Rattle.tspdef.specs.Sets.{has, IsSet}
use Rattle.cyc.specs.declared.frac.Entry.{Entry}
use Rattle.cyc.specs.Frac.{Values, value_of}
use Rattle.fracgraph.specs.Components.{Joined}

-- A label for each city, a city of its own class and none before it: cities of one label are joined, and those that one of these entries links have one label.
pub record IsLabelling (x : Values) (low high : ℕ) (es : List Entry) (label_of : ℕ → ℕ) : Type 0 where
  pub least : (c : ℕ) → c < x.n → label_of c ≤ c
  pub root : (c : ℕ) → c < x.n → label_of (label_of c) ≡ label_of c
  pub joined : (u v : ℕ) → u < x.n → v < x.n → label_of u ≡ label_of v → Joined x low high u v
  pub linked : (u v : ℕ) → u < x.n → v < x.n → low < value_of es u v → value_of es u v < high → label_of u ≡ label_of v

-- the labels as a list
pub record AreLabels (x : Values) (low high : ℕ) (es : List Entry) (labels : List ℕ) : Type 0 where
  pub long : length labels ≡ x.n
  pub each : IsLabelling x low high es (slice_index labels)

-- no city's parent is above it
abbrev pub ParentsFall : List ℕ → Type 0
ParentsFall parents = (c : ℕ) → c < length parents → slice_index parents c ≤ c

-- the root above a city, after so many steps at most
abbrev pub root_within : ℕ → List ℕ → ℕ → ℕ
root_within zero parents city = city
root_within (suc steps) parents city = cond (slice_index parents city == city) city (root_within steps parents (slice_index parents city))

-- the root of a city's tree, where parents fall
abbrev pub root_of : List ℕ → ℕ → ℕ
root_of parents city = root_within city parents city

-- parents of cities whose roots are labels
pub record AreParents (x : Values) (low high : ℕ) (es : List Entry) (parents : List ℕ) : Type 0 where
  pub long : length parents ≡ x.n
  pub fall : ParentsFall parents
  pub each : IsLabelling x low high es (root_of parents)

-- a label, with one in place of another
abbrev pub relabelled : ℕ → ℕ → ℕ → ℕ
relabelled from to label = cond (label == from) to label

-- a label, with the lesser of two in place of the greater
abbrev pub merged : ℕ → ℕ → ℕ → ℕ
merged a b label = relabelled (max a b) (min a b) label

-- the least city of a label that is not below another, or n where there is none
pub record IsFirst (n : ℕ) (labels : List ℕ) (label from city : ℕ) : Type 0 where
  pub after : from ≤ city
  pub within : city ≤ n
  pub same : city < n → slice_index labels city ≡ label
  pub none : (c : ℕ) → from ≤ c → c < city → slice_index labels c ≡ label → ⊥

-- for each city the next one of its label, or n where it is the last
pub record AreNexts (n : ℕ) (labels nexts : List ℕ) : Type 0 where
  pub long : length nexts ≡ n
  pub each : (c : ℕ) → c < n → IsFirst n labels (slice_index labels c) (c + 1) (slice_index nexts c)

-- the cities below n with this label, and no others
pub record IsClass (n : ℕ) (labels : List ℕ) (label : ℕ) (cities : List ℕ) : Type 0 where
  pub set : IsSet n cities
  pub inside : (c : ℕ) → c < n → has cities c ≡ (slice_index labels c == label)
  pub outside : (c : ℕ) → n ≤ c → has cities c ≡ false
