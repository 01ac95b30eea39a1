-- The fields of a set of cities: the list and, of more than four cities, a mark on each city of it.
use Rattle.std.specs.Prelude.{◌<◌, ◌≤◌, length}
use Rattle.tspdef.specs.Sets.{IsSet}
use Rattle.cyc.specs.Marks.{AreMarksOf}
use Rattle.cyc.specs.CitySet.{Members}
use Rattle.cyc.specs.declared.city_set.CitySet.TheInside.{Inside}

-- what the fields list
abbrev pub members_of : Inside → Members
members_of s = record { n = s.n; cities = s.cities.items }

-- a set of 3 to 2,000 cities; of more than four, exactly its cities are marked
pub record IsMarked (s : Inside) : Type 0 where
  pub many : 3 ≤ s.n
  pub few : s.n ≤ 2000
  pub set : IsSet s.n s.cities.items
  pub marks : 4 < length s.cities.items → AreMarksOf s.cities.items s.members
