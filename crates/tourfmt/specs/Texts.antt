-- The text of a tour, in the manner of a TSPLIB TOUR file.
use Rattle.std.specs.Prelude.{◌≡◌, ℕ, ◌+◌, List, [], ◌∷◌, ◌++◌, length, flat_map, decimal, codes}
use Rattle.tspdef.specs.Tours.{IsCanonicalForm}

-- a line of its own, closed by one LF
abbrev pub line : List ℕ → List ℕ
line text = text ++ 10 ∷ []

-- a city by its number from 1 on
abbrev pub city_line : ℕ → List ℕ
city_line city = line (decimal (city + 1))

-- the lines before the cities
abbrev pub head : ℕ → List ℕ
head n = line (codes "NAME : tour") ++ line (codes "TYPE : TOUR") ++ codes "DIMENSION : " ++ (decimal n ++ 10 ∷ line (codes "TOUR_SECTION"))

-- the text of a tour whose cities stand in this order
abbrev pub text_of : List ℕ → List ℕ
text_of cities = head (length cities) ++ flat_map city_line cities ++ line (codes "-1") ++ line (codes "EOF")

-- the text of a tour: that of its canonical form
pub record IsTourText (tour text : List ℕ) : Type 0 where
  pub form : List ℕ
  pub canonical : IsCanonicalForm tour form
  pub is : text ≡ text_of form
