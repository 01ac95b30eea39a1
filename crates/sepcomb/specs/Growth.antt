-- How teeth grow along pairs near one length.
use Rattle.std.specs.Prelude.{ℕ, zero, suc, min, Bool, true, false, cond, ◌==◌, ◌&&◌, ◌||◌, not, List, [], ◌∷◌, ◌++◌, Option, Some, None}
use Rattle.tspdef.specs.Sets.{has}
use Rattle.cyc.specs.declared.frac.Entry.{Entry}
use Rattle.cyc.specs.Frac.{Values}
use Rattle.sepblos.specs.Blossoms.{is_near_one}

-- the city of a pair that is not this one
abbrev pub other_end : ℕ → Entry → ℕ
other_end city e = cond (e.u == city) e.v e.u

-- the city of a pair that is not in the handle
abbrev pub outside : List ℕ → Entry → ℕ
outside handle e = cond (has handle e.u) e.v e.u

-- a city is not in the handle, nor in a tooth, nor on the path by which one grows
abbrev pub is_free : List ℕ → List ℕ → List ℕ → ℕ → Bool
is_free handle used path city = not (has handle city) && not (has used city) && not (has path city)

-- a pair near one length joins the newest city to a free one
abbrev pub leads_on : List ℕ → List ℕ → List ℕ → ℕ → Entry → Bool
leads_on handle used path newest e = is_near_one e.x && ((e.u == newest) || (e.v == newest)) && is_free handle used path (other_end newest e)

-- the entries of pairs near one length
abbrev pub near_ones : List Entry → List Entry
near_ones [] = []
near_ones (e ∷ es) = cond (is_near_one e.x) (e ∷ near_ones es) (near_ones es)

-- the lower of two cities, of which there may be one alone
abbrev pub lower : Option ℕ → ℕ → ℕ
lower None city = city
lower (Some other) city = min other city

-- the lowest city to which one of the entries leads on from the newest, or the best before if that is lower
abbrev pub next_city : List ℕ → List ℕ → List ℕ → ℕ → Option ℕ → List Entry → Option ℕ
next_city handle used path newest best [] = best
next_city handle used path newest best (e ∷ es) = next_city handle used path newest (cond (leads_on handle used path newest e) (Some (lower best (other_end newest e))) best) es

-- the city that is next, or 0
abbrev pub city_or_zero : Option ℕ → ℕ
city_or_zero None = 0
city_or_zero (Some city) = city

-- there is a next city
abbrev pub is_next : Option ℕ → Bool
is_next None = false
is_next (Some city) = true

-- a path with the cities by which it goes on, so many at most; with as many as there are cities it goes on as long as it can, since each is new
abbrev pub path_from : ℕ → List Entry → List ℕ → List ℕ → List ℕ → ℕ → List ℕ
path_from zero es handle used path newest = path
path_from (suc steps) es handle used path newest =
    cond (is_next (next_city handle used path newest None es))
    (path_from steps es handle used (path ++ city_or_zero (next_city handle used path newest None es) ∷ []) (city_or_zero (next_city handle used path newest None es)))
    path

-- the cities below n that are of the list, in rising order
abbrev pub set_below : ℕ → List ℕ → List ℕ
set_below zero cities = []
set_below (suc n) cities = set_below n cities ++ cond (has cities n) (n ∷ []) []

-- the cities of pairs
abbrev pub ends_of : List Entry → List ℕ
ends_of [] = []
ends_of (e ∷ es) = e.u ∷ e.v ∷ ends_of es

-- the teeth that begin with these pairs, each grown in turn, where the used cities are those of all teeth so far
abbrev pub grown : Values → List ℕ → List ℕ → List Entry → List (List ℕ)
grown x handle used [] = []
grown x handle used (e ∷ es) =
    set_below x.n (e.u ∷ e.v ∷ path_from x.n x.entries handle used [] (outside handle e))
    ∷ grown x handle (used ++ path_from x.n x.entries handle used [] (outside handle e)) es
