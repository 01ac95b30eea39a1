-- The text of a drawing: lines of SVG, in the order in which they are painted.
use Rattle.std.specs.Prelude.{ℕ, ◌+◌, nat_lt, if◌then◌else◌, List, ◌++◌, length, flat_map, slice_index_or, codes, decimal}
use Rattle.picture.specs.declared.canvas.Spot.{Spot}
use Rattle.picture.specs.declared.canvas.Bar.{Bar}
use Rattle.picture.specs.declared.canvas.Layout.{Layout}
use Rattle.picture.specs.declared.canvas.Layout.TheVariants as layouts
use Rattle.picture.specs.declared.tree.Node.{Node}
use Rattle.picture.specs.declared.tree.Node.TheVariants as nodes
use Rattle.picture.specs.declared.tree.Census.{Census}

-- what is drawn: the places of the cities, and where these come from; the tour by its cities; the fixed pairs; the length of the tour;
-- how many nodes of each kind the tree has, and the bars of its strip
pub record Scene : Type 0 where
  pub layout : Layout
  pub spots : List Spot
  pub tour : List ℕ
  pub fixed : List (ℕ × ℕ)
  pub length_told : ℕ
  pub census : Census
  pub bars : List Bar

-- where a city stands
abbrev pub spot_of : List Spot → ℕ → Spot
spot_of spots city = slice_index_or spots city (record { x = 0; y = 0 })

-- a corner of the tour
unfoldable pub corner_text : Spot → List ℕ
corner_text s = decimal s.x ++ (codes "," ++ (decimal s.y ++ codes " "))

-- the corner of a city
abbrev pub corner_of : List Spot → ℕ → List ℕ
corner_of spots city = corner_text (spot_of spots city)

-- a line between two places
unfoldable pub line_text : Spot → Spot → List ℕ
line_text a b = codes "<line x1='" ++ (decimal a.x ++ (codes "' y1='" ++ (decimal a.y ++ (codes "' x2='" ++ (decimal b.x ++ (codes "' y2='" ++ (decimal b.y ++ codes "'/>\n")))))))

-- the line of a pair of cities
abbrev pub line_of : List Spot → ℕ × ℕ → List ℕ
line_of spots p = line_text (spot_of spots p.0) (spot_of spots p.1)

-- a dot, which tells a city's number, from 1 on
unfoldable pub dot_text : ℕ → ℕ → Spot → List ℕ
dot_text radius city s = codes "<circle cx='" ++ (decimal s.x ++ (codes "' cy='" ++ (decimal s.y ++ (codes "' r='" ++ (decimal radius ++ (codes "'><title>" ++ (decimal (city + 1) ++ codes "</title></circle>\n")))))))

-- the dot of a city
abbrev pub dot_of : List Spot → ℕ → ℕ → List ℕ
dot_of spots radius city = dot_text radius city (spot_of spots city)

unfoldable pub colour : Node → List ℕ
colour nodes.Open = codes "#ee7733"
colour nodes.Closed = codes "#228833"
colour nodes.Split = codes "#bbbbbb"

unfoldable pub bar_text : Bar → List ℕ
bar_text b = codes "<rect x='" ++ (decimal b.x ++ (codes "' y='" ++ (decimal b.y ++ (codes "' width='" ++ (decimal b.width ++ (codes "' height='" ++ (decimal b.height ++ (codes "' fill='" ++ (colour b.node ++ codes "'/>\n")))))))))

-- ---- the parts of the picture

abbrev pub head_text : List ℕ
head_text = codes "<svg xmlns='http://www.w3.org/2000/svg' viewBox='0 0 1000 1240'>\n<rect width='1000' height='1240' fill='#ffffff'/>\n"

-- the tour, as one closed way through the places of its cities
unfoldable pub tour_text : List Spot → List ℕ → List ℕ
tour_text spots tour = codes "<polygon fill='none' stroke='#4477aa' stroke-width='2' points='" ++ flat_map (corner_of spots) tour ++ codes "'/>\n"

-- the fixed pairs
unfoldable pub fixed_text : List Spot → List (ℕ × ℕ) → List ℕ
fixed_text spots fixed = codes "<g stroke='#cc3311' stroke-width='5'>\n" ++ flat_map (line_of spots) fixed ++ codes "</g>\n"

-- how large a dot is
abbrev pub radius_of : ℕ → ℕ
radius_of n = (if nat_lt n 300 then 5 else if nat_lt n 1000 then 3 else 2)

-- the cities, in the order of the tour
unfoldable pub cities_text : List Spot → List ℕ → List ℕ
cities_text spots tour = codes "<g fill='#222222'>\n" ++ flat_map (dot_of spots (radius_of (length tour))) tour ++ codes "</g>\n"

-- how many cities there are, and how long the tour is
unfoldable pub size_text : ℕ → ℕ → List ℕ
size_text n l = codes "<text x='20' y='1020'>" ++ (decimal n ++ (codes " cities, a tour of length " ++ (decimal l ++ codes "</text>\n")))

-- where the cities stand
unfoldable pub layout_text : Layout → List ℕ
layout_text layouts.Plane = codes "<text x='20' y='1045'>drawn by their coordinates; fixed pairs are red</text>\n"
layout_text layouts.Circle = codes "<text x='20' y='1045'>no coordinates: drawn on a circle, by their numbers; fixed pairs are red</text>\n"

-- how many nodes there are
unfoldable pub census_text : Census → List ℕ
census_text c = codes "<text x='20' y='1080'>the tree by depth: " ++ (decimal c.split ++ (codes " split (grey), " ++ (decimal c.closed ++ (codes " closed (green), " ++ (decimal c.open ++ codes " open (orange)</text>\n")))))

unfoldable pub notes_text : Scene → List ℕ
notes_text s = codes "<g font-family='sans-serif' font-size='20'>\n" ++ size_text (length s.tour) s.length_told ++ layout_text s.layout ++ census_text s.census ++ codes "</g>\n"

-- the strip
unfoldable pub strip_text : List Bar → List ℕ
strip_text bars = flat_map bar_text bars

-- the text of the picture
unfoldable pub picture_text : Scene → List ℕ
picture_text s = head_text ++ tour_text s.spots s.tour ++ fixed_text s.spots s.fixed ++ cities_text s.spots s.tour ++ notes_text s ++ strip_text s.bars ++ codes "</svg>\n"
