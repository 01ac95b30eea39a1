-- What a picture shows.
use Rattle.std.specs.Prelude.{◌≡◌, ℕ, List, length, IfSome}
use Rattle.std.specs.List.{AllByRecursion, count_by}
use Rattle.tspdef.specs.Instances.{Instance}
use Rattle.tspinst.specs.Tables.{Point}
use Rattle.picture.specs.declared.canvas.Spot.{Spot}
use Rattle.picture.specs.declared.canvas.Layout.{Layout}
use Rattle.picture.specs.declared.canvas.Layout.TheVariants as layouts
use Rattle.picture.specs.declared.tree.Node.{Node}
use Rattle.picture.specs.Canvas.{IsInside, IsInStrip}
use Rattle.picture.specs.Trees.{is_open, is_closed, is_split}
use Rattle.picture.specs.Texts.{Scene, picture_text}
use Rattle.coordinates.specs.Maps.{IsMapOf}
use Rattle.coordinates.specs.declared.reading.Mapped.{Mapped}

-- where there are points, the instance's distances are theirs
abbrev pub AreMapped : Mapped → Type 0
AreMapped m = IfSome m.points (λ ps. IsMapOf m.instance ps.items)

-- each city has a place in the square of the cities; by points only where the instance has them
pub record IsPlaced (i : Instance) (layout : Layout) (spots : List Spot) : Type 0 where
  pub each : length spots ≡ i.n
  pub inside : AllByRecursion IsInside spots
  pub plane : layout ≡ layouts.Plane → (points : List Point) × IsMapOf i points

-- The scene has the places, the tour, the fixed pairs, the length told and the nodes by their kinds.
pub record Shows (i : Instance) (l : ℕ) (tour : List ℕ) (nodes : List Node) (s : Scene) : Type 0 where
  pub placed : IsPlaced i s.layout s.spots
  pub same_tour : s.tour ≡ tour
  pub same_fixed : s.fixed ≡ i.fixed
  pub same_length : s.length_told ≡ l
  pub open_nodes : s.census.open ≡ count_by is_open nodes
  pub closed_nodes : s.census.closed ≡ count_by is_closed nodes
  pub split_nodes : s.census.split ≡ count_by is_split nodes
  pub strip : AllByRecursion IsInStrip s.bars

-- the bytes are the text of a picture of this
abbrev pub IsPicture : Instance → ℕ → List ℕ → List Node → List ℕ → Type 0
IsPicture i l tour nodes bytes = (s : Scene) × Shows i l tour nodes s × (bytes ≡ picture_text s)
