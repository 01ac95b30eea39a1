-- What a drawing shows.
use Rattle.std.specs.Prelude.{◌<◌, ◌^◌, length, All}
use Rattle.picture.specs.Texts.{Scene}
use Rattle.picture.specs.declared.text.Drawing.{Drawing}

-- without where it lies in memory
abbrev pub scene_of : Drawing → Scene
scene_of d = record { layout = d.layout; spots = d.spots.now; tour = d.tour.now; fixed = d.fixed.now; length_told = d.length; census = d.census; bars = d.bars.now }

-- each city of the tour and of a fixed pair has a place
pub record IsDrawable (s : Scene) : Type 0 where
  pub few : length s.spots < 2 ^ 32
  pub tour : All (λ city. city < length s.spots) s.tour
  pub fixed : All (λ p. (p.0 < length s.spots) × (p.1 < length s.spots)) s.fixed
