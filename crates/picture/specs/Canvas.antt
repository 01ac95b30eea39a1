-- Places on the canvas.
use Rattle.std.specs.Prelude.{◌+◌, ◌≤◌}
use Rattle.picture.specs.declared.canvas.Spot.{Spot}
use Rattle.picture.specs.declared.canvas.Bar.{Bar}

-- in the square of the cities
pub record IsInside (s : Spot) : Type 0 where
  pub right : 20 ≤ s.x
  pub left : s.x ≤ 980
  pub below : 20 ≤ s.y
  pub above : s.y ≤ 980

-- in the strip, which is 960 wide and 120 high
pub record IsInStrip (b : Bar) : Type 0 where
  pub right : 20 ≤ b.x
  pub left : b.x + b.width ≤ 980
  pub below : 1100 ≤ b.y
  pub above : b.y + b.height ≤ 1220
