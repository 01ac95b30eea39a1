-- The instance that words of `bench` draw.
use Rattle.std.specs.Prelude.{List}
use Rattle.clap.specs.Walk.{Text}
use Rattle.tspdef.specs.Instances.{Instance}
use Rattle.tspgen.specs.Points.{drawn}
use Rattle.tspwords.specs.Program.{seed_of, cities_of}

-- so many cities, drawn by their seed
abbrev pub drawn_by : List Text → Instance
drawn_by words = drawn (seed_of words) (cities_of words)
