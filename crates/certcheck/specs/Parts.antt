-- Parts of the code as those of a body.
use Rattle.std.specs.Prelude.{List, map}
use Rattle.verdict.specs.Parts as defs
use Rattle.certcheck.specs.declared.part.Part.{Part}
use Rattle.certcheck.specs.declared.part.Part.TheVariants as parts

abbrev pub part_of : Part → defs.Part
part_of (parts.Tour tour) = defs.the_tour tour
part_of parts.Open = defs.opened
part_of (parts.Closed c) = defs.closed c
part_of (parts.Edge u v) = defs.edge u v
part_of (parts.Clique set) = defs.clique set.cities

abbrev pub parts_of : List Part → List defs.Part
parts_of ps = map part_of ps
