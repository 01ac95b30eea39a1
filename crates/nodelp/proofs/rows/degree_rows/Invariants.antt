use Rattle.std.proofs.Common.{◌≡◌, map}
use Rattle.std.specs.List.{All}
use Rattle.lpcheck.specs.Rows.{IsSmall}
use Rattle.nodelp.specs.Shapes.{shape_of, degree_shapes}
use Rattle.nodelp.proofs.rows.degree_rows.Given as goal

abbrev pub invariant-loop-city : goal.invariant-loop-city
invariant-loop-city l = record { shapes : map shape_of l.rows.items ≡ degree_shapes l.city; small : All IsSmall l.rows.items }
