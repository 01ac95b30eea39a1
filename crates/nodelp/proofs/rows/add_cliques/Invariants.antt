use Rattle.std.proofs.Common.{◌≡◌, ◌++◌, map, take}
use Rattle.std.specs.List.{All}
use Rattle.branchx.specs.Cond.{conditions_of}
use Rattle.lpcheck.specs.Rows.{IsSmall}
use Rattle.nodelp.specs.Shapes.{shape_of, clique_shapes}
use Rattle.nodelp.proofs.rows.add_cliques.Given as goal

abbrev pub invariant-loop-cond : goal.invariant-loop-cond
invariant-loop-cond l = record {
  shapes : map shape_of l.rows.items ≡ map shape_of l.initial.rows.items ++ clique_shapes (conditions_of (take l.cond-index l.conditions));
  small : All IsSmall l.rows.items;
}
