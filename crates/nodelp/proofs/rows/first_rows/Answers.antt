use Rattle.std.proofs.Common.{◌≡◌, ◌++◌, List, map, ap, ◌∙◌, arith}
use Rattle.tspdef.specs.Paths.{Condition}
use Rattle.branchx.specs.Cond.{conditions_of}
use Rattle.nodelp.specs.Shapes.{Shape, shape_of, degree_shapes, clique_shapes, first_shapes}
use Rattle.nodelp.proofs.ShapeLemmas.{first_many}
use Rattle.nodelp.proofs.rows.first_rows.Goals as goal

pub returns-clause-some : goal.returns-clause-some
returns-clause-some c =
    let path = c.args.path.now.conditions in
    let shapes : map shape_of c.add_cliques.new.rows.items ≡ first_shapes c.args.n path =
    c.in_ok-add_cliques.ensures.shapes
    ∙ (ap (λ (l : List Shape). l ++ clique_shapes (conditions_of c.conditions.result.now)) c.in_ok-rows.ensures.shapes
    ∙ ap (λ (p : List Condition). degree_shapes c.args.n ++ clique_shapes p) c.conditions.ensures.value) in
    let many = first_many c.args.n path c.add_cliques.new.rows.items shapes in
    omega (arith, many, c.requires.few, c.requires.few_cliques)
