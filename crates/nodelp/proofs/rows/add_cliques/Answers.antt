use Rattle.std.proofs.Common.{map}
use Rattle.nodelp.specs.Shapes.{shape_of}
use Rattle.nodelp.proofs.ShapeLemmas.{cliques_more}
use Rattle.nodelp.proofs.rows.add_cliques.Goals as goal

pub loop-cond-preserved : goal.loop-cond-preserved
loop-cond-preserved c = record {
  shapes = cliques_more (map shape_of c.args.rows.now.items) (map shape_of c.loop-cond.rows.items) (map shape_of c.add_clique.new.rows.items) c.args.conditions.now c.loop-cond.cond-index c.cond-item.result
      c.loop-cond-test.true c.cond-item.is c.loop-cond.invariant.shapes c.in_ok-add_clique.ensures.shapes;
  small = c.in_ok-add_clique.ensures.small;
}
