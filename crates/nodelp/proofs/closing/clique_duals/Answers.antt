use Rattle.std.proofs.Common.{arith}
use Rattle.branchx.specs.Cond.{conditions_of}
use Rattle.nodelp.specs.Duals.{clique_duals}
use Rattle.nodelp.proofs.ClosingLemmas.{duals_more}
use Rattle.nodelp.proofs.closing.clique_duals.Goals as goal

pub loop-cond-preserved : goal.loop-cond-preserved
loop-cond-preserved c =
    let v = c.loop-cond.invariant in
    let depth = v.depth in
    let row = v.row in
    let step = c.in_ok-row.ensures.step in
    let deeper = c.depth_behind-depth.ensures.step in
    record {
      depth = omega arith;
      row = omega arith;
      so_far = duals_more c.args.ys.now c.args.conditions.now c.loop-cond.cond-index c.loop-cond.depth c.loop-cond.row c.in_ok-row.row c.depth_behind-depth.result c.cond-item.result c.loop-cond.duals.items
          c.add_clique_dual.new.duals.items (clique_duals c.args.ys.now 1 c.args.first (conditions_of c.args.conditions.now)) c.loop-cond-test.true c.cond-item.is c.in_ok-row.ensures.duals c.in_ok-row.ensures.row c.depth_behind-depth.ensures.is v.so_far;
    }
