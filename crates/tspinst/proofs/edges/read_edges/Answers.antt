use Rattle.std.proofs.Common.{◌∙◌, Bool}
use Rattle.tspinst.specs.Fixings.{Collected}
use Rattle.tspinst.proofs.Shrinking.{edges_begin, edge_fewer, edges_step, edges_failed}
use Rattle.tspinst.proofs.edges.read_edges.Goals as goal

pub loop-more-init : goal.loop-more-init
loop-more-init c =
    let begun = c.in_ok-fixing.ensures in
    record { same = begun.0; rest = rw begun.1 (edges_begin c.args.n c.args.words.now) }

pub loop-more-smaller : goal.loop-more-smaller
loop-more-smaller c = edge_fewer c.loop-more.fixing.n c.loop-more.fixing.pairs c.loop-more.words ((c.in-Ok.again, c.read_edge.new.fixing.pairs), c.read_edge.new.words) c.in-Ok.ensures.read

pub loop-more-preserved : goal.loop-more-preserved
loop-more-preserved c =
    let read = rw c.loop-more.invariant.same at c.in-Ok.ensures.read in
    let rest = rw c.loop-more-test.true at c.loop-more.invariant.rest in
    record {
      same = c.in-Ok.ensures.same ∙ c.loop-more.invariant.same;
      rest = edges_step c.args.n c.loop-more.fixing.pairs c.read_edge.new.fixing.pairs c.in-Ok.again c.loop-more.words c.read_edge.new.words read ∙ rest;
    }

pub returns-in-Err-clause-read : goal.returns-in-Err-clause-read
returns-in-Err-clause-read c =
    let read = rw c.loop-more.invariant.same at c.in-Err.ensures.read in
    let rest = rw c.loop-more-test.true at c.loop-more.invariant.rest in
    edges_failed {B = Bool} {D = Collected} (λ b. (b, c.read_edge.new.fixing.pairs)) (λ f. f.pairs) c.in-Err.error c.read_edge.new.words c.args.n c.loop-more.fixing.pairs c.loop-more.words _ read rest
