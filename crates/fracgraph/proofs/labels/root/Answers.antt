use Rattle.std.proofs.Common.{sym, ◌∙◌, arith}
use Rattle.fracgraph.proofs.RootLemmas.{root_above}
use Rattle.fracgraph.proofs.labels.root.Goals as goal

pub loop-here-preserved : goal.loop-here-preserved
loop-here-preserved c =
    let ps = c.args.parents.now in
    let here = c.loop-here.here in
    let old = c.loop-here.invariant in
    let l = old.least in
    let b = c.requires.below in
    let down = c.requires.fall here (omega arith) in
    record {
      least = omega arith;
      same = sym (root_above ps here c.requires.fall (omega arith) c.loop-here-test.true) ∙ old.same;
    }
