use Rattle.std.proofs.Common.{◌+◌, ◌∷◌, [], ◌++◌, arith}
use Rattle.std.specs.Prelude.{slice_index}
use Rattle.fracgraph.specs.Labels.{IsFirst}
use Rattle.fracgraph.proofs.ClassLemmas.{class_push, class_skip}
use Rattle.fracgraph.proofs.classes.class_of.Goals as goal

pub loop-here-preserved : goal.loop-here-preserved
loop-here-preserved c =
    let labels = c.args._labels.now in
    let here = c.loop-here.here in
    let xs = c.loop-here.cities.items in
    let old = c.loop-here.invariant in
    let long = c.requires.nexts.long in
    let below = c.loop-here-test.true in
    let mine = old.same (omega arith) in
    let next : IsFirst _ labels c.args.city (here + 1) (slice_index c.args.nexts.now here) = rw mine at (c.requires.nexts.each here (omega arith)) in
    rw c.in_ok-push.ensures.items (record {
      within = next.within;
      same = next.same;
      so_far = class_skip (here + 1) (slice_index c.args.nexts.now here) labels c.args.city (xs ++ here ∷ []) next.after (class_push here labels c.args.city xs old.so_far mine) next.none;
    })
