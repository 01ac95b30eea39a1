use Rattle.bossx.specs.Kept.{IsStart}
use Rattle.tspengine.specs.Playing.{IsFirstBook}
use Rattle.tspengine.proofs.Plays.{first_book, same_table, ok_to}
use Rattle.tspengine.proofs.playing.begin.Goals as goal

pub returns : goal.returns
returns c =
    let i = c.args.instance.now in
    let o = c.in_ok-opening.opening in
    let t = c.in_ok-tree.tree in
    let e = same_table i c.n.result c.fixed.result.now t c.in_ok-tree.ensures c.n.ensures.same c.fixed.ensures in
    ok_to (IsStart i t o.tour c.args.budget c.args.grunts 0) (IsFirstBook i c.args.budget c.args.grunts)
    (λ b is. first_book i o t c.args.budget c.args.grunts b c.in_ok-opening.ensures e is) c.start.result c.start.ensures.start
