use Rattle.std.proofs.Common.{length}
use Rattle.pricer.proofs.MarkLemmas.{marks_then, cut_unheld}
use Rattle.pricer.proofs.SpreadLemmas.{cut_sets, cut_pairs}
use Rattle.pricer.proofs.holding.mark_cut.Goals as goal

pub mark_sets-requires : goal.mark_sets-requires
mark_sets-requires c = rw c.sets.ensures (cut_sets c.args.n (length c.args.marks.now) c.args.cut.now c.requires.long c.requires.cut)

pub mark_pairs-requires : goal.mark_pairs-requires
mark_pairs-requires c = rw (c.mark_sets.auto.marks, c.pairs.ensures) (cut_pairs c.args.n (length c.args.marks.now) c.args.cut.now c.requires.long c.requires.cut)

pub returns : goal.returns
returns c =
    let sets = rw c.sets.ensures at c.mark_sets.ensures in
    let pairs = rw c.pairs.ensures at c.mark_pairs.ensures in
    marks_then _ _ _ _ _ _ sets pairs (λ v p q k y. cut_unheld c.args.cut.now v k y (p k) (q k))
