use Rattle.sepsub.proofs.UnionLemmas.{turned_other}
use Rattle.std.proofs.Common.{sym, ◌∙◌}
use Rattle.sepsub.proofs.sides.with_home.Goals as goal

pub returns : goal.returns
returns c =
    let e = c.in_ok-set.ensures in
    turned_other c.args.side c.in_ok-set.set e.cities e.set e.others c.requires (sym c.contains.ensures ∙ c.if-contains.false)
