use Rattle.std.proofs.Common.{◌≡◌, sym, ◌∙◌}
use Rattle.lpcheck.specs.Rows.{cities_of_each}
use Rattle.lpcheck.proofs.CodeLemmas.{same_code}
use Rattle.lpcheck.proofs.cells.coded_coef.Goals as goal

pub returns-then-are_alike : goal.returns-then-are_alike
returns-then-are_alike c =
    let is = c.are_alike.ensures in
    let yes = c.if-are_alike.true in
    let u = c.requires.codes c.args.u (is.u yes) in
    let v = c.requires.codes c.args.v (is.v yes) in
    sym (same_code (cities_of_each c.args.row.now.sets.items) 0 0 c.args.u c.args.v (sym u ∙ (is.same yes ∙ v)))
