use Rattle.std.proofs.Common.{sym, ap, ◌∙◌}
use Rattle.std.specs.Prelude.{slice_get}
use Rattle.certdef.specs.Accepted.{is_clique}
use Rattle.certtests.proofs.PathLemmas.{condition_got, condition_at_place}
use Rattle.certtests.proofs.leaves.names_clique.Goals as goal

pub returns-in-Some : goal.returns-in-Some
returns-in-Some c =
    let k = c.in-Some.place in
    let got = condition_got c.behind_fixed.result.now k c.get.result c.get.ensures.lookup.0 c.get.ensures.lookup.1 in
    let there = condition_at_place c.args.path.now.conditions c.args.depth k c.in-Some.ensures.0 c.in-Some.ensures.1 in
    c.is_on_set.ensures ∙ ap is_clique (got ∙ (ap (λ path. slice_get path k) c.behind_fixed.ensures ∙ sym there))
