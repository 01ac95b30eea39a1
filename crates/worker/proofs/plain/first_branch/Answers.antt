use Rattle.std.proofs.Common.{◌≡◌, ℕ, ◌<◌, sym, ◌∙◌, ap, subst}
use Rattle.std.specs.Prelude.{IfSome}
use Rattle.cyc.specs.Frac.{Values}
use Rattle.branchx.specs.Choice.{IsChoice}
use Rattle.worker.proofs.Edges.{edge_below_six}
use Rattle.worker.proofs.plain.first_branch.Goals as goal

pub returns-clause-edge : goal.returns-clause-edge
returns-clause-edge c = λ few.
    let x = c.in_ok-values.values in
    let path = c.args.path.now.conditions in
    let is = subst (λ o. IfSome o (IsChoice x path)) c.in-Some.is c.in_ok-branch.ensures.choice in
    let cities : x.n ≡ c.args.path.now.n = ap (λ (v : Values). v.n) c.in_ok-values.ensures ∙ c.n.ensures.same ∙ sym c.requires.cities in
    edge_below_six x path c.in-Some.branch is (subst (λ (n : ℕ). n < 6) (sym cities) few)
