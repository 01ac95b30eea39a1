use Rattle.std.proofs.Common.{◌≡◌, sym, ap, ◌∙◌, subst}
use Rattle.std.specs.Int.Signed.{lt_z}
use Rattle.tspdef.specs.Closings.{IsClosing}
use Rattle.tspdef.specs.Bounds.{bound, needed}
use Rattle.certdef.specs.Proofs.{Duals}
use Rattle.certdef.specs.Accepted.{closing_of}
use Rattle.certtests.proofs.DualLemmas.{duals_are_closing, closes_listed}
use Rattle.certtests.proofs.leaves.closes.Goals as goal

pub exceeds-requires-clause-closing : goal.exceeds-requires-clause-closing
exceeds-requires-clause-closing c =
    let i = c.args.instance.now in
    let path = c.args.path.now.conditions in
    let cuts = c.args.cuts.now in
    let d : Duals = record { cities = c.args.cities.now; cuts = c.args.cut_duals.now; conds = c.args.condition_duals.now } in
    let same : c.in_ok-closing.closing ≡ closing_of i.n cuts d = c.in_ok-closing.ensures ∙ ap (λ n. closing_of n cuts d) c.n.ensures.same in
    subst (IsClosing i.n path) (sym same) (duals_are_closing i.n cuts path d c.requires.cuts c.requires.duals)

pub returns : goal.returns
returns c =
    let i = c.args.instance.now in
    let path = c.args.path.now.conditions in
    let cuts = c.args.cuts.now in
    let d : Duals = record { cities = c.args.cities.now; cuts = c.args.cut_duals.now; conds = c.args.condition_duals.now } in
    let same : c.in_ok-closing.closing ≡ closing_of i.n cuts d = c.in_ok-closing.ensures ∙ ap (λ n. closing_of n cuts d) c.n.ensures.same in
    c.exceeds.ensures ∙ (ap (λ k. lt_z (needed c.args.told) (bound i path k)) same ∙ sym (closes_listed i c.args.told cuts path d c.requires.cuts))
