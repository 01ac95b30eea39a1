use Rattle.std.proofs.Common.{◌≡◌, sym, ap, ◌∙◌, subst}
use Rattle.std.specs.Int.Signed.{lt_z}
use Rattle.tspdef.specs.Closings.{IsClosing}
use Rattle.tspdef.specs.Bounds.{bound, needed}
use Rattle.certdef.specs.Proofs.{Duals}
use Rattle.certdef.specs.Accepted.{closing_of}
use Rattle.certtests.proofs.DualLemmas.{duals_are_closing, closes_listed}
use Rattle.certtests.proofs.MovingLemmas.{taken_closing}
use Rattle.certtests.proofs.leaves.closes_in_place.Goals as goal

pub exceeds-enough-requires-clause-closing : goal.exceeds-enough-requires-clause-closing
exceeds-enough-requires-clause-closing c =
    let i = c.args.instance.now in
    let path = c.args.path.now.conditions in
    let cuts = c.args.cuts.now.items in
    let d : Duals = record { cities = c.args.cities.now; cuts = c.args.cut_duals.now; conds = c.args.condition_duals.now } in
    let same : c.new-closing.result ≡ closing_of i.n cuts d = taken_closing i.n c.n.result cuts d c.new-closing.result _ _ _ c.n.ensures.same c.in_ok-city.ensures c.in_ok-named.ensures.taken c.in_ok-conds.ensures.items c.new-closing.ensures in
    subst (IsClosing i.n path) (sym same) (duals_are_closing i.n cuts path d c.requires.cuts c.requires.duals)

pub returns-clause-closes : goal.returns-clause-closes
returns-clause-closes c =
    let i = c.args.instance.now in
    let path = c.args.path.now.conditions in
    let cuts = c.args.cuts.now.items in
    let d : Duals = record { cities = c.args.cities.now; cuts = c.args.cut_duals.now; conds = c.args.condition_duals.now } in
    let same : c.new-closing.result ≡ closing_of i.n cuts d = taken_closing i.n c.n.result cuts d c.new-closing.result _ _ _ c.n.ensures.same c.in_ok-city.ensures c.in_ok-named.ensures.taken c.in_ok-conds.ensures.items c.new-closing.ensures in
    c.exceeds-enough.ensures ∙ (ap (λ k. lt_z (needed c.args.told) (bound i path k)) same ∙ sym (closes_listed i c.args.told cuts path d c.requires.cuts))
