use Rattle.std.proofs.Common.{◌≡◌, ℕ, map, sym, ap, subst, ◌∙◌}
use Rattle.std.specs.Prelude.{IfSome}
use Rattle.std.specs.Option.{is_some}
use Rattle.certdef.specs.Proofs.{Duals}
use Rattle.certdef.specs.Accepted as defs
use Rattle.certtests.specs.Listed.{listed}
use Rattle.certtests.proofs.MergeLemmas.{merged_from, merged_fits, merged_found, merged_value}
use Rattle.certtests.proofs.leaves.closing_if_enough.Goals as goal

pub if_enough-requires-clause-closing : goal.if_enough-requires-clause-closing
if_enough-requires-clause-closing c =
    let d : Duals = record { cities = c.args.cities.now; cuts = c.args.cut_duals.now; conds = c.args.condition_duals.now } in
    let v = subst (λ (k : ℕ). IfSome c.in_ok-merged.merged (λ x. x ≡ merged_from k c.args.cuts.now d)) c.n.ensures.same c.in_ok-merged.ensures.value in
    merged_fits c.args.instance.now.n c.args.cuts.now c.args.path.now.conditions d c.requires.cuts c.requires.duals c.in_ok-merged.merged c.in_ok-merged.ensures.found v

pub returns-clause-found : goal.returns-clause-found
returns-clause-found c =
    let d : Duals = record { cities = c.args.cities.now; cuts = c.args.cut_duals.now; conds = c.args.condition_duals.now } in
    let v = subst (λ (k : ℕ). IfSome c.in_ok-merged.merged (λ x. x ≡ merged_from k c.args.cuts.now d)) c.n.ensures.same c.in_ok-merged.ensures.value in
    ap (λ o. is_some o) c.if_enough.ensures ∙ merged_found c.args.instance.now c.args.told c.args.cuts.now c.args.path.now.conditions d c.requires.cuts c.in_ok-merged.merged c.in_ok-merged.ensures.found v

pub returns-clause-value : goal.returns-clause-value
returns-clause-value c =
    let d : Duals = record { cities = c.args.cities.now; cuts = c.args.cut_duals.now; conds = c.args.condition_duals.now } in
    let v = subst (λ (k : ℕ). IfSome c.in_ok-merged.merged (λ x. x ≡ merged_from k c.args.cuts.now d)) c.n.ensures.same c.in_ok-merged.ensures.value in
    subst (λ o. IfSome o (λ x. x ≡ merged_from c.args.instance.now.n (defs.cuts_of c.args.instance.now.n (map listed c.args.cuts.now)) d)) (sym c.if_enough.ensures)
    (merged_value c.args.instance.now c.args.told c.args.cuts.now c.args.path.now.conditions d c.requires.cuts c.in_ok-merged.merged v)
