use Rattle.std.proofs.Common.{set, ◌-◌, ap, ◌∙◌, inl, inr, w64}
use Rattle.std.proofs.lemmas.Int.{to_z-of_z}
use Rattle.certtests.proofs.DualLemmas.{lay_within, lay_without}
use Rattle.tapeboss.proofs.closings.lay_one.Goals as goal

pub returns-then-place-duals : goal.returns-then-place-duals
returns-then-place-duals c = λ given e.
    let old = c.args.duals.now in
    ap (λ x. set old (c.args.city - 1) x) (to_z-of_z w64 c.args.dual c.ranges.dual)
    ∙ lay_within given c.args.city c.args.dual old c.if-place-ge1.true c.if-place-duals.true e

pub returns-else-place-ge1 : goal.returns-else-place-ge1
returns-else-place-ge1 c = λ given e.
    lay_without given c.args.city c.args.dual c.args.duals.now (elim c.else-place-ge1.either [ inl p ↦ inr p.1 | inr q ↦ inl q ]) e
