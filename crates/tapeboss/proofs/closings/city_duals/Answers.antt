use Rattle.std.proofs.Common.{◌≡◌, [], length, pos, sym, ap, ◌∙◌}
use Rattle.std.specs.Prelude.{replicate}
use Rattle.std.proofs.lemmas.List.{length-replicate}
use Rattle.certdef.specs.Accepted.{duals_from}
use Rattle.certtests.proofs.DualLemmas.{no_duals}
use Rattle.tapeboss.proofs.closings.city_duals.Goals as goal

pub lay-requires : goal.lay-requires
lay-requires c =
    let n = c.args.n in
    let zeros : c.deref_mut.result.now ≡ replicate n (pos 0) = c.deref_mut.ensures.value ∙ c.in_ok-duals.ensures in
    let long : length c.deref_mut.result.now ≡ n = ap length zeros ∙ length-replicate n (pos 0) in
    zeros ∙ (sym (no_duals 1 n) ∙ ap (duals_from [] 1) (sym long))
