use Rattle.std.proofs.Common.{◌≡◌, ◌<◌, ◌∙◌, ℕ, length, sym}
use Rattle.std.proofs.lemmas.Grind.{get_or_default_zero}
use Rattle.tspinst.specs.Fixings.{AreCollected}
use Rattle.tspinst.proofs.StartLemmas.{none_collected}
use Rattle.tspinst.proofs.fixing.Fixing.new.Goals as goal

pub invariant_of-result : goal.invariant_of-result
invariant_of-result c =
    let partners = c.in_ok-no_partners.ensures in
    let names = c.in_ok-own_names.ensures in
    let few = c.requires in (
      few,
      rw c.new.ensures.items (none_collected c.args.n c.in_ok-no_partners.field-0.items c.in_ok-own_names.field-0.items partners.all partners.none names.all
          (λ k l. sym (get_or_default_zero _ k _ (rw names.all l)) ∙ names.own k l)),
    )
