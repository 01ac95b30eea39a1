use Rattle.cyc.proofs.WholeTours.{form_is_whole}
use Rattle.cyc.proofs.tour.Tour.canonical.Goals as goal

pub invariant_of-result : goal.invariant_of-result
invariant_of-result c = form_is_whole c.deref.result.now c.in_ok-canonical_form.field-0.items (rw c.deref.ensures.value c.self.invariant) c.in_ok-canonical_form.ensures
