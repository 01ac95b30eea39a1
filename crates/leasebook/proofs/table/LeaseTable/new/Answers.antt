use Rattle.leasebook.proofs.KeptLemmas.{nothing_kept}
use Rattle.leasebook.proofs.table.LeaseTable.new.Goals as goal

pub invariant_of-result : goal.invariant_of-result
invariant_of-result c = rw (c.in_ok-with_capacity.ensures.items, c.in_ok-with_capacity-2.ensures.items)
    (nothing_kept c.in_ok-none_held.field-0.items c.in_ok-none_held-2.field-0.items c.in_ok-none_held.ensures.none c.in_ok-none_held-2.ensures.none)
