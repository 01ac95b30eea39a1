use Rattle.pricer.proofs.groups.+mark_groups.Given as goal

abbrev pub decreases-mark_groups : goal.decreases-mark_groups
decreases-mark_groups l = l.count
