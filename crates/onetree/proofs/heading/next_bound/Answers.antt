use Rattle.certdef.specs.Items.{bound_line}
use Rattle.onetree.proofs.heading.next_bound.Goals as goal

pub returns-in_default-clause-none : goal.returns-in_default-clause-none
returns-in_default-clause-none c = λ b more h. (rw c.in_default.is at c.in_ok-item.ensures.none) (bound_line b) more h
