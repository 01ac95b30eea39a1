use Rattle.certdef.specs.Items.{size_line}
use Rattle.onetree.proofs.heading.next_size.Goals as goal

pub returns-in_default-clause-none : goal.returns-in_default-clause-none
returns-in_default-clause-none c = λ m more h. (rw c.in_default.is at c.in_ok-item.ensures.none) (size_line m) more h
