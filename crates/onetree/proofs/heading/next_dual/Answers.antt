use Rattle.certdef.specs.Items.{city_line}
use Rattle.onetree.proofs.heading.next_dual.Goals as goal

pub returns-in_default-clause-none : goal.returns-in_default-clause-none
returns-in_default-clause-none c = λ v y more h. (rw c.in_default.is at c.in_ok-item.ensures.none) (city_line v y) more h
