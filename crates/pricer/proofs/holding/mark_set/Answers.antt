use Rattle.std.proofs.Common.{length}
use Rattle.cutform.proofs.SetLemmas.{rises-all}
use Rattle.pricer.proofs.holding.mark_set.Goals as goal

pub mark-requires : goal.mark-requires
mark-requires c = rw c.cities.ensures.value (rises-all (length c.args.marks.now) c.args.set.now.cities c.requires)

pub returns : goal.returns
returns c = λ v. rw c.cities.ensures.value at (c.mark.ensures v)
