use Rattle.std.proofs.Common.{sym}
use Rattle.certtests.proofs.Listing.{subtour_passes}
use Rattle.certtests.proofs.cuts.subtour.Goals as goal

pub returns-in-Ok-clause-found : goal.returns-in-Ok-clause-found
returns-in-Ok-clause-found c = sym (subtour_passes c.args.set.n c.args.set.cities c.in-Ok.ensures.proper)
