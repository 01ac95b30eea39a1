use Rattle.certtests.proofs.Listing.{proper_decided}
use Rattle.certtests.proofs.sets.is_proper.Goals as goal

pub returns : goal.returns
returns c = proper_decided c.args.set.now.n c.args.set.now.cities c.is_proper.result c.is_proper.ensures
