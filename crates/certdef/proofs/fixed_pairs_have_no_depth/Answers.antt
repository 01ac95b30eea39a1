use Rattle.certdef.proofs.Depths.{fixed_pairs_have_no_depth}
use Rattle.certdef.proofs.fixed_pairs_have_no_depth.Goals as goal

pub returns : goal.returns
returns c = fixed_pairs_have_no_depth
