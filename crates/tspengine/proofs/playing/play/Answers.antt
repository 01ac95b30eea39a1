use Rattle.std.proofs.Common.{refl, inr}
use Rattle.tspengine.specs.declared.statuses.Status.TheVariants as status
use Rattle.tspengine.proofs.Plays.{played_none}
use Rattle.tspengine.proofs.playing.play.Goals as goal

pub returns-in-Err-clause-ends : goal.returns-in-Err-clause-ends
returns-in-Err-clause-ends g c = played_none c.args.boss status.NoMemory _ _ (inr (inr refl)) refl

pub returns-in-Err-clause-status : goal.returns-in-Err-clause-status
returns-in-Err-clause-status g c = inr (inr (inr (inr refl)))
