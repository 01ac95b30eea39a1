use Rattle.std.proofs.Common.{refl, inl, inr}
use Rattle.tspengine.proofs.Replays.{bound_and_played, not_bound}
use Rattle.tspengine.proofs.replaying.play_from.Goals as goal

pub returns-in-Ok-clause-ends : goal.returns-in-Ok-clause-ends
returns-in-Ok-clause-ends g c = bound_and_played c.args.boss c.args.path.now c.play.result _ _ _ c.in-Ok.ensures.bound c.play.ensures.ends

pub returns-in-Err-clause-ends : goal.returns-in-Err-clause-ends
returns-in-Err-clause-ends g c = not_bound c.args.boss c.args.path.now _ _ c.in-Err.ensures.err

pub returns-in-Err-clause-status : goal.returns-in-Err-clause-status
returns-in-Err-clause-status g c = inr (inr (inl refl))
