use Rattle.std.proofs.Common.{refl, inl, inr}
use Rattle.tspengine.proofs.Plays.{unread}
use Rattle.tspengine.proofs.playing.play_piece.Goals as goal

pub returns-in-Err-clause-turn : goal.returns-in-Err-clause-turn
returns-in-Err-clause-turn g c = unread c.args.tape _ _ c.in-Err.ensures.err

pub returns-in-Err-clause-status : goal.returns-in-Err-clause-status
returns-in-Err-clause-status g c = inr (inr (inl refl))
