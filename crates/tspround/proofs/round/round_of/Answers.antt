use Rattle.std.proofs.Common.{sym, subst}
use Rattle.std.specs.Prelude.{IfOk}
use Rattle.bossx.specs.Books.{Book}
use Rattle.tspround.specs.Rounds.{IsRound}
use Rattle.tspround.proofs.round.round_of.Goals as goal

pub returns : goal.returns
returns g c = subst (λ (b : Book). IfOk c.close_round.result (λ r. IsRound g.W.Worker.splits b r.boss r.counts.items)) (sym c.requires.opening) c.close_round.ensures
