use Rattle.tspround.proofs.Runs.{none_so_far, one_more}
use Rattle.tspround.proofs.searching.take_turns.Goals as goal

pub loop-init : goal.loop-init
loop-init g c = none_so_far g.W.Worker.splits c.args.boss.now c.requires.splits

pub loop-preserved : goal.loop-preserved
loop-preserved g c = one_more g.W.Worker.splits c.loop.counter c.args.boss.now c.loop.boss c.turn.new.boss c.loop.invariant c.in_ok-cost.ensures
