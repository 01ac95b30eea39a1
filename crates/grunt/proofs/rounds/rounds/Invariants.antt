use Rattle.std.proofs.Common.{◌+◌, ◌-◌, ◌*◌}
use Rattle.grunt.specs.Rounds.{IsReady}
use Rattle.grunt.proofs.rounds.rounds.Given as goal

abbrev pub invariant-loop-turn : goal.invariant-loop-turn
invariant-loop-turn g l = IsReady l.instance l.path.conditions l.node

abbrev pub decreases-loop-turn : goal.decreases-loop-turn
decreases-loop-turn g l = l.purges * 200 + (199 - l.node.program.rounds)
