use Rattle.std.proofs.Common.{◌<◌, length}
use Rattle.grunt.proofs.walk.most_drawn.Given as goal

abbrev pub invariant-loop-place : goal.invariant-loop-place
invariant-loop-place l = l.best < length l.rest
