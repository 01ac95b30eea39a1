use Rattle.std.proofs.Common.{◌≡◌, drop}
use Rattle.certtests.specs.Followers.{all_joined}
use Rattle.certtests.proofs.steps.are_joined.Given as goal

abbrev pub invariant-loop-u : goal.invariant-loop-u
invariant-loop-u l = all_joined l.followers (drop l.u-index l.pairs) ≡ all_joined l.followers l.pairs
