-- What closes a node for a length closes it for its level.
use Rattle.std.proofs.Common.{ℕ, List, ◌≤◌, ◌-◌, arith}
use Rattle.std.proofs.lemmas.Int.{ints}
use Rattle.tspdef.specs.Instances.{Instance}
use Rattle.tspdef.specs.Paths.{Condition}
use Rattle.tspdef.specs.Closings.{Closing}
use Rattle.worker.specs.Splits.{level}
use Rattle.worker.specs.Works.{Closes}

pub closes_at_level : (i : Instance) (path : List Condition) (l gap : ℕ) (c : Closing) → Closes i path l c → Closes i path (level l gap) c
closes_at_level i path l gap c is = let e = is.exceeds in let less : l - gap ≤ l = omega arith in record { fits = is.fits; exceeds = omega (arith, ints, e, less) }
