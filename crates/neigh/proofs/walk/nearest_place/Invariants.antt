use Rattle.std.proofs.Common.{◌≡◌, ◌<◌, length, slice_index, drop}
use Rattle.tspdef.specs.Instances.{dist}
use Rattle.neigh.specs.Walk.{nearest_of, nearest_in}
use Rattle.neigh.proofs.walk.nearest_place.Given as goal

abbrev pub invariant-loop-place : goal.invariant-loop-place
invariant-loop-place l = record {
  within : l.best < length l.rest;
  least : l.least ≡ dist l.instance l.here (slice_index l.rest l.best);
  nearest : nearest_of (dist l.instance l.here) (slice_index l.rest l.best) (drop l.place l.rest) ≡ nearest_in (dist l.instance l.here) l.rest;
}
