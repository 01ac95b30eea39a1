use Rattle.std.proofs.Common.{◌≡◌, ℕ, ◌++◌, take, drop}
use Rattle.nodelp.specs.Cuts.{put}
use Rattle.nodelp.proofs.cuts.place_of.Given as goal

abbrev pub invariant-loop-place : goal.invariant-loop-place
invariant-loop-place l = (k : ℕ) → take l.place l.cuts ++ put (l.cut, k) (drop l.place l.cuts) ≡ put (l.cut, k) l.cuts
