use Rattle.std.proofs.Common.{◌≡◌, ◌<◌, ◌≤◌, ℕ}
use Rattle.std.specs.Prelude.{slice_index}
use Rattle.pricer.specs.Rays.{relabelled}
use Rattle.pricer.proofs.rays.relabel.Given as goal

abbrev pub invariant-loop-label : goal.invariant-loop-label
invariant-loop-label l = record {
  below : (v : ℕ) → v < l.label-index → slice_index l.labels v ≡ relabelled l.initial.labels l.from l.to v;
  above : (v : ℕ) → l.label-index ≤ v → slice_index l.labels v ≡ slice_index l.initial.labels v;
}
