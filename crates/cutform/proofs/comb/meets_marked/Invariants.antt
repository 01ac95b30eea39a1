use Rattle.std.proofs.Common.{◌≡◌, ℕ, false, take, slice_index_or}
use Rattle.cutform.specs.Cut.{cities_of_each}
use Rattle.cutform.specs.Combs.{any_two_meet}
use Rattle.cutform.proofs.SetLemmas.{in_any}
use Rattle.cutform.proofs.comb.meets_marked.Given as goal

abbrev pub invariant-loop-tooth : goal.invariant-loop-tooth
invariant-loop-tooth l = record {
  marked : (c : ℕ) → slice_index_or l.marks c false ≡ in_any (cities_of_each (take l.tooth-index l.teeth)) c;
  apart : any_two_meet (cities_of_each (take l.tooth-index l.teeth)) ≡ false;
}
