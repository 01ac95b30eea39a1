use Rattle.std.proofs.Common.{◌≡◌, ℕ, ◌-◌, ◌<◌, List, ◌∷◌, ◌++◌, vec_len}
use Rattle.tspdef.specs.Instances.{IsTourOf}
use Rattle.tspplain.specs.Values.{instance_of}
use Rattle.tspplain.specs.Searches.{IsTourIfAny, IsNoLonger, Improves}
use Rattle.tspplain.proofs.search.+extend.Given as goal

abbrev pub invariant-loop-city : goal.invariant-loop-city
invariant-loop-city l = record {
  same : l.front.items ≡ l.initial.front.items;
  tour : IsTourIfAny (instance_of l.instance) l.best;
  improves : Improves (instance_of l.instance) l.initial.best l.best;
  below : (c : ℕ) → c < l.city → (rest : List ℕ) → IsTourOf (instance_of l.instance) (l.front.items ++ c ∷ rest) → IsNoLonger (instance_of l.instance) l.best (l.front.items ++ c ∷ rest);
}

abbrev pub decreases-extend : goal.decreases-extend
decreases-extend l = l.instance.now.n - vec_len l.front.now
