use Rattle.std.proofs.Common.{◌≡◌, ◌<◌, ℕ, List, Bool, length, true, subst, sym, arith}
use Rattle.maxflow.specs.Flows.{is_stop}
use Rattle.sepsub.proofs.GrowthLemmas.{found_of_all}
use Rattle.sepsub.proofs.growth.grown.Goals as goal

all_of : (n : ℕ) (stops read : List Bool) → read ≡ stops → length stops ≡ n → ((k : ℕ) → k < length read → is_stop read k ≡ true) → (k : ℕ) → k < n → is_stop stops k ≡ true
all_of n stops read e size all k h = subst (λ (v : List Bool). is_stop v k ≡ true) e (all k (subst (λ (v : List Bool). k < length v) (sym e) (omega arith)))

pub returns : goal.returns
returns c =
    let v = c.loop-t.invariant in
    found_of_all c.args.network.now c.loop-t.stops.items c.loop-t.found
    (all_of c.args.network.now.n c.loop-t.stops.items c.deref-in-loop-t.result.now c.deref-in-loop-t.ensures.value v.size c.in_default.ensures) v.so_far
