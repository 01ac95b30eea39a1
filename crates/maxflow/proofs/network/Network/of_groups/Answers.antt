use Rattle.std.proofs.Common.{◌≡◌, ◌<◌, ◌≤◌, ◌^◌, ℕ, Bool, List, ap, sym, ◌∙◌, slice_index, arith}
use Rattle.std.specs.Prelude.{pos}
use Rattle.cyc.specs.Frac.{AreEntries}
use Rattle.cyc.specs.declared.frac.Entry.{Entry}
use Rattle.std.specs.List.{All}
use Rattle.maxflow.specs.Crossings.{crossing, IsPair}
use Rattle.maxflow.proofs.CrossingLemmas.{crossing_small, entries_are_pairs, weight_by_entries}
use Rattle.maxflow.proofs.network.Network.of_groups.Goals as goal

pairs_of : (n m : ℕ) (es fs : List Entry) → m ≡ n → fs ≡ es → AreEntries n es → All (IsPair m) fs
pairs_of n m es fs d e a = rw (d, e) (entries_are_pairs n es a.each)

small_of : (n m : ℕ) (es fs pairs : List Entry) (p q : ℕ → Bool) → m ≡ n → m ≤ 2000 → fs ≡ es → AreEntries n es → crossing pairs p ≡ crossing fs q → crossing pairs p < 2 ^ 53
small_of n m es fs pairs p q d few e a same = rw (same, e) (crossing_small n es q (omega arith) a)

pub joined-requires-clause-pairs : goal.joined-requires-clause-pairs
joined-requires-clause-pairs c = pairs_of c.args.x.now.n c.n.result c.args.x.now.entries c.entries.result.now c.n.ensures.value c.entries.ensures.value c.entries.ensures.entries

pub invariant_of-result : goal.invariant_of-result
invariant_of-result c = record {
  many = c.requires.many;
  few = c.requires.few;
  within = c.in_ok-pairs.ensures.within;
  small = λ p. small_of c.args.x.now.n c.n.result c.args.x.now.entries c.entries.result.now c.in_ok-pairs.pairs.items p (λ k. p (slice_index c.args.numbers.now k))
      c.n.ensures.value c.n.ensures.few c.entries.ensures.value c.entries.ensures.entries (c.in_ok-pairs.ensures.crossings p);
}

pub returns-clause-weights : goal.returns-clause-weights
returns-clause-weights c = λ p.
    weight_by_entries c.args.x.now (λ k. p (slice_index c.args.numbers.now k)) c.entries.ensures.entries
    ∙ ap pos (sym (c.in_ok-pairs.ensures.crossings p ∙ ap (λ es. crossing es (λ k. p (slice_index c.args.numbers.now k))) c.entries.ensures.value))
