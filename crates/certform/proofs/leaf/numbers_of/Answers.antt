use Rattle.std.proofs.Common.{ℕ, rules}
use Rattle.std.proofs.lemmas.List.Sorted.{IsNonDecreasingBy-from_sort_by_key}
use Rattle.certform.proofs.Permuting.{sorted_numbers}
use Rattle.certform.proofs.Loops.{cuts_in}
use Rattle.certform.proofs.leaf.numbers_of.Goals as goal

pub returns : goal.returns
returns c =
    sorted_numbers (cuts_in c.args.cuts.now.keys) c.args.duals.now c.loop-cut.numbers.items c.sort_unstable_by_key.new.self.items c.loop-cut.cut-index
    c.requires.listed c.requires.rising c.loop-cut-test.false c.loop-cut.invariant c.sort_unstable_by_key.ensures.permutation
    (IsNonDecreasingBy-from_sort_by_key (λ (q : ℕ × ℕ). q.0) _ c.sort_unstable_by_key.ensures.sorted (λ a r q k. search rules))
