use Rattle.std.proofs.Common.{◌∙◌, sym, map}
use Rattle.std.specs.Ordering.{nat_cmp, ordering_then}
use Rattle.std.specs.Cmp.Lexicographic.{slice_cmp}
use Rattle.tspdef.specs.Cuts.{pair_set}
use Rattle.cutform.specs.Cut.{cities_of_each}
use Rattle.cutform.proofs.OrderLemmas.{compared_kinds, compared_alike}
use Rattle.cutform.proofs.cut.CutOrd.cmp.Goals as goal

pub returns-then-is_ne : goal.returns-then-is_ne
returns-then-is_ne c =
    compared_kinds _ _ _ _ _ _ _ _ c.args.self.now c.args.other.now c.self.invariant c.other.invariant c.self.view_is c.other.view_is
    c.cmp-order.result (c.cmp-order.ensures ∙ (λ i. nat_cmp (c.rank.ensures i) (c.rank-2.ensures i))) (sym c.is_ne.ensures ∙ c.if-is_ne.true)

pub returns : goal.returns
returns c =
    let sets = c.compare_sets.ensures ∙ (λ i. slice_cmp (slice_cmp nat_cmp) (cities_of_each (c.listed.ensures i)) (cities_of_each (c.listed-2.ensures i))) in
    let pairs = c.compare_pairs.ensures ∙ (λ i. slice_cmp (slice_cmp nat_cmp) (map pair_set (c.deref.ensures.value i)) (map pair_set (c.deref-2.ensures.value i))) in
    compared_alike _ _ _ _ _ _ _ _ c.args.self.now c.args.other.now c.self.invariant c.other.invariant c.self.view_is c.other.view_is
    c.cmp-order.result c.then-2.result (c.cmp-order.ensures ∙ (λ i. nat_cmp (c.rank.ensures i) (c.rank-2.ensures i))) (sym c.is_ne.ensures ∙ c.if-is_ne.false)
    (c.then-2.ensures ∙ (λ i. ordering_then ((c.then.ensures ∙ (λ j. ordering_then (sets j) (pairs j))) i) (c.cmp.ensures i)))
