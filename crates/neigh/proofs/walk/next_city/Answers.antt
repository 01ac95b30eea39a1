use Rattle.std.proofs.Common.{◌≡◌, ◌<◌, ℕ, length, slice_index, sym, ◌∙◌, ap, subst, List}
use Rattle.std.proofs.lemmas.Bool.{eqb-true}
use Rattle.neigh.specs.Walk.{open_to}
use Rattle.neigh.proofs.WalkLemmas.{next_without_pairs, open_below}
use Rattle.neigh.proofs.walk.next_city.Goals as goal

pub returns-then-is_empty-clause-next : goal.returns-then-is_empty-clause-next
returns-then-is_empty-clause-next c =
    let i = c.args.instance.now in
    let none : length c.fixed.result.now ≡ 0 = eqb-true _ _ (sym c.is_empty.ensures ∙ c.if-is_empty.true) in
    let empty : length i.fixed ≡ 0 = ap length (sym c.fixed.ensures) ∙ none in
    c.nearest_city.ensures.nearest ∙ next_without_pairs i c.args.here c.args.rest.now empty

pub nearest_city-requires-2-clause-below : goal.nearest_city-requires-2-clause-below
nearest_city-requires-2-clause-below c =
    let i = c.args.instance.now in
    let is : c.deref.result.now ≡ open_to i c.args.here c.args.rest.now = c.deref.ensures.value ∙ c.in_ok-open_to.ensures in
    subst (λ (xs : List ℕ). (j : ℕ) → j < length xs → slice_index xs j < i.n) (sym is) (open_below i c.args.here c.args.rest.now c.requires.below)
