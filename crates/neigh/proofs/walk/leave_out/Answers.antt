use Rattle.std.proofs.Common.{◌≡◌, ◌<◌, length, slice_index, sym, ◌∙◌, ap, subst, arith}
use Rattle.std.proofs.lemmas.Grind.{get_or_default_zero}
use Rattle.tspdef.specs.Tours.{AreDistinct}
use Rattle.neigh.specs.Walk.{without}
use Rattle.neigh.proofs.WalkLemmas.{remove_without, without_none}
use Rattle.neigh.proofs.walk.leave_out.Goals as goal

pub returns-then-index-city : goal.returns-then-index-city
returns-then-index-city c =
    let rest = c.loop-place.rest.items in
    let place = c.loop-place.place in
    let same = c.loop-place.invariant.same in
    let within : place < length rest = grind arith in
    let is : slice_index rest place ≡ c.args.city = sym (c.index.ensures ∙ get_or_default_zero rest place c.index.result.now within) ∙ c.if-index-city.true in
    let distinct : AreDistinct rest = subst AreDistinct (sym same) c.requires in
    c.remove.ensures.items ∙ remove_without rest place distinct within ∙ ap (λ z. without z rest) is ∙ ap (λ xs. without c.args.city xs) same

pub returns : goal.returns
returns c =
    let rest = c.loop-place.rest.items in
    let same = c.loop-place.invariant.same in
    let end : length rest ≡ c.loop-place.place = grind arith in
    without_none rest c.args.city (λ j h. c.loop-place.invariant.none j (omega arith)) ∙ ap (λ xs. without c.args.city xs) same
