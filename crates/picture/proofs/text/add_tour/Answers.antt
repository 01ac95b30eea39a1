use Rattle.std.proofs.Common.{List, ◌++◌, ap, ◌∙◌, arith}
use Rattle.std.specs.Prelude.{flat_map, string_bytes}
use Rattle.std.proofs.lemmas.List.{take_all}
use Rattle.picture.specs.Texts.{corner_of, tour_text}
use Rattle.picture.proofs.Chains.{when_ok, then_ok, between}
use Rattle.picture.proofs.text.add_tour.Goals as goal

pub returns : goal.returns
unfolding tour_text
returns c = then_ok c.push_str-2.result _ _ (when_ok c.push_str-2.result _ _ _ c.push_str-2.ensures.bytes) (λ last. between (string_bytes c.args.text.now) _ (flat_map (corner_of c.args.spots.now) c.args.tour.now) _ _ (string_bytes c.loop-place.text) _
    c.in_ok-push_str.ensures.bytes
    (c.loop-place.invariant ∙ ap (λ (ys : List _). string_bytes c.push_str.new.self ++ flat_map (corner_of c.args.spots.now) ys) (take_all c.loop-place.place c.args.tour.now (omega arith)))
    last)
