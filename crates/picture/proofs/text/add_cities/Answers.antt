use Rattle.std.proofs.Common.{ℕ, List, ◌++◌, length, ap, ◌∙◌, arith}
use Rattle.std.specs.Prelude.{flat_map, string_bytes}
use Rattle.std.proofs.lemmas.List.{take_all}
use Rattle.picture.specs.Texts.{dot_of, radius_of, cities_text}
use Rattle.picture.proofs.Chains.{when_ok, then_ok, between}
use Rattle.picture.proofs.text.add_cities.Goals as goal

pub returns : goal.returns
unfolding cities_text
returns c =
    let spots = c.args.spots.now in
    let tour = c.args.tour.now in
    then_ok c.push_str-2.result _ _ (when_ok c.push_str-2.result _ _ _ c.push_str-2.ensures.bytes) (λ last. between (string_bytes c.args.text.now) _ (flat_map (dot_of spots (radius_of (length tour))) tour) _ _ (string_bytes c.loop-place.text) _
    c.in_ok-push_str.ensures.bytes
    (c.loop-place.invariant
    ∙ (ap (λ (ys : List ℕ). string_bytes c.push_str.new.self ++ flat_map (dot_of spots c.radius-radius.result) ys) (take_all c.loop-place.place tour (omega arith))
    ∙ ap (λ (r : ℕ). string_bytes c.push_str.new.self ++ flat_map (dot_of spots r) tour) c.radius-radius.ensures))
    last)
