use Rattle.std.proofs.Common.{ℕ, List, arith}
use Rattle.flips.specs.Places.{read}
use Rattle.flips.proofs.Readings.{AreAt, places_apart, length-read, ahead_then, ahead_else, round_then, round_else}
use Rattle.flips.proofs.places.Places.between.Goals as goal
use Rattle.flips.proofs.places.Places.between.Goals.{After-place_of-r}

abbrev xs : (c : After-place_of-r) → List ℕ
xs c = read c.args.backward c.args.self.now.order.items

at : (c : After-place_of-r) → AreAt (xs c) c.place_of-p.result c.place_of-q.result c.place_of-r.result c.args.a c.args.b c.args.c
at c =
    let t = c.args.self.now in
    let s = length-read c.args.backward t.order.items in
    let z = t.order_size in
    record {
      apart = places_apart t c.args.backward;
      first_in = omega (arith, z, c.place_of-p.ensures.inside);
      second_in = omega (arith, z, c.place_of-q.ensures.inside);
      third_in = omega (arith, z, c.place_of-r.ensures.inside);
      first = c.place_of-p.ensures.value;
      second = c.place_of-q.ensures.value;
      third = c.place_of-r.ensures.value;
    }

pub returns-then-p-q : goal.returns-then-p-q
returns-then-p-q c = let here = (goal.at.returns-then-p-q c).After-place_of-r in ahead_then (xs here) _ _ _ _ _ _ (at here) c.if-p-r.true c.if-p-q.true

pub returns-else-p-q : goal.returns-else-p-q
returns-else-p-q c = let here = (goal.at.returns-else-p-q c).After-place_of-r in ahead_else (xs here) _ _ _ _ _ _ (at here) c.if-p-r.true c.if-p-q.false

pub returns-then-p-q-2 : goal.returns-then-p-q-2
returns-then-p-q-2 c = let here = (goal.at.returns-then-p-q-2 c).After-place_of-r in round_then (xs here) _ _ _ _ _ _ (at here) c.if-p-r.false c.if-p-q-2.true

pub returns-else-p-q-2 : goal.returns-else-p-q-2
returns-else-p-q-2 c = let here = (goal.at.returns-else-p-q-2 c).After-place_of-r in round_else (xs here) _ _ _ _ _ _ (at here) c.if-p-r.false c.if-p-q-2.false
