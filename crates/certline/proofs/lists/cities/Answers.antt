use Rattle.std.proofs.Common.{◌+◌, ◌≤◌, length, sym, ◌∙◌, subst, arith}
use Rattle.std.proofs.lemmas.Bool.{eqb-true}
use Rattle.certline.proofs.Runs.{CitiesRead, city_read, city_stuck, city_same, cities_rise, only_cities, some_left}
use Rattle.certline.proofs.lists.cities.Goals.{then-city-least-via-then-city-least, then-city-least-via-else-city-least+then-city-from}
use Rattle.certline.proofs.lists.cities.Goals as goal

pub returns-in_default-clause-none : goal.returns-in_default-clause-none
returns-in_default-clause-none c s b e =
    city_stuck c.args.n c.args.tail.now c.loop-rest.rest.now c.loop-rest.cities.items c.loop-rest.least s (omega arith) (some_left c.loop-rest.rest.now (sym c.is_empty.ensures ∙ c.loop-rest-test.true)) c.in_default.ensures.none c.loop-rest.invariant.read b e

pub returns-then-city-least-clause-none : goal.returns-then-city-least-clause-none
returns-then-city-least-clause-none c s b e =
    let k = city_same c.args.n c.args.tail.now c.loop-rest.rest.now c.loop-rest.cities.items c.loop-rest.least s c.in-Some.city c.in-Some.more.now (omega arith) c.in-Some.ensures.some c.loop-rest.invariant.read b e in
    let low = k.0 in
    let high = k.1 in
    elim c.then-city-least.branch [
      | then-city-least-via-then-city-least w ↦ omega (arith, w.if-city-least.true, low)
      | then-city-least-via-else-city-least+then-city-from w ↦ omega (arith, w.if-city-from.true, w.from.ensures, high)
    ]

pub loop-rest-preserved : goal.loop-rest-preserved
loop-rest-preserved c =
    let most : c.in-Some.city ≤ c.args.n = omega (arith, c.if-city-from.false, c.from.ensures) in
    record {
      read = subst (λ read. CitiesRead c.args.n c.args.tail.now c.in-Some.more.now read (c.in-Some.city + 1)) (sym c.in_ok-push.ensures.items)
          (city_read c.args.n c.args.tail.now c.loop-rest.rest.now c.loop-rest.cities.items c.loop-rest.least c.in-Some.city c.in-Some.more.now (omega arith) c.in-Some.ensures.some c.if-city-least.false most c.loop-rest.invariant.read);
      few = omega arith;
    }

pub returns-clause-rise : goal.returns-clause-rise
returns-clause-rise c = cities_rise c.args.n c.args.tail.now c.loop-rest.rest.now c.loop-rest.cities.items c.loop-rest.least c.loop-rest.invariant.read

pub returns-clause-only : goal.returns-clause-only
returns-clause-only c s b e = only_cities c.args.n c.args.tail.now c.loop-rest.rest.now c.loop-rest.cities.items c.loop-rest.least s (eqb-true (length c.loop-rest.rest.now) 0 (sym c.is_empty.ensures ∙ c.loop-rest-test.false)) c.loop-rest.invariant.read b e
