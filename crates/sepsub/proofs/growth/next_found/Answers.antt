use Rattle.std.proofs.Common.{◌≤◌, ◌<◌, List, length, sym, subst, arith}
use Rattle.std.specs.List.{All}
use Rattle.cyc.specs.CitySet.{Members}
use Rattle.sepsub.specs.Growth.{IsLight}
use Rattle.sepsub.proofs.GrowthLemmas.{least_more, side_is_away, with_light_are, with_light_grows, with_light_some}
use Rattle.sepsub.proofs.growth.next_found.Goals as goal

pub returns-then-side-found : goal.returns-then-side-found
returns-then-side-found c =
    let w = c.args.network.now in
    let stops = c.args.stops.now in
    let side = c.in-Some.side in
    let l = (rw c.in-Some.is at c.in_ok-side.ensures).0 in
    let found = c.requires.so_far in
    let some : 0 < w.n = (let h = c.requires.inside in omega arith) in
    let less : side.value ≤ c.args.found.best.value = (let h = c.if-side-found.true in omega arith) in
    record {
      side = side_is_away w c.args.t stops side some c.requires.home l;
      crossed = l.crossed;
      least = least_more w c.args.t stops c.args.found.best.value side.value side.value found.least l.least less (omega arith);
      sets = subst (λ (v : List Members). All (IsLight w) v) (sym c.in_ok-sets-in-Some.ensures) (with_light_are w c.args.t stops side c.args.found.sets.items some c.requires.home l found.sets);
      some = λ h. subst (λ (v : List Members). 0 < length v) (sym c.in_ok-sets-in-Some.ensures) (with_light_some c.args.found.sets.items side h);
    }

pub returns-else-side-found : goal.returns-else-side-found
returns-else-side-found c =
    let w = c.args.network.now in
    let stops = c.args.stops.now in
    let side = c.in-Some.side in
    let l = (rw c.in-Some.is at c.in_ok-side.ensures).0 in
    let found = c.requires.so_far in
    let some : 0 < w.n = (let h = c.requires.inside in omega arith) in
    let less : c.args.found.best.value ≤ side.value = c.if-side-found.false in
    record {
      side = found.side;
      crossed = found.crossed;
      least = least_more w c.args.t stops c.args.found.best.value side.value c.args.found.best.value found.least l.least (omega arith) less;
      sets = subst (λ (v : List Members). All (IsLight w) v) (sym c.in_ok-sets-in-Some.ensures) (with_light_are w c.args.t stops side c.args.found.sets.items some c.requires.home l found.sets);
      some = λ h. subst (λ (v : List Members). 0 < length v) (sym c.in_ok-sets-in-Some.ensures) (with_light_grows c.args.found.sets.items side (found.some h));
    }

pub returns-in-None : goal.returns-in-None
returns-in-None c =
    let w = c.args.network.now in
    let stops = c.args.stops.now in
    let below = rw c.in-None.is at c.in_ok-side.ensures in
    let found = c.requires.so_far in
    let less : c.args.found.best.value ≤ c.max.result = (let e = c.max.ensures in omega arith) in
    record {
      side = found.side;
      crossed = found.crossed;
      least = least_more w c.args.t stops c.args.found.best.value c.max.result c.args.found.best.value found.least below (omega arith) less;
      sets = found.sets;
      some = found.some;
    }
