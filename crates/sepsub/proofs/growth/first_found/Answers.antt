use Rattle.std.proofs.Common.{◌<◌, List, length, sym, subst, arith}
use Rattle.std.specs.List.{All}
use Rattle.std.proofs.lemmas.List.Elements.{All-nil}
use Rattle.cyc.specs.CitySet.{Members}
use Rattle.sepsub.specs.Growth.{IsLight}
use Rattle.sepsub.proofs.GrowthLemmas.{least_more, least_at_first, side_is_away, with_light_are, with_light_some}
use Rattle.sepsub.proofs.growth.first_found.Goals as goal

pub returns : goal.returns
returns c =
    let w = c.args.network.now in
    let stops = c.args.stops.now in
    let best = c.in_ok-best.best in
    let l = c.in_ok-best.ensures in
    let some : 0 < w.n = (let m = c.n-n.ensures.many in let e = c.n-n.ensures.value in omega arith) in
    let none : All (IsLight w) c.new.result.items = subst (λ (v : List Members). All (IsLight w) v) (sym c.new.ensures.items) (All-nil (IsLight w)) in
    record {
      side = side_is_away w 1 stops best some c.requires.home l;
      crossed = l.crossed;
      least = least_more w 1 stops best.value best.value best.value (least_at_first w stops best.value c.requires.others) l.least (omega arith) (omega arith);
      sets = subst (λ (v : List Members). All (IsLight w) v) (sym c.in_ok-sets.ensures) (with_light_are w 1 stops best c.new.result.items some c.requires.home l none);
      some = λ h. subst (λ (v : List Members). 0 < length v) (sym c.in_ok-sets.ensures) (with_light_some c.new.result.items best h);
    }
