use Rattle.std.proofs.Common.{◌≡◌, ◌-◌, List, sym, subst, arith}
use Rattle.std.specs.Vec.{vec_len}
use Rattle.std.specs.List.{All}
use Rattle.std.proofs.lemmas.List.Elements.{All-push, All-take}
use Rattle.tspdef.specs.Sets.{has, IsProper}
use Rattle.cyc.specs.CitySet.{Members}
use Rattle.cyc.specs.Frac.{Values}
use Rattle.maxflow.specs.Crossings.{crossing}
use Rattle.sepsub.specs.Growth.{IsLight}
use Rattle.sepsub.proofs.components.all_but_one.Goals as goal

home_is_light : (w : Values) (home : Members) → home.n ≡ w.n → IsProper home.n home.cities → crossing w.entries (has home.cities) ≡ 0 → IsLight w home
home_is_light w home e p z = record {
  cities = e;
  proper = subst (λ n. IsProper n home.cities) e p;
  light = omega (arith, z);
}

pub returns-clause-light : goal.returns-clause-light
returns-clause-light c =
    let w = c.args.network.now in
    let q = c.requires in
    let left = subst (λ (v : List Members). All (IsLight w) v) (sym c.pop-left_out.ensures.rest) (All-take (IsLight w) (vec_len c.in_ok-sets.sets - 1) c.in_ok-sets.sets.items c.in_ok-sets.ensures) in
    subst (λ (v : List Members). All (IsLight w) v) (sym c.in_ok-push.ensures.items)
    (All-push (IsLight w) c.pop-left_out.new.self.items c.in_ok-copy.field-0 left
    (subst (IsLight w) (sym c.in_ok-copy.ensures) (home_is_light w c.args.home.now q.cities q.proper q.apart)))
