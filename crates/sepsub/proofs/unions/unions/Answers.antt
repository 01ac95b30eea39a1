use Rattle.std.proofs.Common.{◌≡◌, ◌<◌, ℕ, Bool, List, length, slice_index, pos, sym, ap, ◌∙◌, subst, arith}
use Rattle.std.specs.List.{All}
use Rattle.tspdef.specs.Sets.{has, IsProper}
use Rattle.cyc.specs.CitySet.{Members}
use Rattle.cyc.specs.Frac.{Values, AreEntries}
use Rattle.maxflow.specs.Crossings.{crossing_weight, crossing}
use Rattle.sepsub.specs.declared.groups.Numbered.{Numbered}
use Rattle.sepsub.specs.Growth.{IsLight, IsFoundOfAll}
use Rattle.sepsub.specs.Grouping.{IsNumbered, IsMapped, IsGroupNetwork}
use Rattle.sepsub.proofs.UnionLemmas.{least_union, mapped_away, mapped_weight, turned_crossed}
use Rattle.sepsub.proofs.unions.unions.Goals as goal

network_of : (x w : Values) (groups numbers : List ℕ) (g : Numbered) (count : ℕ) → IsNumbered x.n groups g → w.n ≡ count → count ≡ length g.firsts.items → numbers ≡ g.numbers.items
    → ((p : ℕ → Bool) → crossing_weight x (λ k. p (slice_index numbers k)) ≡ pos (crossing w.entries p)) → IsGroupNetwork x g w
network_of x w groups numbers g count numbered a b e weights = record {
  cities = a ∙ b;
  firsts = numbered.firsts;
  weights = subst (λ v. (p : ℕ → Bool) → crossing_weight x (λ k. p (slice_index v k)) ≡ pos (crossing w.entries p)) e weights;
}

pub with_home-requires : goal.with_home-requires
with_home-requires c =
    let network : IsGroupNetwork c.args.x.now c.args.numbered.now c.in_ok-network.network =
    network_of c.args.x.now c.in_ok-network.network c.args.groups.now c.deref.result.now c.args.numbered.now c.count-count.result c.requires.numbered
    c.in_ok-network.ensures.cities c.count-count.ensures c.deref.ensures.value c.in_ok-network.ensures.weights in
    let m : IsMapped c.args.x.now.n c.args.numbered.now.numbers.items c.in_ok-found.found.best.side c.in_ok-side.side =
    subst (λ m. IsMapped m c.args.numbered.now.numbers.items c.in_ok-found.found.best.side c.in_ok-side.side) c.n-n.ensures.value
    (subst (λ v. IsMapped c.n-n.result v c.in_ok-found.found.best.side c.in_ok-side.side) c.deref-2.ensures.value c.in_ok-side.ensures) in
    let a = c.in_ok-network.ensures.cities in
    let b = c.count-count.ensures in
    let many = c.requires.many in
    let some : 0 < c.in_ok-network.network.n = omega (arith, a, b, many) in
    subst (λ n. IsProper n c.in_ok-side.side.cities) (sym m.cities)
    (mapped_away c.args.x.now c.in_ok-network.network c.args.numbered.now c.in_ok-found.found.best.side c.in_ok-side.side some network c.in_ok-found.ensures.side m)

pub mapped-requires-clause-network : goal.mapped-requires-clause-network
mapped-requires-clause-network c = network_of c.args.x.now c.in_ok-network.network c.args.groups.now c.deref.result.now c.args.numbered.now c.count-count.result c.requires.numbered
    c.in_ok-network.ensures.cities c.count-count.ensures c.deref.ensures.value c.in_ok-network.ensures.weights

pub mapped-requires-clause-light : goal.mapped-requires-clause-light
mapped-requires-clause-light c =
    subst (λ (v : List Members). All (IsLight c.in_ok-network.network) v) (sym c.deref-3.ensures.value) c.in_ok-found.ensures.sets

pub returns-clause-candidate : goal.returns-clause-candidate
returns-clause-candidate c =
    let x = c.args.x.now in
    let w = c.in_ok-network.network in
    let g = c.args.numbered.now in
    let f = c.in_ok-found.found in
    let t = c.in_ok-set.ensures in
    let s = c.in_ok-set.set in
    let network : IsGroupNetwork x g w = network_of c.args.x.now c.in_ok-network.network c.args.groups.now c.deref.result.now c.args.numbered.now c.count-count.result c.requires.numbered
    c.in_ok-network.ensures.cities c.count-count.ensures c.deref.ensures.value c.in_ok-network.ensures.weights in
    let m : IsMapped x.n g.numbers.items f.best.side c.in_ok-side.side =
    subst (λ m. IsMapped m c.args.numbered.now.numbers.items c.in_ok-found.found.best.side c.in_ok-side.side) c.n-n.ensures.value
    (subst (λ v. IsMapped c.n-n.result v c.in_ok-found.found.best.side c.in_ok-side.side) c.deref-2.ensures.value c.in_ok-side.ensures) in
    let entries = c.entries-entries.ensures.entries in
    let found = c.in_ok-found.ensures in
    let many = c.in_ok-sets.ensures.many in
    let read = ap (λ (v : List Members). length v) c.deref-3.ensures.value in
    record {
      cities = t.cities ∙ m.cities;
      proper = subst (λ n. IsProper n s.cities) m.cities t.proper;
      home = t.home;
      crossed = turned_crossed x c.in_ok-side.side s f.best.value m.cities entries t (mapped_weight x w g f.best.side c.in_ok-side.side entries network m ∙ ap pos found.crossed);
      sets = c.in_ok-sets.ensures.light;
      some = λ h. (let l = found.some h in omega (arith, l, many, read));
    }

pub returns-clause-least : goal.returns-clause-least
returns-clause-least c =
    least_union c.args.x.now c.in_ok-network.network c.args.groups.now c.args.numbered.now c.in_ok-found.found c.entries-entries.ensures.entries c.requires.numbered
    (network_of c.args.x.now c.in_ok-network.network c.args.groups.now c.deref.result.now c.args.numbered.now c.count-count.result c.requires.numbered
    c.in_ok-network.ensures.cities c.count-count.ensures c.deref.ensures.value c.in_ok-network.ensures.weights) c.in_ok-found.ensures
