use Rattle.std.proofs.Common.{subst}
use Rattle.sepsub.specs.Grouping.{IsMapped}
use Rattle.sepsub.proofs.UnionLemmas.{mapped_light}
use Rattle.sepsub.proofs.unions.mapped_one.Goals as goal

pub returns : goal.returns
returns c =
    let x = c.args.x.now in
    let g = c.args.numbered.now in
    let side = c.args.set.now in
    let s = c.in_ok-cities.cities in
    mapped_light x c.args._network.now g side s c.entries-entries.ensures.entries c.requires.network c.requires.light
    (subst (λ m. IsMapped m g.numbers.items side s) c.n.ensures.value (subst (λ v. IsMapped c.n.result v side s) c.deref.ensures.value c.in_ok-cities.ensures))
