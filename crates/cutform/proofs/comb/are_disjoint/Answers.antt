use Rattle.std.proofs.Common.{◌≡◌, length, sym, subst, arith}
use Rattle.std.specs.List.{All}
use Rattle.std.proofs.lemmas.Grind.{common_steps}
use Rattle.cyc.specs.CitySet.{Members}
use Rattle.tspdef.specs.Sets.{IsSet}
use Rattle.cutform.proofs.SetLemmas.{disjoint-decided, all_from-each}
use Rattle.cutform.proofs.comb.are_disjoint.Goals as goal

pub meets_marked-requires-clause-sets : goal.meets_marked-requires-clause-sets
meets_marked-requires-clause-sets c =
    let long : length c.deref_mut.result.now ≡ c.args.n = grind (arith, common_steps) in
    subst (λ m. All (λ (t : Members). IsSet m t.cities) c.args.teeth.now) (sym long) (all_from-each (IsSet c.args.n) c.args.teeth.now c.requires)

pub returns : goal.returns
returns c = disjoint-decided _ c.meets_marked.result c.meets_marked.ensures
