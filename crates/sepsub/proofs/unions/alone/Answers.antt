use Rattle.std.proofs.Common.{ap, ◌∙◌, subst}
use Rattle.std.specs.Prelude.{pos}
use Rattle.tspdef.specs.Sets.{has, IsProper}
use Rattle.maxflow.proofs.CrossingLemmas.{weight_by_entries}
use Rattle.sepsub.proofs.UnionLemmas.{turned_crossed}
use Rattle.sepsub.proofs.unions.alone.Goals as goal

pub returns-clause-candidate : goal.returns-clause-candidate
returns-clause-candidate c =
    let x = c.args.x.now in
    let side = c.args.set in
    let t = c.in_ok-set.ensures in
    let s = c.in_ok-set.set in
    let q = c.requires in
    let entries = c.entries-entries.ensures.entries in
    record {
      cities = t.cities ∙ q.cities;
      proper = subst (λ n. IsProper n s.cities) q.cities t.proper;
      home = t.home;
      crossed = turned_crossed x side s c.args.weight q.cities entries t (weight_by_entries x (has side.cities) entries ∙ ap pos q.crossed);
      sets = c.in_ok-sets.ensures.sets;
      some = c.in_ok-sets.ensures.some;
    }
