use Rattle.std.proofs.Common.{◌≡◌, ◌∙◌, subst, arith}
use Rattle.maxflow.specs.Crossings.{crossing}
use Rattle.maxflow.specs.Shrinking.{in_group}
use Rattle.maxflow.specs.Merging.{IsLighterOf}
use Rattle.maxflow.proofs.ShrinkLemmas.{AreMerged, shrinks_on, degrees_merged, first_merged, untied_merged, merged_less}
use Rattle.maxflow.proofs.shrinking.merged.Goals as goal
use Rattle.maxflow.proofs.shrinking.merged.Goals.{In_ok-best}

merge : (c : In_ok-best) → AreMerged c.args.n c.args.merging.shrunk.groups.items c.merged-groups.result.items c.args.one c.args.other
merge c =
    let q = c.requires in
    let size = q.so_far.shrinking.groups.all in
    record {
      groups = q.so_far.shrinking.groups;
      first = q.tied.first;
      second = q.tied.second;
      before = q.tied.before;
      size = c.merged-groups.ensures.size ∙ size;
      each = λ k h. c.merged-groups.ensures.each k (omega (arith, h, size));
    }

weight : (c : In_ok-best) → c.weight_of-weight.result ≡ crossing c.args.entries.now (in_group c.merged-groups.result.items c.args.one)
weight c = subst (λ v. c.weight_of-weight.result ≡ crossing c.args.entries.now (in_group v c.args.one)) c.deref.ensures.value c.weight_of-weight.ensures.value

pub returns-clause-now : goal.returns-clause-now
returns-clause-now c =
    let q = c.requires in
    let old = c.args.merging.shrunk in
    let now = c.merged-groups.result in
    let d = c.with_degree-degrees.ensures in
    record {
      shrinking = shrinks_on c.args.n c.args.entries.now old (record { groups = now; best = c.in_ok-best.best; set = c.in_ok-best.set }) c.args.one c.args.other c.weight_of-weight.result
          q.entries.each q.so_far.shrinking (merge c) q.tied.tied (weight c)
          (subst (λ v. IsLighterOf c.args.n v c.args.one c.weight_of-weight.result old.best old.set c.in_ok-best.best c.in_ok-best.set) c.deref-2.ensures.value c.in_ok-best.ensures);
      size = d.size ∙ q.so_far.size;
      degrees = degrees_merged c.args.n c.args.entries.now old.groups.items now.items c.args.one c.args.other c.args.merging.degrees.items c.with_degree-degrees.result.items
          q.entries.each (merge c) q.so_far.degrees (d.here ∙ weight c) d.others;
    }

pub returns-clause-below : goal.returns-clause-below
returns-clause-below c = λ city below.
    untied_merged c.args.n c.args.entries.now c.args.merging.shrunk.groups.items c.merged-groups.result.items c.args.one c.args.other city c.args.at
    c.requires.entries.each (merge c) c.requires.tied.either below

pub returns-clause-first : goal.returns-clause-first
returns-clause-first c = first_merged c.args.n c.args.merging.shrunk.groups.items c.merged-groups.result.items c.args.one c.args.other (merge c)

pub returns-clause-fewer : goal.returns-clause-fewer
returns-clause-fewer c = merged_less c.args.n c.args.merging.shrunk.groups.items c.merged-groups.result.items c.args.one c.args.other (merge c)
