use Rattle.std.proofs.Common.{◌≡◌, ◌≤◌, ◌<◌, ℕ, ◌∙◌, slice_index, length, subst, arith}
use Rattle.std.proofs.lemmas.Grind.{get_or_default_zero}
use Rattle.tspdef.specs.Sets.{has}
use Rattle.maxflow.specs.Shrinking.{in_group}
use Rattle.maxflow.proofs.ShrinkLemmas.{shrinks_alone, degrees_alone}
use Rattle.maxflow.proofs.shrinking.alone.Goals as goal

pub returns : goal.returns
returns c =
    let n = c.args.n in
    let es = c.args.entries.now in
    let groups = c.in_ok-groups.groups in
    let degrees = c.in_ok-degrees.degrees in
    let city = c.lightest-city.result in
    let e = c.in_ok-set.ensures in
    let size = c.in_ok-degrees.ensures.size in
    let same = c.deref.ensures.value in
    let inside : city < length degrees.items = subst (λ v. city < length v) same c.lightest-city.ensures.inside in
    let least : (k : ℕ) → k < length degrees.items → slice_index degrees.items city ≤ slice_index degrees.items k =
    subst (λ v. (k : ℕ) → k < length v → slice_index v city ≤ slice_index v k) same c.lightest-city.ensures.least in
    let best = c.index-best.ensures ∙ get_or_default_zero degrees.items city c.index-best.result.now inside in
    record {
      so_far = record {
        shrinking = shrinks_alone n es (record { groups = groups; best = c.index-best.result.now; set = c.in_ok-set.set }) degrees.items city c.requires.many c.requires.entries.each
            c.in_ok-groups.ensures.size c.in_ok-groups.ensures.each c.in_ok-degrees.ensures.values (omega (arith, inside, size)) (λ k h. least k (omega (arith, h, size))) best e.cities e.set
            (subst (λ v. (k : ℕ) → k < n → has c.in_ok-set.set.cities k ≡ in_group v city k) c.deref-2.ensures.value e.members);
        size = size;
        degrees = degrees_alone n es groups.items degrees.items c.requires.entries.each c.in_ok-groups.ensures.each c.in_ok-degrees.ensures.values;
      };
    }
