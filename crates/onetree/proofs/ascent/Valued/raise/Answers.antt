use Rattle.std.proofs.Common.{◌<◌, ℕ, List, true, false, ap, sym, subst, ◌∙◌, arith}
use Rattle.onetree.specs.OneTrees.{degree}
use Rattle.onetree.specs.Ascents.{HasValue}
use Rattle.onetree.proofs.Changes.{stiller, has_as, rest_as, still_side, still_as, not_true}
use Rattle.onetree.proofs.ascent.Valued.raise.Goals as goal

pub turns-requires-clause-value : goal.turns-requires-clause-value
turns-requires-clause-value c =
    let l = c.loop-city.invariant in
    subst (λ h. HasValue c.args.instance.now c.loop-city.self.duals.items h) (sym l.same) (has_as c.args.instance.now c.loop-city.self.duals.items c.args.self.now.duals.items c.args.self.now.value c.requires l.duals)

pub loop-city-preserved : goal.loop-city-preserved
loop-city-preserved c =
    let i = c.args.instance.now in
    let l = c.loop-city.invariant in
    let here : c.loop-city.city < i.n = let e = c.n-city-end.ensures.same in let t = c.loop-city-test.true in omega arith in
    let t = c.in_ok-tree.ensures in
    let no = not_true c.in_ok-turns.field-0 c.if-branch.false in
    let leaf = λ (d : c.degree_of-degree.result < 2). still_as i c.loop-city.self.duals.items c.args.self.now.duals.items c.loop-city.self.value c.args.self.now.value c.loop-city.city true l.duals l.same (c.in_ok-turns.ensures.leaf no d) in
    let hub = λ (d : 2 < c.degree_of-degree.result). still_as i c.loop-city.self.duals.items c.args.self.now.duals.items c.loop-city.self.value c.args.self.now.value c.loop-city.city false l.duals l.same (c.in_ok-turns.ensures.hub no d) in
    let sides = still_side i c.args.self.now.duals.items c.deref.result.now c.args.self.now.value c.in_ok-tree.tree.weight c.loop-city.city c.degree_of-degree.result c.in_ok-tree.tree.pairs.items c.requires here c.deref.ensures.value
    (c.degree_of-degree.ensures ∙ ap (λ (es : List (ℕ × ℕ)). degree c.loop-city.city es) c.deref-in-loop-city.ensures.value) t.tree t.weight t.least leaf hub in
    record { duals = c.in_ok-turns.ensures.duals no ∙ l.duals; same = c.in_ok-turns.ensures.same no ∙ l.same; still = stiller i c.args.self.now.duals.items c.args.self.now.value c.loop-city.city l.still sides.0 sides.1 }

pub returns-clause-rest : goal.returns-clause-rest
returns-clause-rest c = λ no k up l. rest_as c.args.instance.now c.loop-city.self.duals.items c.args.self.now.duals.items c.loop-city.self.value c.args.self.now.value c.loop-city.invariant.duals c.loop-city.invariant.same (λ v u m. c.loop-city.invariant.still v u (let e = c.n-city-end.ensures.same in let t = c.loop-city-test.false in omega arith)) k up l
