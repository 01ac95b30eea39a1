use Rattle.std.proofs.Common.{◌≡◌, ◌<◌, length, Some, get_or, ap, sym, ◌∙◌, arith}
use Rattle.std.proofs.lemmas.Grind.{get_or_default_zero}
use Rattle.onetree.specs.OneTrees.{reduced}
use Rattle.onetree.specs.Growing.{marked, unmarked, AreNearest, IsLeastOut}
use Rattle.onetree.proofs.Growing.{all_marked, unmarked_set, step_front, front_written, step_pair, reduced-sym}
use Rattle.onetree.proofs.frontier.Frontier.step.Goals as goal

pub nearest-requires-clause-few : goal.nearest-requires-clause-few
nearest-requires-clause-few c = let f = c.requires.front in let l = c.deref.ensures.len in omega arith

pub unreachable-requires : goal.unreachable-requires
unreachable-requires c =
    let z = all_marked c.deref.result.now c.in_default.ensures in
    let e = ap unmarked c.deref.ensures.value in
    omega arith

pub returns-clause-front : goal.returns-clause-front
returns-clause-front c =
    let f = c.requires.front in
    let s = c.args.self.now in
    let city = c.in-Some.city in
    let is : IsLeastOut s.inside.items s.least.items (length s.inside.items) (Some city) = rw (← c.deref.ensures.value, ← c.deref-2.ensures.value) c.in-Some.ensures in
    let old : AreNearest c.args.instance.now.n (reduced c.args.instance.now c.args.duals.now) (marked s.inside.items) c.deref_mut.result.now c.deref_mut-2.result.now = rw (c.deref_mut.ensures.value, c.deref_mut-2.ensures.value) f.nearest in
    let l1 = c.relax.ensures.near in
    let l2 = c.relax.ensures.least in
    let m1 = c.deref_mut.ensures.len in
    let m2 = c.deref_mut-2.ensures.len in
    let n1 = ap length c.deref_mut.ensures.value in
    let n2 = ap length c.deref_mut-2.ensures.value in
    let k1 = f.cities in
    let k2 = f.costs in
    front_written c.args.instance.now.n (reduced c.args.instance.now c.args.duals.now) _ c.relax.new.near _ c.relax.new.least _ _ _ (omega arith) (omega arith)
    (step_front c.args.instance.now.n (reduced c.args.instance.now c.args.duals.now) s.inside.items s.near.items c.relax.new.near s.least.items c.relax.new.least city f is.0 l1 l2
    (c.relax.ensures.nearest (marked s.inside.items) old))

pub returns-clause-outside : goal.returns-clause-outside
returns-clause-outside c =
    let s = c.args.self.now in
    let is : IsLeastOut s.inside.items s.least.items (length s.inside.items) (Some c.in-Some.city) = rw (← c.deref.ensures.value, ← c.deref-2.ensures.value) c.in-Some.ensures in
    unmarked_set s.inside.items c.in-Some.city is.0 is.1

pub returns-clause-growing : goal.returns-clause-growing
returns-clause-growing c = λ tree g.
    let f = c.requires.front in
    let s = c.args.self.now in
    let is : IsLeastOut s.inside.items s.least.items (length s.inside.items) (Some c.in-Some.city) = rw (← c.deref.ensures.value, ← c.deref-2.ensures.value) c.in-Some.ensures in
    let inside = is.0 in
    let long1 = f.cities in
    let long2 = f.marks in
    let l : c.in-Some.city < length s.near.items = omega arith in
    let e : get_or s.near.items c.in-Some.city 0 ≡ c.index-from.result.now = sym (c.index-from.ensures ∙ get_or_default_zero _ _ _ l) in
    step_pair c.args.instance.now.n (reduced c.args.instance.now c.args.duals.now) s.inside.items s.near.items s.least.items c.in-Some.city c.index-from.result.now tree (reduced-sym c.args.instance.now c.args.duals.now) f is e g
