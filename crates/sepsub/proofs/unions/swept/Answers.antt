use Rattle.std.proofs.Common.{◌<◌, ◌≤◌, length, sym, ◌∙◌, subst, arith}
use Rattle.sepsub.specs.Grouping.{IsNumbered, IsLeastUnion}
use Rattle.sepsub.proofs.UnionLemmas.{least_of_two, least_by_groups, union_less}
use Rattle.sepsub.proofs.unions.swept.Goals as goal

pub returns-then-len-lt3-clause-least : goal.returns-then-len-lt3-clause-least
returns-then-len-lt3-clause-least c =
    let x = c.args.x.now in
    let s = c.args.shrunk in
    let g = c.in_ok-numbered.numbered in
    let entries = c.entries-entries.ensures.entries in
    let e = c.in_ok-alone.ensures in
    let q = e.candidate in
    let v = e.value in
    let numbered : IsNumbered x.n s.groups.items g = subst (λ m. IsNumbered m s.groups.items g) c.n-n.ensures.value (subst (λ l. IsNumbered c.n-n.result l g) c.deref.ensures.value c.in_ok-numbered.ensures) in
    let few : length g.firsts.items < 3 = (let l = c.len.ensures in let t = c.if-len-lt3.true in omega (arith, l, t)) in
    least_by_groups x s c.in_ok-alone.alone.least entries c.requires.shrunk q.cities q.proper q.home q.crossed (omega (arith, v))
    (subst (λ w. IsLeastUnion x s.groups.items w) (sym v) (least_of_two x s g entries c.requires.shrunk numbered few))

pub returns-clause-least : goal.returns-clause-least
returns-clause-least c =
    let x = c.args.x.now in
    let s = c.args.shrunk in
    let e = c.in_ok-both.ensures in
    let q = e.candidate in
    let v = c.in_ok-alone.ensures.value in
    let first = e.first in
    least_by_groups x s c.in_ok-both.both.least c.entries-entries.ensures.entries c.requires.shrunk q.cities q.proper q.home q.crossed (omega (arith, first, v))
    (union_less x s.groups.items c.in_ok-unions.unions.least.weight c.in_ok-both.both.least.weight e.second
    (subst (λ l. IsLeastUnion x l c.in_ok-unions.unions.least.weight) c.deref-2.ensures.value c.in_ok-unions.ensures.least))
