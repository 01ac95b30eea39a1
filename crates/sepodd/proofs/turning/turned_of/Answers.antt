use Rattle.std.proofs.Common.{rules, length, refl, ◌≡◌, List, [], ◌∷◌, subst, arith}
use Rattle.cyc.specs.declared.frac.Entry.{Entry}
use Rattle.sepodd.proofs.TurningLemmas.{AreTurnedSoFar, turned_next, turned_end}
use Rattle.sepodd.proofs.turning.turned_of.Goals as goal

nil_of : (xs : List Entry) → length xs ≡ 0 → xs ≡ []
nil_of [] h = refl
nil_of (x ∷ xs) h = absurd (omega (arith, h))

pub loop-entry-preserved : goal.loop-entry-preserved
loop-entry-preserved c =
    let parts : c.loop-entry.rest.now ≡ c.in-Some.entry.now ∷ c.in-Some.more.now = search rules in
    turned_next c.args.x.now c.args.entries.now c.in-Some.more.now c.in-Some.entry.now c.args.best.weight c.loop-entry.best c.in_ok-best.best
    (subst (λ (v : List Entry). AreTurnedSoFar c.args.x.now c.args.entries.now v c.args.best.weight c.loop-entry.best) parts c.loop-entry.invariant)
    c.in_ok-best.ensures.best c.in_ok-best.ensures.no_more c.in_ok-best.ensures.least

pub returns-clause-least : goal.returns-clause-least
returns-clause-least c =
    let done : c.loop-entry.rest.now ≡ [] = nil_of c.loop-entry.rest.now (search rules) in
    turned_end c.args.x.now c.args.entries.now c.args.best.weight c.loop-entry.best
    (subst (λ (v : List Entry). AreTurnedSoFar c.args.x.now c.args.entries.now v c.args.best.weight c.loop-entry.best) done c.loop-entry.invariant)
