use Rattle.std.proofs.Common.{rules, arith, ◌+◌, sym, subst, ◌≡◌, ◌∙◌, List, ℕ, [], ◌∷◌, ◌++◌}
use Rattle.std.proofs.lemmas.Grind.{common_steps}
use Rattle.tspplain.specs.Values.{instance_of}
use Rattle.tspplain.specs.Searches.{IsBestFrom}
use Rattle.tspplain.proofs.SearchLemmas.{IsDoneBelow, done_by, done_already, all_done}
use Rattle.tspplain.proofs.search.+extend.Goals as goal
use Rattle.tspplain.proofs.search.+extend.Goals.{then-not-has+in_ok-push+in_ok-extend, else-not-has}

pub loop-city-preserved : goal.loop-city-preserved
loop-city-preserved t c =
    let i = instance_of c.args.instance.now in
    let front = c.loop-city.front.items in
    elim c.if-not-has.branch [
      | then-not-has+in_ok-push+in_ok-extend w ↦
          let pushed : w.push.new.self.items ≡ front ++ c.loop-city.city ∷ [] = grind (arith, common_steps) in
          let back : w.pop.new.self.items ≡ front = grind (arith, common_steps) in
          rw (w.front-is, w.best-is) (record {
            same = back ∙ c.loop-city.invariant.same;
            tour = w.in_ok-extend.ensures.tour;
            improves = λ tour h. w.in_ok-extend.ensures.improves tour (c.loop-city.invariant.improves tour h);
            below = subst (λ (xs : List ℕ). IsDoneBelow i w.extend.new.best xs (c.loop-city.city + 1)) (sym back)
                (done_by i c.loop-city.best w.extend.new.best front c.loop-city.city c.loop-city.invariant.below w.in_ok-extend.ensures.improves
                (subst (IsBestFrom i w.extend.new.best) pushed w.in_ok-extend.ensures.best));
          })
      | else-not-has w ↦ rw (w.front-is, w.best-is) (record {
        same = c.loop-city.invariant.same;
        tour = c.loop-city.invariant.tour;
        improves = c.loop-city.invariant.improves;
        below = done_already i c.loop-city.best front c.loop-city.city c.loop-city.invariant.below (search rules);
      })
    ]

pub returns-clause-best : goal.returns-clause-best
returns-clause-best t c =
    let i = instance_of c.args.instance.now in
    subst (IsBestFrom i c.loop-city.best) c.loop-city.invariant.same
    (all_done i c.loop-city.best c.loop-city.front.items c.loop-city.city (rw c.loop-city.invariant.same (omega arith)) c.loop-city-test.false c.loop-city.invariant.below)
