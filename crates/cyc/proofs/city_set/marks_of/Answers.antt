use Rattle.std.proofs.Common.{ap, ◌∙◌, ◌||◌, eqb, get_or, take, arith}
use Rattle.std.proofs.lemmas.List.{take_more}
use Rattle.cyc.proofs.ListLemmas.{set_below, below_at, has-push}
use Rattle.cyc.proofs.city_set.marks_of.Goals as goal

pub mark-requires : goal.mark-requires
mark-requires c =
    let h = below_at c.args.n c.args.cities.now c.loop-city.city-index 0 (set_below c.args.n 0 c.args.cities.now c.requires) c.loop-city-test.true in
    let r = c.loop-city.invariant.room in omega arith

pub loop-city-preserved : goal.loop-city-preserved
loop-city-preserved c = record {
  room = grind arith;
  marks = λ city.
      let xs = c.args.cities.now in
      let i = c.loop-city.city-index in
      rw (take_more xs i 0 c.loop-city-test.true, has-push (take i xs) (get_or xs i 0) city)
      (c.mark.ensures.marked city ∙ ap (λ b. eqb (get_or xs i 0) city || b) (c.loop-city.invariant.marks city));
}
