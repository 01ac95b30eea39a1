use Rattle.std.proofs.Common.{◌≡◌, ap, sym, ◌∙◌, ◌||◌, false, eqb, get_or, take, arith}
use Rattle.std.proofs.lemmas.List.{take_more}
use Rattle.tspdef.specs.Sets.{has}
use Rattle.cyc.proofs.ListLemmas.{below_at, distinct_at, has-push, below_push, distinct_push}
use Rattle.cyc.proofs.tour.are_apart.Goals as goal
use Rattle.cyc.proofs.tour.are_apart.Goals.{then-city-n-via-then-city-n, then-city-n-via-else-city-n+then-is_marked}

pub returns-then-city-n : goal.returns-then-city-n
returns-then-city-n c = (
  λ e. cc,
  λ apart.
      let xs = c.args.cities.now in
      let i = c.loop-city.city-index in
      let below = below_at c.args.n xs i 0 apart.below c.loop-city-test.true in
      let fresh = distinct_at xs i 0 apart.distinct c.loop-city-test.true in
      elim c.then-city-n.branch [
        | then-city-n-via-then-city-n w ↦ absurd (omega arith)
        | then-city-n-via-else-city-n+then-is_marked w ↦ sym fresh ∙ sym (c.loop-city.invariant.marks (get_or xs i 0)) ∙ sym w.is_marked.ensures ∙ w.if-is_marked.true
      ],
)

pub loop-city-preserved : goal.loop-city-preserved
loop-city-preserved c =
    let xs = c.args.cities.now in
    let i = c.loop-city.city-index in
    let city = get_or xs i 0 in
    let more = take_more xs i 0 c.loop-city-test.true in
    let inv = c.loop-city.invariant in
    let none : has (take i xs) city ≡ false = sym (inv.marks city) ∙ sym c.is_marked.ensures ∙ c.if-is_marked.false in
    record {
      room = grind arith;
      marks = λ other. rw (more, has-push (take i xs) city other) (c.mark.ensures.marked other ∙ ap (λ b. eqb city other || b) (inv.marks other));
      apart = rw more (record { below = below_push c.args.n (take i xs) city inv.apart.below (omega arith); distinct = distinct_push (take i xs) city inv.apart.distinct none });
    }
