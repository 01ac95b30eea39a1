use Rattle.std.proofs.Common.{ℕ, arith, eqb}
use Rattle.std.specs.Prelude.{slice_index, slice_index_or, Bool}
use Rattle.std.proofs.lemmas.Bool.{eq-eqb, ne_eqb}
use Rattle.pricer.proofs.DegreeLemmas.{set_push, set_wider, member_more, member_same}
use Rattle.pricer.proofs.rays.labelled_as_first.Goals as goal
use Rattle.pricer.proofs.rays.labelled_as_first.Goals.{then-labels-city+in_ok-push, else-labels-city}

pub loop-city-preserved : goal.loop-city-preserved
loop-city-preserved c =
    let q : ℕ → Bool = λ k. eqb (slice_index c.args.labels.now k) (slice_index_or c.args.labels.now 0 0) in
    let city = c.loop-city.city in
    let xs = c.loop-city.cities.items in
    elim c.if-labels-city.branch [
      | then-labels-city+in_ok-push w ↦ record {
        set = rw (w.cities-is, w.in_ok-push.ensures.items) (set_push city 0 xs (omega arith) c.loop-city.invariant.set);
        members = λ k. rw (w.cities-is, w.in_ok-push.ensures.items) (member_more xs q city k (eq-eqb _ _ w.if-labels-city.true) (c.loop-city.invariant.members k));
      }
      | else-labels-city w ↦ record {
        set = rw w.cities-is (set_wider city 0 xs c.loop-city.invariant.set);
        members = λ k. rw w.cities-is (member_same xs q city k (ne_eqb _ _ w.if-labels-city.false) (c.loop-city.invariant.members k));
      }
    ]
