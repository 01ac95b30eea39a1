use Rattle.std.proofs.Common.{◌∙◌, arith}
use Rattle.cutform.proofs.SetLemmas.{marked-more}
use Rattle.sepblos.proofs.MarkLemmas.{marked-past}
use Rattle.sepblos.proofs.marks.mark.Goals as goal
use Rattle.sepblos.proofs.marks.mark.Goals.{then-city-marks, else-city-marks}

pub loop-city-preserved : goal.loop-city-preserved
loop-city-preserved c =
    let old = c.args.marks.now in
    let marks = c.loop-city.marks in
    let xs = c.args.cities.now in
    let i = c.loop-city.city-index in
    let inv = c.loop-city.invariant in
    let same = inv.long in
    elim c.if-city-marks.branch [
      | then-city-marks w ↦ record {
        long = c.if-city-marks.auto.marks ∙ inv.long;
        marked = λ k l. rw w.marks-is (marked-more old marks xs i k c.loop-city-test.true w.if-city-marks.true (inv.marked k l));
      }
      | else-city-marks w ↦ record {
        long = c.if-city-marks.auto.marks ∙ inv.long;
        marked = λ k l. rw w.marks-is (marked-past old marks xs i k c.loop-city-test.true (λ e. let far = w.if-city-marks.false in omega (arith, e, l, same, far)) (inv.marked k l));
      }
    ]
