use Rattle.std.proofs.lemmas.List.Elements.{All-push}
use Rattle.sepblos.specs.Violated.{IsWorth}
use Rattle.intervalcombs.proofs.handles.combs_of.Goals as goal
use Rattle.intervalcombs.proofs.handles.combs_of.Goals.{in-Some-2+in_ok-push-2, in_default-2}

pub loop-city-preserved : goal.loop-city-preserved
loop-city-preserved c =
    let x = c.args.x.now in
    elim c.match-branch-8.branch [
      | in-Some-2+in_ok-push-2 w ↦
          let worth = rw w.in-Some-2.is at c.in_ok-cut-2.ensures in
          rw (w.cuts-is, w.in_ok-push-2.ensures.items) (All-push (IsWorth x) c.loop-city.cuts.items w.in-Some-2.cut c.loop-city.invariant worth)
      | in_default-2 w ↦ rw w.cuts-is c.loop-city.invariant
    ]
