use Rattle.std.proofs.Common.{inr, refl}
use Rattle.maxflow.proofs.ShrinkLemmas.{tied_turned}
use Rattle.maxflow.proofs.groups.tie.Goals as goal

pub returns-in-Some : goal.returns-in-Some
returns-in-Some c =
    let t = rw c.in-Some.is at c.in_ok-b.ensures in
    record {
      first = t.0;
      second = c.requires.first;
      before = c.if-b-a.true;
      tied = tied_turned c.args.entries.now c.args.groups.now c.args.a c.in-Some.b t.1.0 t.1.1;
      either = inr refl;
    }
