use Rattle.std.proofs.Common.{ℕ, List, subst}
use Rattle.ports.specs.Outside.{BothTell}
use Rattle.viewing.specs.Showing.{Judges}
use Rattle.viewing.proofs.Steps.{judged}
use Rattle.viewing.proofs.showing.show.Goals as goal

pub returns-in-Ok-clause-desk : goal.returns-in-Ok-clause-desk
returns-in-Ok-clause-desk g c =
    let i = c.args.mapped.now.instance in
    let out = c.args.paths.out.now in
    let b = g.D.Desk.told c.read_text.new.desk in
    let d = g.D.Desk.told c.judge.new.desk in
    judged i c.args.paths.text.now out c.in-Ok.bytes.items c.judge.result (g.D.Desk.told c.args.desk.now) b d c.in-Ok.ensures.reading
    (subst (λ (w : List ℕ). BothTell (Judges i w out c.judge.result) b d) c.deref.ensures.value c.judge.ensures.desk)
