use Rattle.std.proofs.Common.{List, ℕ, take, refl, subst}
use Rattle.ports.specs.Outside.{BothTell}
use Rattle.ports.specs.Desk.{Adds}
use Rattle.ports.specs.declared.desk.Outlet.TheVariants as outlet
use Rattle.tspengine.specs.Calls.{on_desk}
use Rattle.tspengine.specs.declared.statuses.Status.TheVariants as status
use Rattle.tspengine.proofs.Tours.{toured, torn_tour}
use Rattle.tspengine.proofs.touring.print_tour.Goals as goal

pub returns-in-Ok-clause-ends : goal.returns-in-Ok-clause-ends
returns-in-Ok-clause-ends g c = λ call i touring kept read.
    let a = g.D.Desk.told c.args.desk.now in
    let b = g.D.Desk.told c.write_all.new.desk in
    toured status.Toured (on_desk call.before.desk b call) i c.args.text.now a refl touring kept read
    (subst (λ (x : List ℕ). BothTell (Adds outlet.Text x) a b) c.as_bytes.ensures.value c.in-Ok.ensures.all)

pub returns-in-Err-clause-ends : goal.returns-in-Err-clause-ends
returns-in-Err-clause-ends g c = λ call i touring kept read.
    let (k, less, front) = c.in-Err.ensures.front in
    let a = g.D.Desk.told c.args.desk.now in
    let b = g.D.Desk.told c.write_all.new.desk in
    torn_tour status.WriteFault (on_desk call.before.desk b call) i c.args.text.now k a refl touring kept read
    (subst (λ (x : List ℕ). BothTell (Adds outlet.Text (take k x)) a b) c.as_bytes.ensures.value front)
