use Rattle.std.proofs.Common.{List, ℕ, take, refl, subst, inl, inr}
use Rattle.ports.specs.Outside.{BothTell}
use Rattle.ports.specs.Desk.{Adds}
use Rattle.ports.specs.declared.desk.Outlet.TheVariants as outlet
use Rattle.tspengine.proofs.usage.usage.Goals as goal

pub returns-in-Ok-clause-ends : goal.returns-in-Ok-clause-ends
returns-in-Ok-clause-ends g c = λ call kept.
    let a = g.D.Desk.told c.args.desk.now in
    let b = g.D.Desk.told c.write_all.new.desk in
    inl (refl, record { desk = subst (λ (x : List ℕ). BothTell (Adds outlet.Text x) a b) c.as_bytes.ensures.value c.in-Ok.ensures.all; slots = kept })

pub returns-in-Err-clause-ends : goal.returns-in-Err-clause-ends
returns-in-Err-clause-ends g c = λ call kept.
    let (k, less, front) = c.in-Err.ensures.front in
    let a = g.D.Desk.told c.args.desk.now in
    let b = g.D.Desk.told c.write_all.new.desk in
    inr (inl (refl, record { front = k; desk = subst (λ (x : List ℕ). BothTell (Adds outlet.Text (take k x)) a b) c.as_bytes.ensures.value front; slots = kept }))
