use Rattle.std.proofs.Common.{List, ℕ, sym, subst}
use Rattle.std.specs.Prelude.{Option, IfSome}
use Rattle.tspdef.specs.Instances.{IsTourOf}
use Rattle.tspround.specs.Alone.{IsOffered}
use Rattle.tspround.proofs.Runs.{offers_none, offers_some}
use Rattle.tspround.proofs.searching.offer.Goals as goal

pub returns-in-Some : goal.returns-in-Some
returns-in-Some c =
    let b = c.args.boss.now in
    let is = subst (λ (o : Option (List ℕ)). IfSome o (IsTourOf b.instance)) c.in-Some.is c.requires in
    subst (λ (o : Option (List ℕ)). IsOffered o b c.offer.new.self) (sym c.in-Some.is)
    (offers_some c.events_have_no_choice.ensures.step b c.offer.new.self c.in-Some.tour c.offer.result is c.offer.ensures)

pub returns-in_default : goal.returns-in_default
returns-in_default c = subst (λ (o : Option (List ℕ)). IsOffered o c.args.boss.now c.args.boss.now) (sym c.in_default.is) (offers_none c.args.boss.now)
