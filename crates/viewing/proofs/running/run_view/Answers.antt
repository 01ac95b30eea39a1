use Rattle.std.proofs.Common.{map, string_bytes, subst, refl}
use Rattle.ports.specs.Outside.{BothTell}
use Rattle.viewing.specs.Words.{Paths}
use Rattle.viewing.specs.Runs.{Ends}
use Rattle.viewing.proofs.Outcomes.{call_completes, usage_ends}
use Rattle.viewing.proofs.running.run_view.Goals as goal

pub returns-in-Some-clause-complete : goal.returns-in-Some-clause-complete
returns-in-Some-clause-complete g c =
    let words = map string_bytes c.args.words.now in
    let a = g.D.Desk.told c.args.desk.now in
    let b = g.D.Desk.told c.view.new.desk in
    λ calm still. call_completes words c.view.result a b _ _ _ _ (c.in-Some.ensures.call.0 refl)
    (subst (λ (p : Paths). BothTell (Ends p c.view.result) a b) c.in-Some.ensures.paths c.view.ensures.answers) c.view.ensures.status
    c.view.ensures.reads c.view.ensures.writes calm still

pub returns-in-None-clause-answers : goal.returns-in-None-clause-answers
returns-in-None-clause-answers g c =
    usage_ends (map string_bytes c.args.words.now) c.usage.result (g.D.Desk.told c.args.desk.now) (g.D.Desk.told c.usage.new.desk)
    (λ is. let e = c.in-None.ensures.call.1 is in cc) c.usage.ensures.status c.usage.ensures.usage c.usage.ensures.torn
