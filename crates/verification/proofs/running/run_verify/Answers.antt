use Rattle.std.proofs.Common.{map, string_bytes}
use Rattle.verification.proofs.Outcomes.{named_ends, call_ends, usage_ends, call_completes}
use Rattle.verification.proofs.running.run_verify.Goals as goal

pub returns-in-Ok-clause-answers : goal.returns-in-Ok-clause-answers
returns-in-Ok-clause-answers g c =
    let words = map string_bytes c.args.words.now in
    let a = g.D.Desk.told c.args.desk.now in
    let b = g.D.Desk.told c.verify.new.desk in
    call_ends words c.verify.result a b c.in-Ok.ensures.taken c.verify.ensures.status
    (named_ends words c.in-Ok.words c.verify.result a b c.in-Ok.ensures.says c.verify.ensures.answers)

pub returns-in-Ok-clause-complete : goal.returns-in-Ok-clause-complete
returns-in-Ok-clause-complete g c =
    let words = map string_bytes c.args.words.now in
    let a = g.D.Desk.told c.args.desk.now in
    let b = g.D.Desk.told c.verify.new.desk in
    λ calm still. call_completes words c.verify.result a b _ _ _ _
    (named_ends words c.in-Ok.words c.verify.result a b c.in-Ok.ensures.says c.verify.ensures.answers) c.verify.ensures.status
    c.verify.ensures.reads c.verify.ensures.writes calm still

pub returns-in-Err-Usage-clause-answers : goal.returns-in-Err-Usage-clause-answers
returns-in-Err-Usage-clause-answers g c =
    usage_ends (map string_bytes c.args.words.now) c.usage.result (g.D.Desk.told c.args.desk.now) (g.D.Desk.told c.usage.new.desk)
    (c.in-Err-Usage.ensures.usage (let is = c.in-Err-Usage.field-0-is in cc)) c.usage.ensures.status c.usage.ensures.usage c.usage.ensures.torn
