use Rattle.std.proofs.Common.{◌∙◌, sym}
use Rattle.verification.proofs.Tells.{on_ok}
use Rattle.verification.proofs.Judged.{checked, said}
use Rattle.verification.proofs.judging.judge.Goals as goal

pub returns-in-Ok-clause-desk : goal.returns-in-Ok-clause-desk
returns-in-Ok-clause-desk g c =
    let i = c.args.instance.now in
    let word = c.args.path.now in
    let a = g.D.Desk.told c.args.desk.now in
    let b = g.D.Desk.told c.bind_in.new.self in
    let d = g.D.Desk.told c.check.new.desk in
    let bound = on_ok c.bind_in.result (sym c.is_err.ensures.value ∙ c.if-is_err.false) c.bind_in.ensures.bound in
    let (k, taken) = c.check.ensures.taken in
    let checks = checked i word c.in-Ok.answer k a b d c.n-known.ensures.instance.many c.accepted_text_is_below.ensures bound
    c.in-Ok.ensures.judged c.in-Ok.ensures.accepted c.in-Ok.ensures.whole taken in
    said i word c.in-Ok.answer k c.say.result a d (g.D.Desk.told c.say.new.desk) checks c.say.ensures.status c.say.ensures.said c.say.ensures.torn c.say.ensures.silent
