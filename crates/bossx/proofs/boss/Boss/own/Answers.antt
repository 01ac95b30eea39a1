use Rattle.std.proofs.Common.{sym, subst}
use Rattle.bossx.specs.Steps.{Step}
use Rattle.bossx.proofs.Rows.{own_row}
use Rattle.bossx.proofs.boss.Boss.own.Goals as goal
use Rattle.bossx.specs.declared.events.Event.TheVariants as event
use Rattle.bossx.specs.declared.events.Reply.TheVariants as heard

pub returns : goal.returns
returns c =
    subst (Step c.args.self.now (event.Own c.args.node c.args.report) (heard.Reported c.judge-reply.result)) (sym c.conclude_own.ensures)
    (own_row c.args.self.now c.args.node c.args.report c.judge-reply.result c.judge-reply.ensures)
