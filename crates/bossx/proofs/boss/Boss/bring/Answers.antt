use Rattle.std.proofs.Common.{rules, ℕ, ◌≡◌, ◌<◌, length, sym, subst}
use Rattle.bossx.specs.Books.{node_of}
use Rattle.bossx.specs.Judging.{IsJudged}
use Rattle.bossx.specs.Steps.{Step, report_unknown}
use Rattle.bossx.proofs.Rows.{reported_row}
use Rattle.bossx.proofs.boss.Boss.bring.Goals as goal
use Rattle.bossx.specs.declared.events.Event.TheVariants as event
use Rattle.bossx.specs.declared.events.Reply.TheVariants as heard

pub returns-then-lease-grants : goal.returns-then-lease-grants
returns-then-lease-grants c = report_unknown c.args.lease c.args.brought (search rules)

pub conclude-requires-clause-judged : goal.conclude-requires-clause-judged
conclude-requires-clause-judged c =
    let at : c.node_of-node.result ≡ node_of c.args.self.now c.args.lease = search rules in
    subst (λ (n : ℕ). IsJudged c.args.self.now n c.args.brought c.judge-reply.result) at c.judge-reply.ensures

pub returns : goal.returns
returns c =
    let b = c.args.self.now in
    let known : c.args.lease < length b.table.leases = search rules in
    let at : c.node_of-node.result ≡ node_of b c.args.lease = search rules in
    subst (Step b (event.Report c.args.lease c.args.brought) (heard.Reported c.judge-reply.result)) (sym c.conclude.ensures)
    (reported_row b c.args.lease c.args.brought c.judge-reply.result known (subst (λ (n : ℕ). IsJudged b n c.args.brought c.judge-reply.result) at c.judge-reply.ensures))
