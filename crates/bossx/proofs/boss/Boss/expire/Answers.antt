use Rattle.std.proofs.Common.{rules, sym, subst}
use Rattle.bossx.specs.declared.replies.Expiry.TheVariants.{Expired}
use Rattle.bossx.specs.Steps.{Step, expire_unknown, expire_ended, expire_lost}
use Rattle.bossx.proofs.boss.Boss.expire.Goals as goal
use Rattle.bossx.specs.declared.events.Event.TheVariants as event
use Rattle.bossx.specs.declared.events.Reply.TheVariants as heard

pub returns-then-lease-grants : goal.returns-then-lease-grants
returns-then-lease-grants c = expire_unknown c.args.lease (search rules)

pub returns-then-not-is_held : goal.returns-then-not-is_held
returns-then-not-is_held c = expire_ended c.args.lease (search rules) (search rules)

pub returns : goal.returns
returns c = subst (Step c.args.self.now (event.Expire c.args.lease) (heard.Expired Expired)) (sym c.lose.ensures) (expire_lost c.args.lease (search rules) (search rules))
