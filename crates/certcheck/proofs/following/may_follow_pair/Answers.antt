use Rattle.std.proofs.Common.{◌∙◌, ◌+◌}
use Rattle.certcheck.proofs.FollowLemmas.{pair_follows}
use Rattle.certcheck.proofs.following.may_follow_pair.Goals as goal

pub returns-in-Some : goal.returns-in-Some
returns-in-Some c = c.is_behind.ensures ∙ pair_follows c.args.list.now c.in-Some.last.now (c.args.u + 1, c.args.v + 1) c.in-Some.ensures.item.3.0 c.in-Some.ensures.value
