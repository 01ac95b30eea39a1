use Rattle.tapeboss.proofs.ReadLemmas.{follows}
use Rattle.tapeboss.proofs.content.may_follow_city.Goals as goal

pub returns-in-Some : goal.returns-in-Some
returns-in-Some c = follows c.args.list.now c.in-Some.last.now c.args.next c.in-Some.ensures.item.3.0 c.in-Some.ensures.value
