use Rattle.tspengine.proofs.Beginnings.{offered_search}
use Rattle.tspengine.proofs.starting.go_on.Goals as goal

pub returns : goal.returns
returns c =
    let i = c.args.instance.now in
    let b = c.in_ok-boss.boss in
    let is = c.in_ok-boss.ensures.start in
    offered_search i c.args.tree c.args.tour c.args.budget c.args.grunts c.args.gap b c.offer.new.self c.offer.result c.in_ok-near.field-0.near is c.requires.few
    (c.nothing_is_split_at_the_start.ensures i c.args.tree c.args.tour c.args.budget c.args.grunts c.args.gap b is)
    (c.events_are_charged.ensures.step b c.offer.new.self _ _ c.offer.ensures) c.in_ok-near.ensures.lists.cities
