use Rattle.tspround.proofs.Runs.{reports}
use Rattle.tspround.proofs.searching.report_on.Goals as goal

pub returns : goal.returns
returns c = reports c.events_have_no_choice.ensures.step c.args.boss.now c.own.new.self c.args.node c.args.report c.own.result c.requires.front c.requires.taken c.own.ensures
