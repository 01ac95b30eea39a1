use Rattle.clap.specs.Simple.{app_of, built, is_simple}
use Rattle.clap.specs.Faults.{is_free_app}
use Rattle.tspwords.proofs.Says.{both_true}
use Rattle.tspwords.proofs.reading.parsed.Goals as goal

pub returns-in-Ok-clause-rows : goal.returns-in-Ok-clause-rows
returns-in-Ok-clause-rows c = (c.in-Ok.ensures.matches (both_true (is_simple (app_of c.args.command)) (is_free_app (built (app_of c.args.command))) c.requires.simple)).0

pub returns-in-Ok-clause-inner : goal.returns-in-Ok-clause-inner
returns-in-Ok-clause-inner c = (c.in-Ok.ensures.matches (both_true (is_simple (app_of c.args.command)) (is_free_app (built (app_of c.args.command))) c.requires.simple)).1
