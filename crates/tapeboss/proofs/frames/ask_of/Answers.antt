use Rattle.bossx.specs.declared.events.Event.TheVariants as event
use Rattle.tapeboss.proofs.FrameLemmas.{grunt_heard}
use Rattle.tapeboss.proofs.frames.ask_of.Goals as goal

pub returns-in-Ok-clause-hears : goal.returns-in-Ok-clause-hears
returns-in-Ok-clause-hears c = let h = c.in-Ok.ensures in grunt_heard c.args.grunts event.Ask c.args.args.now c.in-Ok.grunt h.0 h.1 h.2 h.3
