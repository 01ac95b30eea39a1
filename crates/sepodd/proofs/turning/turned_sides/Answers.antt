use Rattle.std.proofs.Common.{List, sym, subst}
use Rattle.std.specs.List.{AllByRecursion}
use Rattle.cyc.specs.declared.frac.Entry.{Entry}
use Rattle.sepodd.specs.Sides.{IsBelowTurned, IsKnown}
use Rattle.sepodd.proofs.KnownLemmas.{entries_known}
use Rattle.sepodd.proofs.TurningLemmas.{network_weight}
use Rattle.sepodd.proofs.turning.turned_sides.Goals as goal

pub turned_of-requires-clause-weights : goal.turned_of-requires-clause-weights
turned_of-requires-clause-weights c = network_weight c.args.x.now c.args.folded.now c.in_ok-network.network c.requires.size c.requires.entries c.entries.ensures.entries c.in_ok-network.ensures.weights

pub turned_of-requires-clause-known : goal.turned_of-requires-clause-known
turned_of-requires-clause-known c = subst (λ (v : List Entry). AllByRecursion (IsKnown c.args.x.now) v) (sym c.entries.ensures.value) (entries_known c.args.x.now c.entries.ensures.entries c.requires.small)

pub returns-clause-least : goal.returns-clause-least
returns-clause-least c = subst (λ (v : List Entry). AllByRecursion (λ e. IsBelowTurned c.args.x.now e c.in_ok-best.best.weight) v) c.entries.ensures.value c.in_ok-best.ensures.least
