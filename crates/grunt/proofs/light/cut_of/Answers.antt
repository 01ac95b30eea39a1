use Rattle.std.proofs.Common.{sym, subst}
use Rattle.sepblos.specs.Violated.{IsWorth}
use Rattle.grunt.proofs.CutLemmas.{light_is_missed}
use Rattle.grunt.proofs.light.cut_of.Goals as goal

pub returns-in-Ok : goal.returns-in-Ok
returns-in-Ok c = subst (IsWorth c.args._x.now) (sym c.in-Ok.ensures.made) (light_is_missed c.args._x.now c.args.set c.requires)
