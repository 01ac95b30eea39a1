use Rattle.std.proofs.Common.{None, ap, ◌∙◌}
use Rattle.sepcomb.specs.Growth.{next_city}
use Rattle.sepcomb.proofs.PathLemmas.{next_near}
use Rattle.sepcomb.proofs.growth.next_city.Goals as goal

pub loop-entry-init : goal.loop-entry-init
loop-entry-init c =
    let h = c.args.handle.now.cities in
    let used = c.args.used.now in
    let path = c.args.path.now in
    ap (next_city h used path c.args.newest None) c.requires.near ∙ next_near h used path c.args.newest None c.args._x.now.entries
