use Rattle.std.proofs.Common.{refl, subst}
use Rattle.tspdef.specs.Closings.{IsMisfit}
use Rattle.bossx.specs.Books.{Book, path_in}
use Rattle.bossx.proofs.boss.Boss.closing_misfit.Goals as goal

pub returns-in-Misfit : goal.returns-in-Misfit
returns-in-Misfit c = subst (λ (b : Book). IsMisfit b.instance.n (path_in b c.args.node) c.args.closing.now c.in-Misfit.k) c.self.view_is ((c.in-Misfit.ensures.misfit c.in-Misfit.k).0 refl)
