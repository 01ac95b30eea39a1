use Rattle.std.proofs.Common.{sym, subst}
use Rattle.tspdef.specs.Paths.{MayFollow}
use Rattle.branchx.specs.Cond.{condition_of}
use Rattle.branchx.specs.Path.{Conditions}
use Rattle.branchx.proofs.PathLemmas.{is_path-push}
use Rattle.branchx.proofs.path.Path.push.Goals as goal

pub invariant_of-self-2 : goal.invariant_of-self-2
invariant_of-self-2 c =
    let follows = subst (λ (p : Conditions). MayFollow p.n p.conditions (condition_of c.args.cond)) (sym c.self.view_is) c.requires in
    rw c.in_ok-push.ensures.items (is_path-push c.self.inside.n c.self.inside.conditions.items c.args.cond c.self.invariant follows)
