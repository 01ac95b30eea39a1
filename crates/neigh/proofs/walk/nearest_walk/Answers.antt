use Rattle.std.proofs.Common.{ap, sym, subst, ◌∙◌}
use Rattle.tspdef.specs.Instances.{IsTourOf}
use Rattle.std.specs.Prelude.{Err}
use Rattle.neigh.proofs.FixedWalks.{walk_is_tour}
use Rattle.neigh.proofs.walk.nearest_walk.Goals as goal

pub unreachable-requires : goal.unreachable-requires
unreachable-requires c =
    let i = c.args.instance.now in
    let t = walk_is_tour i c.n.ensures.instance in
    c.in-Err-NotATour.ensures.not_a_tour (ap Err c.in-Err-NotATour.field-0-is) (rw (c.in_ok-walk.ensures, c.n.ensures.same) t.is_tour)

pub returns-in-Ok-clause-tour : goal.returns-in-Ok-clause-tour
returns-in-Ok-clause-tour c =
    let i = c.args.instance.now in
    subst (IsTourOf i) (sym (c.in-Ok.ensures.ok.0 ∙ c.in_ok-walk.ensures)) (walk_is_tour i c.n.ensures.instance)
