use Rattle.std.proofs.Common.{◌*◌, ◌-◌, refl, ap, ◌∙◌}
use Rattle.cutform.specs.Cut.{pairs_of}
use Rattle.cutpool.proofs.CrossingLemmas.{left_is, none_is}
use Rattle.cutpool.proofs.violated.is_violated.Goals as goal

pub returns-in-Some : goal.returns-in-Some
returns-in-Some c =
    c.are_within.ensures
    ∙ left_is c.args.x.now c.args.cut.now c.args.rows.now c.sets.result.now c.pairs.result.now (c.from.result * 1048576 - 1024) c.in-Some.left c.entries-entries.ensures.entries c.requires.rows c.requires.cut c.sets.ensures c.pairs.ensures
    (ap (λ k. k * 1048576 - 1024) (c.from.ensures ∙ c.rhs.ensures.value)) c.in-Some.ensures

pub returns-in-None : goal.returns-in-None
returns-in-None c =
    none_is c.args.x.now c.args.cut.now c.args.rows.now c.sets.result.now (pairs_of c.args.cut.now) (c.from.result * 1048576 - 1024) c.entries-entries.ensures.entries c.requires.rows c.requires.cut c.sets.ensures refl
    (ap (λ k. k * 1048576 - 1024) (c.from.ensures ∙ c.rhs.ensures.value)) c.in-None.ensures
