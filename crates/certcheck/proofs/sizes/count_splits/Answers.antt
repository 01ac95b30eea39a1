use Rattle.std.proofs.Common.{ap, ◌∙◌, List, length}
use Rattle.tspdef.specs.Paths.{Condition, branches}
use Rattle.certcheck.proofs.SizeLemmas.{count_splits}
use Rattle.certcheck.proofs.sizes.count_splits.Goals as goal

pub returns : goal.returns
returns c = c.count_not_fixed.ensures ∙ (count_splits c.conditions.result.now ∙ ap (λ (cs : List Condition). length (branches cs)) c.conditions.ensures.value)
