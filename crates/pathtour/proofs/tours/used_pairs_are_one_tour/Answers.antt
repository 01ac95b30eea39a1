use Rattle.std.proofs.Common.{sym, ◌∙◌}
use Rattle.pathtour.proofs.PresentLemmas.{used_are_steps, holds_fixed}
use Rattle.pathtour.proofs.SameSteps.{same_length, same_canonical}
use Rattle.pathtour.proofs.tours.used_pairs_are_one_tour.Goals as goal

pub returns-clause-long : goal.returns-clause-long
returns-clause-long c = λ i path tour other many t o a b. same_length i tour other many t o (λ u v l m. sym (a u v l m) ∙ b u v l m)

pub returns-clause-one : goal.returns-clause-one
returns-clause-one c = λ n path tour other many p q. same_canonical n tour other p.is_tour q.is_tour p.canonical q.canonical
    (λ u v l m ne. sym (used_are_steps n path tour p.used u v l m ne) ∙ used_are_steps n path other q.used u v l m ne)

pub returns-clause-fixed : goal.returns-clause-fixed
returns-clause-fixed c = holds_fixed
