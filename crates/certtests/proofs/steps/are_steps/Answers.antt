use Rattle.std.proofs.Common.{ap, ◌∙◌, length}
use Rattle.certtests.specs.Followers.{all_joined}
use Rattle.certtests.proofs.StepLemmas.{all_steps}
use Rattle.certtests.proofs.steps.are_steps.Goals as goal

pub returns : goal.returns
returns c =
    let cities = c.args.cities.now in
    let pairs = c.args.pairs.now in
    c.are_joined.ensures
    ∙ (ap (λ xs. all_joined xs pairs) c.deref.ensures.value
    ∙ all_steps (length cities) cities c.in_ok-followers.followers.items pairs c.requires.tour.is_tour c.in_ok-followers.ensures c.requires.pairs)
