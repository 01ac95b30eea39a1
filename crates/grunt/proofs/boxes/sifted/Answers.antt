use Rattle.std.proofs.lemmas.Result.{IfOk-weaker}
use Rattle.grunt.proofs.boxes.sifted.Goals as goal

pub returns-clause-worth : goal.returns-clause-worth
returns-clause-worth c =
    IfOk-weaker c.worth_adding.result _ _ (λ found all k d h. let it = all k d h in record { is_cut = it.is_cut; violated = it.violated }) c.worth_adding.ensures.worth
