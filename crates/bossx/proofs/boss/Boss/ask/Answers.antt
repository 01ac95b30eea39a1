use Rattle.std.proofs.Common.{subst}
use Rattle.bossx.specs.Books.{Book}
use Rattle.bossx.specs.Answers.{IsAnswer}
use Rattle.bossx.proofs.Rows.{asked_row}
use Rattle.bossx.proofs.boss.Boss.ask.Goals as goal

pub returns : goal.returns
returns c =
    asked_row c.args.self.now c.answer.new.self c.args.grunt c.answer.result
    (subst (λ (m : Book). IsAnswer m c.args.grunt c.answer.result c.answer.new.self) c.let_go.ensures.after c.answer.ensures)
