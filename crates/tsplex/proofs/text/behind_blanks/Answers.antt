use Rattle.tsplex.proofs.TextLemmas.{word_ended}
use Rattle.tsplex.proofs.text.behind_blanks.Goals as goal

pub returns-then-not-is_blank-clause-front : goal.returns-then-not-is_blank-clause-front
returns-then-not-is_blank-clause-front c = λ z. word_ended _ _ _ _ c.in-Some.ensures.cases.0 (cc) z
