use Rattle.verdict.proofs.WrongValues.{refused_values_are_wrong, refused_lines_are_wrong}
use Rattle.verdict.proofs.refused_values_are_wrong.Goals as goal

pub returns-clause-values : goal.returns-clause-values
returns-clause-values c = refused_values_are_wrong

pub returns-clause-lines : goal.returns-clause-lines
returns-clause-lines c = refused_lines_are_wrong
