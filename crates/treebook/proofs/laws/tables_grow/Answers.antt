use Rattle.treebook.proofs.Growing.{closing_keeps_tables, splitting_keeps_tables}
use Rattle.treebook.proofs.laws.tables_grow.Goals as goal

pub returns-clause-closing : goal.returns-clause-closing
returns-clause-closing c = closing_keeps_tables

pub returns-clause-splitting : goal.returns-clause-splitting
returns-clause-splitting c = splitting_keeps_tables
