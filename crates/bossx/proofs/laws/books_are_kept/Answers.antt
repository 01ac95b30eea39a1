use Rattle.bossx.proofs.Keeping.{step_keeps, run_keeps, books_stay_small}
use Rattle.bossx.proofs.Kept.{book_covers}
use Rattle.bossx.proofs.laws.books_are_kept.Goals as goal

pub returns-clause-step : goal.returns-clause-step
returns-clause-step c = step_keeps

pub returns-clause-run : goal.returns-clause-run
returns-clause-run c = run_keeps

pub returns-clause-small : goal.returns-clause-small
returns-clause-small c = books_stay_small

pub returns-clause-cover : goal.returns-clause-cover
returns-clause-cover c = book_covers
