use Rattle.treebook.proofs.Covering.{closing_keeps_sound, splitting_keeps_sound, closed_tables_are_sound, less_is_kept}
use Rattle.treebook.proofs.BornLemmas.{sound_tables_close}
use Rattle.treebook.proofs.laws.tables_are_sound.Goals as goal

pub returns-clause-closing : goal.returns-clause-closing
returns-clause-closing c = closing_keeps_sound c.bound_is_below.ensures.fitting

pub returns-clause-splitting : goal.returns-clause-splitting
returns-clause-splitting c = splitting_keeps_sound

pub returns-clause-closed : goal.returns-clause-closed
returns-clause-closed c = closed_tables_are_sound c.bound_is_below.ensures.fitting

pub returns-clause-closes : goal.returns-clause-closes
returns-clause-closes c = sound_tables_close

pub returns-clause-less : goal.returns-clause-less
returns-clause-less c = less_is_kept
