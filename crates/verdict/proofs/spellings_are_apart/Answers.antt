use Rattle.verdict.proofs.Spellings.{spellings_are_apart, no_text_begins_another, bytes_have_one_value}
use Rattle.verdict.proofs.spellings_are_apart.Goals as goal

pub returns-clause-apart : goal.returns-clause-apart
returns-clause-apart c = spellings_are_apart

pub returns-clause-begins : goal.returns-clause-begins
returns-clause-begins c = no_text_begins_another

pub returns-clause-one : goal.returns-clause-one
returns-clause-one c = bytes_have_one_value
