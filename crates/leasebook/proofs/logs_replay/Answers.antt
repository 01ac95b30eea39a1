use Rattle.leasebook.proofs.LogLemmas.{entries_act, leases_stand_alone}
use Rattle.leasebook.proofs.logs_replay.Goals as goal

pub returns-clause-entries : goal.returns-clause-entries
returns-clause-entries c = entries_act

pub returns-clause-leases : goal.returns-clause-leases
returns-clause-leases c = leases_stand_alone
