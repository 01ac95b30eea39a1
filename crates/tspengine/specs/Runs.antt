-- What `run` promises, by the command that its words name. A later command adds its line to each of the three parts.
use Rattle.std.specs.Prelude.{◌≡◌, ◌⊎◌}
use Rattle.ports.specs.Outside.{Cause}
use Rattle.tspwords.specs.Program.{IsTaken, IsSolveCall, IsVerifyCall, IsTourCall, IsBenchCall, IsReplayCall, IsBoundCall, IsCheckboundCall}
use Rattle.tspengine.specs.Calls.{Call}
use Rattle.tspengine.specs.Solving.{Solves, SolveCompletes, RefusedCompletes}
use Rattle.tspengine.specs.Verifying.{Verifies, VerifyCompletes, AcceptedCompletes}
use Rattle.tspengine.specs.Touring.{Tours, TourCompletes}
use Rattle.tspengine.specs.Benching.{Benches, BenchCompletes, SmallBenchCompletes}
use Rattle.tspengine.specs.Bounding.{Bounds, BoundCompletes, ChecksBound, CheckboundCompletes, AcceptedBoundCompletes}
use Rattle.tspengine.specs.Replaying.{Replays, ReplayCompletes}
use Rattle.tspengine.specs.Usages.{Uses}
use Rattle.tspengine.specs.declared.statuses.Status.{Status}
use Rattle.tspengine.specs.declared.statuses.Status.TheVariants as status

-- The words are a call of one command, or of none, and the call ends as that command's ends say.
pub record Ends (s : Status) (c : Call) : Type 0 where
  pub words : IsSolveCall c.words ⊎ IsVerifyCall c.words ⊎ IsTourCall c.words ⊎ IsBenchCall c.words ⊎ IsReplayCall c.words ⊎ IsBoundCall c.words ⊎ IsCheckboundCall c.words ⊎ ¬ IsTaken c.words
  pub solve : IsSolveCall c.words → Solves s c
  pub verify : IsVerifyCall c.words → Verifies s c
  pub tour : IsTourCall c.words → Tours s c
  pub bench : IsBenchCall c.words → Benches s c
  pub replay : IsReplayCall c.words → Replays s c
  pub bound : IsBoundCall c.words → Bounds s c
  pub checkbound : IsCheckboundCall c.words → ChecksBound s c
  pub usage : ¬ IsTaken c.words → Uses s c

-- A fault is answered only where a call of the desk or of the slots has failed. Only `solve` calls the slots.
pub record HasCauses (s : Status) (c : Call) : Type 0 where
  pub reads : Cause (s ≡ status.ReadFault) c.before.read_faults c.after.read_faults
  pub writes : Cause (s ≡ status.WriteFault) c.before.write_faults c.after.write_faults
  pub store : Cause (s ≡ status.StoreFault) c.before.store_faults c.after.store_faults
  pub other_stores : ¬ IsSolveCall c.words → c.after.store_faults ≡ c.before.store_faults

-- Where nothing fails, each command does what it is for.
pub record Completes (s : Status) (c : Call) : Type 0 where
  pub solve : SolveCompletes s c
  pub refused_body : RefusedCompletes s c
  pub verify : VerifyCompletes s c
  pub accepted : AcceptedCompletes s c
  pub tour : TourCompletes s c
  pub bench : BenchCompletes s c
  pub small_bench : SmallBenchCompletes s c
  pub replay : ReplayCompletes s c
  pub bound : BoundCompletes s c
  pub checkbound : CheckboundCompletes s c
  pub accepted_bound : AcceptedBoundCompletes s c

-- all three
pub record Runs (s : Status) (c : Call) : Type 0 where
  pub ends : Ends s c
  pub causes : HasCauses s c
  pub completes : Completes s c
