use Rattle.std.proofs.Common.{refl, ap, Err, subst, map, string_bytes}
use Rattle.tspwords.specs.Program.{IsTaken, IsSolveCall, IsVerifyCall, IsTourCall, IsBenchCall, IsReplayCall, IsBoundCall, IsCheckboundCall}
use Rattle.tspwords.specs.Says.{Says}
use Rattle.tspwords.specs.declared.words.Command.{Command}
use Rattle.tspengine.specs.Calls.{Outside, Call}
use Rattle.tspengine.specs.declared.statuses.Status.TheVariants as status
use Rattle.tspengine.proofs.Commands.{ends_solve, ends_verify, ends_tour, ends_bench, ends_replay, ends_bound, ends_checkbound, ends_usage, ends_idle, IsIdle, causes_solve, causes_verify, causes_tour, causes_bench, causes_replay, causes_bound, causes_checkbound, causes_usage, causes_idle}
use Rattle.tspengine.proofs.Completions.{runs_so}
use Rattle.tspengine.proofs.running.run.Goals as goal

pub returns-in-Ok-Solve : goal.returns-in-Ok-Solve
returns-in-Ok-Solve g c =
    let words = map string_bytes c.args.words.now in
    let says = subst (λ (x : Command). Says words x) c.in-Ok-Solve.field-0-is c.in-Ok-Solve.ensures.says in
    let is : IsSolveCall words = record { taken = c.in-Ok-Solve.ensures.taken; named = says.named } in
    let s = c.solve.result in
    let call : Call = record {
      words = words;
      before = record {
        desk = g.D.Desk.told c.args.desk.now;
        slots = g.L.Slots.told c.args.slots.now;
        moments = g.L.Slots.past c.args.slots.now;
        read_faults = g.D.Desk.read_faults c.args.desk.now;
        write_faults = g.D.Desk.write_faults c.args.desk.now;
        store_faults = g.L.Slots.faults c.args.slots.now;
      };
      after = record {
        desk = g.D.Desk.told c.solve.new.desk;
        slots = g.L.Slots.told c.solve.new.slots;
        moments = g.L.Slots.past c.solve.new.slots;
        read_faults = g.D.Desk.read_faults c.solve.new.desk;
        write_faults = g.D.Desk.write_faults c.solve.new.desk;
        store_faults = g.L.Slots.faults c.solve.new.slots;
      };
    } in
    runs_so c.bodies_have_one_reading.ensures s call (ends_solve s call is (c.solve.ensures.ends call says)) (causes_solve s call is c.solve.ensures.reads c.solve.ensures.writes c.solve.ensures.store)

pub returns-in-Ok-Verify : goal.returns-in-Ok-Verify
returns-in-Ok-Verify g c =
    let words = map string_bytes c.args.words.now in
    let says = subst (λ (x : Command). Says words x) c.in-Ok-Verify.field-0-is c.in-Ok-Verify.ensures.says in
    let is : IsVerifyCall words = record { taken = c.in-Ok-Verify.ensures.taken; named = says.named } in
    let s = c.verify.result in
    let call : Call = record {
      words = words;
      before = record {
        desk = g.D.Desk.told c.args.desk.now;
        slots = g.L.Slots.told c.args.slots.now;
        moments = g.L.Slots.past c.args.slots.now;
        read_faults = g.D.Desk.read_faults c.args.desk.now;
        write_faults = g.D.Desk.write_faults c.args.desk.now;
        store_faults = g.L.Slots.faults c.args.slots.now;
      };
      after = record {
        desk = g.D.Desk.told c.verify.new.desk;
        slots = g.L.Slots.told c.args.slots.now;
        moments = g.L.Slots.past c.args.slots.now;
        read_faults = g.D.Desk.read_faults c.verify.new.desk;
        write_faults = g.D.Desk.write_faults c.verify.new.desk;
        store_faults = g.L.Slots.faults c.args.slots.now;
      };
    } in
    let ends = c.verify.ensures.ends call says refl in
    runs_so c.bodies_have_one_reading.ensures s call (ends_verify s call is ends) (causes_verify s call ends refl c.verify.ensures.reads c.verify.ensures.writes)

pub returns-in-Ok-Tour : goal.returns-in-Ok-Tour
returns-in-Ok-Tour g c =
    let words = map string_bytes c.args.words.now in
    let says = subst (λ (x : Command). Says words x) c.in-Ok-Tour.field-0-is c.in-Ok-Tour.ensures.says in
    let is : IsTourCall words = record { taken = c.in-Ok-Tour.ensures.taken; named = says.named } in
    let s = c.tour.result in
    let call : Call = record {
      words = words;
      before = record {
        desk = g.D.Desk.told c.args.desk.now;
        slots = g.L.Slots.told c.args.slots.now;
        moments = g.L.Slots.past c.args.slots.now;
        read_faults = g.D.Desk.read_faults c.args.desk.now;
        write_faults = g.D.Desk.write_faults c.args.desk.now;
        store_faults = g.L.Slots.faults c.args.slots.now;
      };
      after = record {
        desk = g.D.Desk.told c.tour.new.desk;
        slots = g.L.Slots.told c.args.slots.now;
        moments = g.L.Slots.past c.args.slots.now;
        read_faults = g.D.Desk.read_faults c.tour.new.desk;
        write_faults = g.D.Desk.write_faults c.tour.new.desk;
        store_faults = g.L.Slots.faults c.args.slots.now;
      };
    } in
    let ends = c.tour.ensures.ends call says refl in
    runs_so c.bodies_have_one_reading.ensures s call (ends_tour s call is ends) (causes_tour s call ends refl c.tour.ensures.reads c.tour.ensures.writes)

pub returns-in-Ok-Bench : goal.returns-in-Ok-Bench
returns-in-Ok-Bench g c =
    let words = map string_bytes c.args.words.now in
    let says = subst (λ (x : Command). Says words x) c.in-Ok-Bench.field-0-is c.in-Ok-Bench.ensures.says in
    let is : IsBenchCall words = record { taken = c.in-Ok-Bench.ensures.taken; named = says.named } in
    let s = c.bench.result in
    let call : Call = record {
      words = words;
      before = record {
        desk = g.D.Desk.told c.args.desk.now;
        slots = g.L.Slots.told c.args.slots.now;
        moments = g.L.Slots.past c.args.slots.now;
        read_faults = g.D.Desk.read_faults c.args.desk.now;
        write_faults = g.D.Desk.write_faults c.args.desk.now;
        store_faults = g.L.Slots.faults c.args.slots.now;
      };
      after = record {
        desk = g.D.Desk.told c.bench.new.desk;
        slots = g.L.Slots.told c.args.slots.now;
        moments = g.L.Slots.past c.args.slots.now;
        read_faults = g.D.Desk.read_faults c.bench.new.desk;
        write_faults = g.D.Desk.write_faults c.bench.new.desk;
        store_faults = g.L.Slots.faults c.args.slots.now;
      };
    } in
    let ends = c.bench.ensures.ends call says refl in
    runs_so c.bodies_have_one_reading.ensures s call (ends_bench s call is ends) (causes_bench s call ends refl c.bench.ensures.reads c.bench.ensures.writes)

pub returns-in-Ok-Bound : goal.returns-in-Ok-Bound
returns-in-Ok-Bound g c =
    let words = map string_bytes c.args.words.now in
    let says = subst (λ (x : Command). Says words x) c.in-Ok-Bound.field-0-is c.in-Ok-Bound.ensures.says in
    let is : IsBoundCall words = record { taken = c.in-Ok-Bound.ensures.taken; named = says.named } in
    let s = c.bound.result in
    let call : Call = record {
      words = words;
      before = record {
        desk = g.D.Desk.told c.args.desk.now;
        slots = g.L.Slots.told c.args.slots.now;
        moments = g.L.Slots.past c.args.slots.now;
        read_faults = g.D.Desk.read_faults c.args.desk.now;
        write_faults = g.D.Desk.write_faults c.args.desk.now;
        store_faults = g.L.Slots.faults c.args.slots.now;
      };
      after = record {
        desk = g.D.Desk.told c.bound.new.desk;
        slots = g.L.Slots.told c.args.slots.now;
        moments = g.L.Slots.past c.args.slots.now;
        read_faults = g.D.Desk.read_faults c.bound.new.desk;
        write_faults = g.D.Desk.write_faults c.bound.new.desk;
        store_faults = g.L.Slots.faults c.args.slots.now;
      };
    } in
    let ends = c.bound.ensures.ends call says refl in
    runs_so c.bodies_have_one_reading.ensures s call (ends_bound s call is ends) (causes_bound s call ends refl c.bound.ensures.reads c.bound.ensures.writes)

pub returns-in-Ok-Checkbound : goal.returns-in-Ok-Checkbound
returns-in-Ok-Checkbound g c =
    let words = map string_bytes c.args.words.now in
    let says = subst (λ (x : Command). Says words x) c.in-Ok-Checkbound.field-0-is c.in-Ok-Checkbound.ensures.says in
    let is : IsCheckboundCall words = record { taken = c.in-Ok-Checkbound.ensures.taken; named = says.named } in
    let s = c.checkbound.result in
    let call : Call = record {
      words = words;
      before = record {
        desk = g.D.Desk.told c.args.desk.now;
        slots = g.L.Slots.told c.args.slots.now;
        moments = g.L.Slots.past c.args.slots.now;
        read_faults = g.D.Desk.read_faults c.args.desk.now;
        write_faults = g.D.Desk.write_faults c.args.desk.now;
        store_faults = g.L.Slots.faults c.args.slots.now;
      };
      after = record {
        desk = g.D.Desk.told c.checkbound.new.desk;
        slots = g.L.Slots.told c.args.slots.now;
        moments = g.L.Slots.past c.args.slots.now;
        read_faults = g.D.Desk.read_faults c.checkbound.new.desk;
        write_faults = g.D.Desk.write_faults c.checkbound.new.desk;
        store_faults = g.L.Slots.faults c.args.slots.now;
      };
    } in
    let ends = c.checkbound.ensures.ends call says refl in
    runs_so c.bodies_have_one_reading.ensures s call (ends_checkbound s call is ends) (causes_checkbound s call ends refl c.checkbound.ensures.reads c.checkbound.ensures.writes)

pub returns-in-Ok-Replay : goal.returns-in-Ok-Replay
returns-in-Ok-Replay g c =
    let words = map string_bytes c.args.words.now in
    let says = subst (λ (x : Command). Says words x) c.in-Ok-Replay.field-0-is c.in-Ok-Replay.ensures.says in
    let is : IsReplayCall words = record { taken = c.in-Ok-Replay.ensures.taken; named = says.named } in
    let s = c.replay.result in
    let call : Call = record {
      words = words;
      before = record {
        desk = g.D.Desk.told c.args.desk.now;
        slots = g.L.Slots.told c.args.slots.now;
        moments = g.L.Slots.past c.args.slots.now;
        read_faults = g.D.Desk.read_faults c.args.desk.now;
        write_faults = g.D.Desk.write_faults c.args.desk.now;
        store_faults = g.L.Slots.faults c.args.slots.now;
      };
      after = record {
        desk = g.D.Desk.told c.replay.new.desk;
        slots = g.L.Slots.told c.args.slots.now;
        moments = g.L.Slots.past c.args.slots.now;
        read_faults = g.D.Desk.read_faults c.replay.new.desk;
        write_faults = g.D.Desk.write_faults c.replay.new.desk;
        store_faults = g.L.Slots.faults c.args.slots.now;
      };
    } in
    let ends = c.replay.ensures.ends call says refl in
    runs_so c.bodies_have_one_reading.ensures s call (ends_replay s call is ends) (causes_replay s call ends refl c.replay.ensures.reads c.replay.ensures.writes)

pub returns-in-Err-Usage : goal.returns-in-Err-Usage
returns-in-Err-Usage g c =
    let words = map string_bytes c.args.words.now in
    let s = c.usage.result in
    let call : Call = record {
      words = words;
      before = record {
        desk = g.D.Desk.told c.args.desk.now;
        slots = g.L.Slots.told c.args.slots.now;
        moments = g.L.Slots.past c.args.slots.now;
        read_faults = g.D.Desk.read_faults c.args.desk.now;
        write_faults = g.D.Desk.write_faults c.args.desk.now;
        store_faults = g.L.Slots.faults c.args.slots.now;
      };
      after = record {
        desk = g.D.Desk.told c.usage.new.desk;
        slots = g.L.Slots.told c.args.slots.now;
        moments = g.L.Slots.past c.args.slots.now;
        read_faults = g.D.Desk.read_faults c.usage.new.desk;
        write_faults = g.D.Desk.write_faults c.usage.new.desk;
        store_faults = g.L.Slots.faults c.args.slots.now;
      };
    } in
    let ends = c.usage.ensures.ends call refl in
    let none : ¬ IsTaken words = c.in-Err-Usage.ensures.usage (ap Err c.in-Err-Usage.field-0-is) in
    runs_so c.bodies_have_one_reading.ensures s call (ends_usage s call none ends) (causes_usage s call ends refl c.usage.ensures.same c.usage.ensures.writes)

pub returns-in-Err-NoMemory : goal.returns-in-Err-NoMemory
returns-in-Err-NoMemory g c =
    let here : Outside = record {
      desk = g.D.Desk.told c.args.desk.now;
      slots = g.L.Slots.told c.args.slots.now;
      moments = g.L.Slots.past c.args.slots.now;
      read_faults = g.D.Desk.read_faults c.args.desk.now;
      write_faults = g.D.Desk.write_faults c.args.desk.now;
      store_faults = g.L.Slots.faults c.args.slots.now;
    } in
    let call : Call = record { words = map string_bytes c.args.words.now; before = here; after = here } in
    let idle : IsIdle call = record { desk = refl; slots = refl; moments = refl; reads = refl; writes = refl; stores = refl } in
    runs_so c.bodies_have_one_reading.ensures status.NoMemory call (ends_idle call c.taken_words_are_given.ensures.commands idle) (causes_idle call idle)

pub bench-requires-clause-many : goal.bench-requires-clause-many
bench-requires-clause-many g c = (subst (λ (x : Command). Says (map string_bytes c.args.words.now) x) c.in-Ok-Bench.field-0-is c.in-Ok-Bench.ensures.says).enough

pub bench-requires-clause-few : goal.bench-requires-clause-few
bench-requires-clause-few g c = (subst (λ (x : Command). Says (map string_bytes c.args.words.now) x) c.in-Ok-Bench.field-0-is c.in-Ok-Bench.ensures.says).fits

pub bench-requires-clause-budget : goal.bench-requires-clause-budget
bench-requires-clause-budget g c = (subst (λ (x : Command). Says (map string_bytes c.args.words.now) x) c.in-Ok-Bench.field-0-is c.in-Ok-Bench.ensures.says).few

pub solve-requires-clause-few : goal.solve-requires-clause-few
solve-requires-clause-few g c κs within = (subst (λ (x : Command). Says (map string_bytes c.args.words.now) x) c.in-Ok-Solve.field-0-is c.in-Ok-Solve.ensures.says).few

pub solve-requires-clause-some_grunts : goal.solve-requires-clause-some_grunts
solve-requires-clause-some_grunts g c κs within = (subst (λ (x : Command). Says (map string_bytes c.args.words.now) x) c.in-Ok-Solve.field-0-is c.in-Ok-Solve.ensures.says).some

pub solve-requires-clause-few_grunts : goal.solve-requires-clause-few_grunts
solve-requires-clause-few_grunts g c κs within = (subst (λ (x : Command). Says (map string_bytes c.args.words.now) x) c.in-Ok-Solve.field-0-is c.in-Ok-Solve.ensures.says).team

pub replay-requires-clause-few : goal.replay-requires-clause-few
replay-requires-clause-few g c = (subst (λ (x : Command). Says (map string_bytes c.args.words.now) x) c.in-Ok-Replay.field-0-is c.in-Ok-Replay.ensures.says).few

pub replay-requires-clause-some_grunts : goal.replay-requires-clause-some_grunts
replay-requires-clause-some_grunts g c = (subst (λ (x : Command). Says (map string_bytes c.args.words.now) x) c.in-Ok-Replay.field-0-is c.in-Ok-Replay.ensures.says).some

pub replay-requires-clause-few_grunts : goal.replay-requires-clause-few_grunts
replay-requires-clause-few_grunts g c = (subst (λ (x : Command). Says (map string_bytes c.args.words.now) x) c.in-Ok-Replay.field-0-is c.in-Ok-Replay.ensures.says).team
