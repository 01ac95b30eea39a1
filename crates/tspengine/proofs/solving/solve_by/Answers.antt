use Rattle.std.proofs.Common.{arith}
use Rattle.tspengine.specs.Calls.{ending_with}
use Rattle.tspengine.specs.Searches.{start_in}
use Rattle.tspengine.proofs.Joining.{searched_of, halted_search, outcome_at, begins_end, searched_end}
use Rattle.tspengine.proofs.Solves.{short_search}
use Rattle.tspengine.proofs.solving.solve_by.Goals as goal

pub returns-in-Ok-outcome_of-clause-ends : goal.returns-in-Ok-outcome_of-clause-ends
returns-in-Ok-outcome_of-clause-ends g c = λ call says read is begins.
    let w = c.args.words.now in
    let i = c.args.instance.now in
    let b = c.args.begun.boss in
    let m = g.L.Slots.told c.args.slots.now in
    let mid = g.L.Slots.past c.args.slots.now in
    let u = g.L.Slots.told c.search.new.slots in
    let later = g.L.Slots.past c.search.new.slots in
    let of = c.requires.begun.search in
    c.finish.ensures.ends call i (start_in b) says
    (outcome_at i w.budget w.gap b c.in-Ok.boss c.in-Ok-outcome_of.outcome of c.in-Ok.ensures.further.start c.in-Ok-outcome_of.ensures.outcome) read
    (searched_of call w i b mid later m u says of is c.in-Ok.ensures.saved) begins

pub returns-in-Err-clause-ends : goal.returns-in-Err-clause-ends
returns-in-Err-clause-ends g c = λ call says read is begins.
    let w = c.args.words.now in
    let i = c.args.instance.now in
    let b = c.args.begun.boss in
    let m = g.L.Slots.told c.args.slots.now in
    let mid = g.L.Slots.past c.args.slots.now in
    let u = g.L.Slots.told c.search.new.slots in
    let later = g.L.Slots.past c.search.new.slots in
    let d = g.D.Desk.told c.args.desk.now in
    halted_search (ending_with d u later call) w i b c.in-Err.halt c.halted.result mid m c.halted.ensures.fault c.halted.ensures.memory says c.requires.begun.search read
    (begins_end call d u later i (start_in b) begins) is c.in-Err.ensures.saved

pub returns-clause-ends : goal.returns-clause-ends
returns-clause-ends g c = λ call says read is begins.
    let w = c.args.words.now in
    let i = c.args.instance.now in
    let b = c.args.begun.boss in
    let m = g.L.Slots.told c.args.slots.now in
    let mid = g.L.Slots.past c.args.slots.now in
    let u = g.L.Slots.told c.search.new.slots in
    let later = g.L.Slots.past c.search.new.slots in
    let d = g.D.Desk.told c.args.desk.now in
    short_search (ending_with d u later call) i (start_in b) read (begins_end call d u later i (start_in b) begins)
    (searched_end call d u later i (start_in b) u later (searched_of call w i b mid later m u says c.requires.begun.search is c.in-Ok.ensures.saved))

pub returns-clause-store : goal.returns-clause-store
returns-clause-store g c = record { later = c.search.ensures.cause.later; rose = λ e. absurd cc }

pub returns-in-Ok-outcome_of-clause-store : goal.returns-in-Ok-outcome_of-clause-store
returns-in-Ok-outcome_of-clause-store g c = record {
  later = omega (arith, c.search.ensures.cause.later, c.finish.ensures.store.later);
  rose = λ e. let rose = c.finish.ensures.store.rose e in omega (arith, rose, c.search.ensures.cause.later);
}
