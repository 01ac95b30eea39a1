use Rattle.std.proofs.Common.{◌≡◌, List, ℕ, subst, string_bytes}
use Rattle.ports.specs.Outside.{BothTell}
use Rattle.tspgen.specs.Points.{drawn}
use Rattle.tspengine.specs.Calls.{on_desk}
use Rattle.tspengine.specs.Benching.{IsBenchOutcome}
use Rattle.tspengine.specs.Outcomes.{IsProof}
use Rattle.tspengine.specs.Steps.{writes, prints, TearsWriting}
use Rattle.tspengine.proofs.Benches.{benched, bench_stopped, torn_benched, torn_bench_stopped}
use Rattle.tspengine.proofs.benching.write_down.Goals as goal

pub returns-in-Ok-clause-ends : goal.returns-in-Ok-clause-ends
returns-in-Ok-clause-ends g c = λ call says kept.
    let w = c.args.words.now in
    let a = g.D.Desk.told c.args.desk.now in
    let d = g.D.Desk.told c.publish.new.desk in
    let closed = c.in-Closed.closed in
    let path = subst (λ (x : List ℕ). BothTell (λ t u. u ≡ prints c.deref-in-Closed-2.result.now (writes x c.deref-in-Closed.result.now t)) a d) c.deref.ensures c.in-Ok.ensures.all in
    let wrote = subst (λ (x : List ℕ). BothTell (λ t u. u ≡ prints c.deref-in-Closed-2.result.now (writes (string_bytes w.out) x t)) a d) c.deref-in-Closed.ensures.value path in
    let all = subst (λ (x : List ℕ). BothTell (λ t u. u ≡ prints x (writes (string_bytes w.out) closed.proof.items t)) a d) c.deref-in-Closed-2.ensures.value wrote in
    benched (on_desk a d call) w closed says kept (subst (IsBenchOutcome (drawn w.seed w.cities) w.budget) c.in-Closed.is c.requires.outcome) all

pub returns-in-Err-clause-ends : goal.returns-in-Err-clause-ends
returns-in-Err-clause-ends g c = λ call says kept.
    let w = c.args.words.now in
    let a = g.D.Desk.told c.args.desk.now in
    let d = g.D.Desk.told c.publish.new.desk in
    let closed = c.in-Closed.closed in
    let path = subst (λ (x : List ℕ). BothTell (TearsWriting x c.deref-in-Closed.result.now c.deref-in-Closed-2.result.now) a d) c.deref.ensures c.in-Err.ensures.fronts in
    let tears = subst (λ (x : List ℕ). BothTell (TearsWriting (string_bytes w.out) x c.deref-in-Closed-2.result.now) a d) c.deref-in-Closed.ensures.value path in
    let all = subst (λ (x : List ℕ). BothTell (TearsWriting (string_bytes w.out) closed.proof.items x) a d) c.deref-in-Closed-2.ensures.value tears in
    torn_benched (on_desk a d call) w closed says kept (subst (IsBenchOutcome (drawn w.seed w.cities) w.budget) c.in-Closed.is c.requires.outcome) all

pub returns-in-Ok-publish-clause-ends : goal.returns-in-Ok-publish-clause-ends
returns-in-Ok-publish-clause-ends g c = λ call says kept.
    let w = c.args.words.now in
    let a = g.D.Desk.told c.args.desk.now in
    let d = g.D.Desk.told c.publish-in-Stopped.new.desk in
    let body = c.in-Stopped.body in
    let path = subst (λ (x : List ℕ). BothTell (λ t u. u ≡ prints c.deref-in-Stopped-3.result.now (writes x c.deref-in-Stopped-2.result.now t)) a d) c.deref-in-Stopped.ensures c.in-Ok-publish.ensures.all in
    let wrote = subst (λ (x : List ℕ). BothTell (λ t u. u ≡ prints c.deref-in-Stopped-3.result.now (writes (string_bytes w.out) x t)) a d) c.deref-in-Stopped-2.ensures.value path in
    let all = subst (λ (x : List ℕ). BothTell (λ t u. u ≡ prints x (writes (string_bytes w.out) body.items t)) a d) c.deref-in-Stopped-3.ensures.value wrote in
    bench_stopped (on_desk a d call) w body c.in-Stopped.printed says kept
    (subst (IsBenchOutcome (drawn w.seed w.cities) w.budget) c.in-Stopped.is c.requires.outcome)
    (λ few enough. subst IsProof c.in-Stopped.is (c.requires.small few enough)) all

pub returns-in-Err-publish-clause-ends : goal.returns-in-Err-publish-clause-ends
returns-in-Err-publish-clause-ends g c = λ call says kept.
    let w = c.args.words.now in
    let a = g.D.Desk.told c.args.desk.now in
    let d = g.D.Desk.told c.publish-in-Stopped.new.desk in
    let body = c.in-Stopped.body in
    let path = subst (λ (x : List ℕ). BothTell (TearsWriting x c.deref-in-Stopped-2.result.now c.deref-in-Stopped-3.result.now) a d) c.deref-in-Stopped.ensures c.in-Err-publish.ensures.fronts in
    let tears = subst (λ (x : List ℕ). BothTell (TearsWriting (string_bytes w.out) x c.deref-in-Stopped-3.result.now) a d) c.deref-in-Stopped-2.ensures.value path in
    let all = subst (λ (x : List ℕ). BothTell (TearsWriting (string_bytes w.out) body.items x) a d) c.deref-in-Stopped-3.ensures.value tears in
    torn_bench_stopped (on_desk a d call) w body c.in-Stopped.printed says kept
    (subst (IsBenchOutcome (drawn w.seed w.cities) w.budget) c.in-Stopped.is c.requires.outcome) all
