use Rattle.std.proofs.Common.{◌≡◌, ◌-◌, ℕ, Bool, true, false, not, cond, List, sym, ap, ◌∙◌, arith}
use Rattle.std.proofs.lemmas.Bool.{false≢true}
use Rattle.tspdef.specs.Sets.{has}
use Rattle.cyc.specs.declared.frac.Entry.{Entry}
use Rattle.cyc.specs.Frac.{value_of}
use Rattle.maxflow.specs.Flows.{is_stop}
use Rattle.sepodd.specs.Folding.{is_odd, folded_crossing, turning}
use Rattle.sepodd.specs.Sides.{is_marked}
use Rattle.sepodd.proofs.GroupLemmas.{weight_same}
use Rattle.sepodd.proofs.TurningLemmas.{turned_below}
use Rattle.sepodd.proofs.turning.turned_at.Goals as goal

stop_read : (a b : List Bool) → a ≡ b → (v : Bool) (k : ℕ) → is_stop b k ≡ v → is_stop a k ≡ v
stop_read a b e v k h = ap (λ (m : List Bool). is_stop m k) e ∙ h

odd_read : (es fs : List Entry) (a b : List Bool) → es ≡ fs → a ≡ b → is_odd es (is_marked a) ≡ is_odd fs (is_marked b)
odd_read es fs a b e m = ap (λ (v : List Entry). is_odd v (is_marked a)) e ∙ ap (λ (v : List Bool). is_odd fs (is_marked v)) m

crosses_from : (a b : Bool) → a ≡ true → b ≡ false → cond a (not b) b ≡ true
crosses_from true true h k = absurd (false≢true (sym k))
crosses_from true false h k = h
crosses_from false b h k = absurd (false≢true h)

pub returns-in_default-clause-least : goal.returns-in_default-clause-least
returns-in_default-clause-least c =
    let below = rw c.in_default.is at c.in_ok-found.ensures in
    let turn = c.turning-turn.ensures in
    let least = c.limit-limit.ensures.least in
    turned_below c.args.x.now c.args.network.now c.requires.weights c.args.entry c.deref.result.now
    (λ k ne. stop_read c.deref.result.now c.in_ok-stops.stops.items c.deref.ensures.value false k (c.in_ok-stops.ensures.others k ne))
    (c.limit-limit.result - c.turning-turn.result) c.args.best.weight below (omega (arith, turn, least))

pub with_side-requires-clause-has_weight : goal.with_side-requires-clause-has_weight
with_side-requires-clause-has_weight c =
    let flow = (rw c.in-Some.is at c.in_ok-found.ensures).0 in
    let size = c.n-2.ensures.value in (
      sym (c.is_odd.ensures ∙ odd_read c.entries.result.now c.args.x.now.entries c.deref-2.result.now c.in_ok-side.side.items c.entries.ensures.value c.deref-2.ensures.value) ∙ c.if-is_odd.true,
      weight_same c.args.x.now.n c.args.x.now.entries c.entries.ensures.entries.each (is_marked c.in_ok-side.side.items) (has c.in-Some.found.side.cities) (λ k l. c.in_ok-side.ensures.marks k (omega (arith, size, l)))
          ∙ sym (c.requires.weights (has c.in-Some.found.side.cities)) ∙ flow.crossed,
    )

pub returns-then-is_odd-clause-least : goal.returns-then-is_odd-clause-least
returns-then-is_odd-clause-least c =
    let flow = (rw c.in-Some.is at c.in_ok-found.ensures).0 in
    let met = c.in_ok-best.ensures.met in
    turned_below c.args.x.now c.args.network.now c.requires.weights c.args.entry c.deref.result.now
    (λ k ne. stop_read c.deref.result.now c.in_ok-stops.stops.items c.deref.ensures.value false k (c.in_ok-stops.ensures.others k ne))
    c.in-Some.found.value c.in_ok-best.best.weight flow.least (omega (arith, met))

pub with_side-requires-2-clause-has_weight : goal.with_side-requires-2-clause-has_weight
with_side-requires-2-clause-has_weight c =
    let flow = (rw c.in-Some.is at c.in_ok-found.ensures).0 in
    let size = c.n-2.ensures.value in
    let known = c.requires.known in
    let u = known.u_below in
    let v = known.v_below in
    let cities = c.requires.size in
    let turn = c.turning-turn.ensures in
    let value : turning (value_of c.args.x.now.entries c.args.entry.u c.args.entry.v) ≡ turning c.args.entry.x = ap turning known.value in
    let weight : folded_crossing c.args.x.now.entries (is_marked c.in_ok-side.side.items) ≡ c.in-Some.found.value =
    weight_same c.args.x.now.n c.args.x.now.entries c.entries.ensures.entries.each (is_marked c.in_ok-side.side.items) (has c.in-Some.found.side.cities) (λ k l. c.in_ok-side.ensures.marks k (omega (arith, size, l)))
    ∙ sym (c.requires.weights (has c.in-Some.found.side.cities)) ∙ flow.crossed in (
      sym (c.is_odd.ensures ∙ odd_read c.entries.result.now c.args.x.now.entries c.deref-2.result.now c.in_ok-side.side.items c.entries.ensures.value c.deref-2.ensures.value) ∙ c.if-is_odd.false,
      (
        known.listed,
        (
          crosses_from (is_marked c.in_ok-side.side.items c.args.entry.u) (is_marked c.in_ok-side.side.items c.args.entry.v)
              (c.in_ok-side.ensures.marks c.args.entry.u (omega (arith, size, u)) ∙ flow.holds)
              (c.in_ok-side.ensures.marks c.args.entry.v (omega (arith, size, v)) ∙ flow.lacks c.args.entry.v (omega (arith, cities, v))
              (stop_read c.deref.result.now c.in_ok-stops.stops.items c.deref.ensures.value true c.args.entry.v c.in_ok-stops.ensures.here)),
          omega (arith, weight, value, turn),
        ),
      ),
    )

pub returns-clause-least : goal.returns-clause-least
returns-clause-least c =
    let flow = (rw c.in-Some.is at c.in_ok-found.ensures).0 in
    let turn = c.turning-turn.ensures in
    let met = c.in_ok-best-2.ensures.met in
    turned_below c.args.x.now c.args.network.now c.requires.weights c.args.entry c.deref.result.now
    (λ k ne. stop_read c.deref.result.now c.in_ok-stops.stops.items c.deref.ensures.value false k (c.in_ok-stops.ensures.others k ne))
    c.in-Some.found.value c.in_ok-best-2.best.weight flow.least (omega (arith, turn, met))
