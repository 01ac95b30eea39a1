use Rattle.std.proofs.Common.{◌≡◌, ℕ, Bool, true, false, List, slice_index, sym, ap, ◌∙◌, arith}
use Rattle.cyc.specs.declared.frac.Entry.{Entry}
use Rattle.maxflow.specs.Flows.{is_stop}
use Rattle.sepodd.specs.Folding.{is_odd}
use Rattle.sepodd.specs.Sides.{is_marked}
use Rattle.sepodd.proofs.StepLemmas.{below_parting, parting_less, side_weight, even_least}
use Rattle.sepodd.proofs.uncrossing.parted.Goals as goal

stop_read : (a b : List Bool) → a ≡ b → (v : Bool) (k : ℕ) → is_stop b k ≡ v → is_stop a k ≡ v
stop_read a b e v k h = ap (λ (m : List Bool). is_stop m k) e ∙ h

odd_read : (es fs : List Entry) (a b : List Bool) → es ≡ fs → a ≡ b → is_odd es (is_marked a) ≡ is_odd fs (is_marked b)
odd_read es fs a b e m = ap (λ (v : List Entry). is_odd v (is_marked a)) e ∙ ap (λ (v : List Bool). is_odd fs (is_marked v)) m

mark_read : (a b : List Bool) → a ≡ b → (k : ℕ) (v : Bool) → v ≡ is_marked a k → v ≡ is_marked b k
mark_read a b e k v h = h ∙ ap (λ (m : List Bool). is_marked m k) e

pub returns-in_default-clause-parted : goal.returns-in_default-clause-parted
returns-in_default-clause-parted c =
    let below = rw c.in_default.is at c.in_ok-found.ensures in
    let least = c.limit-limit.ensures.least in
    parting_less c.args.x.now (slice_index c.args.numbers.now) c.args.s c.args.t c.limit-limit.result c.args.best.weight least
    (below_parting c.args.x.now c.args.folded.now c.in_ok-network.network c.args.numbers.now c.requires.size c.requires.entries c.entries-entries.ensures.entries c.in_ok-network.ensures.weights
    c.args.s c.args.t c.deref.result.now (λ k ne. stop_read c.deref.result.now c.in_ok-stops.stops.items c.deref.ensures.value false k (c.in_ok-stops.ensures.others k ne))
    c.limit-limit.result below)

pub with_side-requires-clause-has_weight : goal.with_side-requires-clause-has_weight
with_side-requires-clause-has_weight c =
    let flow = (rw c.in-Some.is at c.in_ok-found.ensures).0 in
    let size = c.n-n.ensures.value in
    let all = c.requires.all in (
      sym (c.is_odd.ensures ∙ odd_read c.entries.result.now c.args.x.now.entries c.deref-3.result.now c.in_ok-side.side.items c.entries.ensures.value c.deref-3.ensures.value) ∙ c.if-is_odd.true,
      side_weight c.args.x.now c.args.folded.now c.in_ok-network.network c.args.numbers.now c.requires.size c.requires.entries c.entries-entries.ensures.entries c.in_ok-network.ensures.weights
          c.args.s c.args.t c.deref.result.now (λ k ne. stop_read c.deref.result.now c.in_ok-stops.stops.items c.deref.ensures.value false k (c.in_ok-stops.ensures.others k ne))
          (c.in_ok-network.ensures.cities ∙ size) c.requires.below (stop_read c.deref.result.now c.in_ok-stops.stops.items c.deref.ensures.value true c.args.t c.in_ok-stops.ensures.here)
          c.requires.first c.requires.second c.in-Some.found flow c.in_ok-members.members.items c.in_ok-side.side.items
          (λ k h. c.in_ok-members.ensures.marks k (omega (arith, size, h)))
          (λ k h. mark_read c.deref-2.result.now c.in_ok-members.members.items c.deref-2.ensures.value (slice_index c.args.numbers.now k) (is_marked c.in_ok-side.side.items k) (c.in_ok-side.ensures.marks k (omega (arith, all, h)))),
    )

pub returns-then-is_odd-clause-parted : goal.returns-then-is_odd-clause-parted
returns-then-is_odd-clause-parted c =
    let flow = (rw c.in-Some.is at c.in_ok-found.ensures).0 in
    parting_less c.args.x.now (slice_index c.args.numbers.now) c.args.s c.args.t c.in-Some.found.value c.in_ok-best.best.weight c.in_ok-best.ensures.met
    (below_parting c.args.x.now c.args.folded.now c.in_ok-network.network c.args.numbers.now c.requires.size c.requires.entries c.entries-entries.ensures.entries c.in_ok-network.ensures.weights
    c.args.s c.args.t c.deref.result.now (λ k ne. stop_read c.deref.result.now c.in_ok-stops.stops.items c.deref.ensures.value false k (c.in_ok-stops.ensures.others k ne))
    c.in-Some.found.value flow.least)

pub returns-then-found-best-clause-parted : goal.returns-then-found-best-clause-parted
returns-then-found-best-clause-parted c =
    let flow = (rw c.in-Some.is at c.in_ok-found.ensures).0 in
    parting_less c.args.x.now (slice_index c.args.numbers.now) c.args.s c.args.t c.in-Some.found.value c.args.best.weight c.if-found-best.true
    (below_parting c.args.x.now c.args.folded.now c.in_ok-network.network c.args.numbers.now c.requires.size c.requires.entries c.entries-entries.ensures.entries c.in_ok-network.ensures.weights
    c.args.s c.args.t c.deref.result.now (λ k ne. stop_read c.deref.result.now c.in_ok-stops.stops.items c.deref.ensures.value false k (c.in_ok-stops.ensures.others k ne))
    c.in-Some.found.value flow.least)

pub returns-clause-parted : goal.returns-clause-parted
returns-clause-parted c =
    let flow = (rw c.in-Some.is at c.in_ok-found.ensures).0 in
    let size = c.n-n.ensures.value in
    let all = c.requires.all in
    even_least c.args.x.now c.args.folded.now c.in_ok-network.network c.args.numbers.now c.requires.size c.requires.entries c.entries-entries.ensures.entries c.in_ok-network.ensures.weights
    c.args.s c.args.t c.deref.result.now (λ k ne. stop_read c.deref.result.now c.in_ok-stops.stops.items c.deref.ensures.value false k (c.in_ok-stops.ensures.others k ne))
    (c.in_ok-network.ensures.cities ∙ size) c.requires.below (stop_read c.deref.result.now c.in_ok-stops.stops.items c.deref.ensures.value true c.args.t c.in_ok-stops.ensures.here)
    c.requires.first c.requires.second c.in-Some.found flow c.in_ok-members.members.items c.in_ok-side.side.items
    (λ k h. c.in_ok-members.ensures.marks k (omega (arith, size, h)))
    (λ k h. mark_read c.deref-2.result.now c.in_ok-members.members.items c.deref-2.ensures.value (slice_index c.args.numbers.now k) (is_marked c.in_ok-side.side.items k) (c.in_ok-side.ensures.marks k (omega (arith, all, h))))
    (sym (c.is_odd.ensures ∙ odd_read c.entries.result.now c.args.x.now.entries c.deref-3.result.now c.in_ok-side.side.items c.entries.ensures.value c.deref-3.ensures.value) ∙ c.if-is_odd.false)
