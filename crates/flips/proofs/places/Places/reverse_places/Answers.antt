use Rattle.std.proofs.Common.{◌≡◌, ◌+◌, ◌-◌, ◌<◌, ℕ, slice_index, sym, ◌∙◌, ap, subst, arith}
use Rattle.std.proofs.Math.ListN.{set}
use Rattle.flips.specs.Places.{wrap}
use Rattle.flips.proofs.Turns.{wrap_is}
use Rattle.flips.proofs.Mirrors.{Mirrored, mirrored_more, mirrored_all}
use Rattle.flips.proofs.places.Places.reverse_places.Goals as goal

step_up : (n i s : ℕ) → i < n → s < n → wrap n (wrap n (i + s) + 1) ≡ wrap n (i + (s + 1))
step_up n i s h l = grind (arith, wrap_is)

step_down : (n i j : ℕ) → i < n → j + 1 < n → wrap n (wrap n (i + (j + 1)) + (n - 1)) ≡ wrap n (i + j)
step_down n i j h l = grind (arith, wrap_is)

pub loop-done-preserved : goal.loop-done-preserved
loop-done-preserved c =
    let t = c.args.self.now in
    let v = c.loop-done.invariant in
    let s = c.loop-done.done in
    let j = c.args.count - 1 - s in
    let hi : c.loop-done.high ≡ wrap t.n (c.args.start + j) = v.high j (omega arith) in
    let lo = v.low in
    let xs = c.loop-done.self.order.items in
    let more = mirrored_more t.n c.args.start c.args.count s j (slice_index xs c.loop-done.low) (slice_index xs c.loop-done.high) t.order.items xs c.requires.first c.requires.few (omega arith) (omega arith)
    (ap (λ k. slice_index xs k) lo) (ap (λ k. slice_index xs k) hi) v.mirrored in
    let a = slice_index xs c.loop-done.low in
    let b = slice_index xs c.loop-done.high in
    let first = subst (λ k. Mirrored t.n c.args.start c.args.count (s + 1) t.order.items (set (set xs k b) (wrap t.n (c.args.start + j)) a)) (sym lo) more in
    let second = subst (λ k. Mirrored t.n c.args.start c.args.count (s + 1) t.order.items (set (set xs c.loop-done.low b) k a)) (sym hi) first in
    record {
      low_in = omega arith;
      high_in = omega arith;
      size = omega arith;
      low = c.above-low.ensures.value ∙ (let e : c.swap.new.self.n ≡ t.n = omega arith in rw (e, lo) (step_up t.n c.args.start s c.requires.first (omega arith)));
      high = λ k h. c.below-high.ensures.value ∙ (let e : c.swap.new.self.n ≡ t.n = omega arith in let f : j ≡ k + 1 = omega arith in rw (e, hi, f) (step_down t.n c.args.start k c.requires.first (omega arith)));
      mirrored = subst (λ v. Mirrored t.n c.args.start c.args.count (s + 1) t.order.items v) (sym c.swap.ensures.order) second;
    }

pub returns-clause-turned : goal.returns-clause-turned
returns-clause-turned c = mirrored_all c.args.self.now.n c.args.start c.args.count c.loop-done.done c.args.self.now.order.items c.loop-done.self.order.items (omega (arith, c.args.self.now.order_size)) c.requires.first c.requires.few (omega arith) (omega arith) c.loop-done.invariant.mirrored
