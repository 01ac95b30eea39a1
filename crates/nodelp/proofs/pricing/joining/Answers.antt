use Rattle.std.proofs.Common.{Vec, Global, List, ◌+◌, ◌≡◌, ◌≢◌, ◌<◌, ◌++◌, ◌∷◌, [], ℕ, ℤ, pos, ◌*ℤ◌, length, length-append, get_or, to_z, of_z, ap, subst, sym, ◌∙◌, arith}
use Rattle.std.specs.Int.{w128}
use Rattle.std.proofs.lemmas.Int.{ints}
use Rattle.std.specs.List.{All}
use Rattle.std.proofs.lemmas.List.Elements.{All-push}
use Rattle.lpcheck.specs.Rows.{cities_of_each, signed}
use Rattle.nodelp.specs.Holding.{shared}
use Rattle.nodelp.proofs.HoldingLemmas.{so_far_with, so_far_without, IsSoFar}
use Rattle.nodelp.proofs.pricing.joining.Goals.{then-is_joining+in_ok-push, else-is_joining}
use Rattle.nodelp.proofs.pricing.joining.Goals as goal

pub loop-at-preserved : goal.loop-at-preserved
loop-at-preserved c =
    let at = c.loop-at.at in
    let rows = c.args.rows.now in
    let ys = c.args.ys.now in
    let v = c.args.v in
    let row = c.index-rows-at.result in
    let inv = c.loop-at.invariant in
    let in_rows = c.loop-at-test.true in
    let in_ys : at < length ys = omega (arith, in_rows, c.requires.size) in
    let size = c.requires.sizes at (pos 0) in_ys in
    let read : to_z w128 (of_z w128 (get_or ys at (pos 0))) ≡ get_or ys at (pos 0) = omega (arith, ints, size.low, size.high) in
    elim c.if-is_joining.branch [
      | then-is_joining+in_ok-push w ↦
          let items : c.if-is_joining.places.items ≡ c.loop-at.places.items ++ at ∷ [] = ap (λ (q : Vec ℕ Global). q.items) w.places-is ∙ w.in_ok-push.ensures.items in
          let longer = length-append c.loop-at.places.items (at ∷ []) in
          let more = ap length items in
          record {
            few = omega (arith, inv.few, longer, more);
            within = subst (All (λ (k : ℕ). k < length rows)) (sym items) (All-push (λ (k : ℕ). k < length rows) c.loop-at.places.items at inv.within in_rows);
            so_far = so_far_with rows ys v c.loop-at.places.items c.if-is_joining.places.items at row (pos 0) c.index-rows-at.is in_rows in_ys inv.so_far items;
          }
      | else-is_joining w ↦
          let none : (u : ℕ) → u ≢ v → signed row.sense (get_or ys at (pos 0)) *ℤ pos (shared (cities_of_each row.sets.items) u v) ≡ pos 0
          = λ u apart. ap (λ (y : ℤ). signed row.sense y *ℤ pos (shared (cities_of_each row.sets.items) u v)) (sym read) ∙ c.is_joining.ensures w.if-is_joining.false u apart in
          let next = so_far_without rows ys v c.loop-at.places.items at row (pos 0) c.index-rows-at.is in_rows in_ys none inv.so_far in
          let items : c.if-is_joining.places.items ≡ c.loop-at.places.items = ap (λ (q : Vec ℕ Global). q.items) w.places-is in
          let same = ap length items in
          record {
            few = omega (arith, inv.few, same);
            within = subst (All (λ (k : ℕ). k < length rows)) (sym items) inv.within;
            so_far = subst (λ (ks : List ℕ). IsSoFar rows ys v ks (at + 1)) (sym items) next;
          }
    ]
