use Rattle.std.proofs.Common.{◌≡◌, ℕ, ◌^◌, List, length, arith, ap, sym, ◌∙◌, pos}
use Rattle.std.specs.Prelude.{ℤ, replicate, ◌+ℤ◌}
use Rattle.std.proofs.lemmas.Int.{ints}
use Rattle.std.specs.Int.{int_min}
use Rattle.std.specs.Prelude.{Option, Some}
use Rattle.tspdef.specs.Instances.{dist}
use Rattle.tspdef.specs.Cuts.{Cut}
use Rattle.tspdef.specs.Sums.{sum_below}
use Rattle.tspdef.specs.Bounds.{cut_rows}
use Rattle.pricer.specs.Prices.{at, held, shared_by, cost_of}
use Rattle.pricer.proofs.SizeLemmas.{within_zero, within_more, read64}
use Rattle.pricer.proofs.ListLemmas.{no_number}
use Rattle.pricer.proofs.RowLemmas.{row_sum}
use Rattle.pricer.proofs.WeightLemmas.{shared_light, shared_light_size}
use Rattle.pricer.proofs.light_rows.shared_row.Goals as goal

-- a cleared number
cleared : (xs : List ℤ) (n k : ℕ) → xs ≡ replicate n (pos 0) → at xs k ≡ pos 0
cleared xs n k e = ap (λ ys. at ys k) e ∙ no_number n k

pub lay_groups-requires-clause-numbers : goal.lay_groups-requires-clause-numbers
lay_groups-requires-clause-numbers g c =
    let zeros = c.fill.ensures.after (λ y e. e) in
    λ k. rw (cleared c.fill.new.self (length c.args.shared.now) k zeros) (within_zero (2 ^ 46))

laid_on_none : (x a : ℤ) (qs rs : List (Cut × ℕ)) (h : Option ℕ) (k : ℕ) → x ≡ a +ℤ held h (cut_rows qs) k → a ≡ pos 0 → qs ≡ rs → x ≡ held h (cut_rows rs) k
laid_on_none x a qs rs h k e z s = let same = ap (λ (ts : List (Cut × ℕ)). held h (cut_rows ts) k) s in omega (arith, ints)

pub light_row_loss-requires-clause-own : goal.light_row_loss-requires-clause-own
light_row_loss-requires-clause-own g c = λ k.
    let path = g.T.Trail.conditions c.args.trail in
    let zero = cleared c.fill.new.self (length c.args.shared.now) k (c.fill.ensures.after (λ y e. e)) in
    let own = laid_on_none (at c.lay_groups.new.numbers k) _ _ c.args.closing.now.cuts (Some c.args.v) k (c.lay_groups.ensures k) zero c.cuts.ensures ∙ sym (shared_light path c.args.closing.now c.args.v k c.requires.light) in
    rw own (within_more (2 ^ 46) (2 ^ 50) (shared_by path c.args.closing.now c.args.v k) (omega arith) (shared_light_size path c.args.closing.now c.args.v k c.requires.light))

pub returns-clause-value : goal.returns-clause-value
returns-clause-value g c =
    let i = c.args.instance.now in
    let path = g.T.Trail.conditions c.args.trail in
    let v = c.args.v in
    let price = c.args.price.now in
    let own = c.lay_groups.new.numbers in
    let base = read64 (2 ^ 50) (at price v) (omega arith) (c.requires.small v) in
    c.light_row_loss.ensures.value ∙ ap (λ (b : ℤ). sum_below (λ u. int_min (pos 0) (cost_of (dist i v u) b (at price u) (at own u))) v) base
    ∙ row_sum i path c.args.closing.now price own v c.requires.price (λ k.
    laid_on_none (at own k) _ _ c.args.closing.now.cuts (Some v) k (c.lay_groups.ensures k) (cleared c.fill.new.self (length c.args.shared.now) k (c.fill.ensures.after (λ y e. e))) c.cuts.ensures
    ∙ sym (shared_light path c.args.closing.now v k c.requires.light))
