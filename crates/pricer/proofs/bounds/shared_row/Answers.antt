use Rattle.std.proofs.Common.{◌≡◌, ℕ, ◌≤◌, ◌^◌, List, length, arith, refl, ap, ◌∙◌, pos}
use Rattle.std.specs.Prelude.{ℤ, replicate}
use Rattle.std.specs.Int.{int_min}
use Rattle.std.proofs.Math.Nat.{mul-le-mul_left}
use Rattle.tspdef.specs.Instances.{dist}
use Rattle.tspdef.specs.Sums.{sum_below}
use Rattle.pricer.specs.Sizes.{IsWithin}
use Rattle.pricer.specs.Prices.{at, cost_of}
use Rattle.pricer.proofs.SizeLemmas.{read128}
use Rattle.pricer.proofs.ListLemmas.{no_number}
use Rattle.pricer.proofs.RowLemmas.{price_size, shared_size, row_sum}
use Rattle.pricer.proofs.bounds.shared_row.Goals as goal

-- a cleared number
cleared : (xs : List ℤ) (n k : ℕ) → xs ≡ replicate n (pos 0) → at xs k ≡ pos 0
cleared xs n k e = ap (λ ys. at ys k) e ∙ no_number n k

pub lay_shared-requires : goal.lay_shared-requires
lay_shared-requires g c κs =
    let long = c.fill.ensures.len in
    let room = c.requires.room in
    let zeros = c.fill.ensures.after (λ y e. e) in
    ((refl, tt), (c.requires.cities, (c.requires.closing, (omega arith, λ k. cleared c.fill.new.self (length c.args.shared.now) k zeros))))

pub row_loss-requires-clause-own_len : goal.row_loss-requires-clause-own_len
row_loss-requires-clause-own_len g c = let long = c.fill.ensures.len in let kept = c.lay_shared.auto.shared in let room = c.requires.room in omega arith

pub row_loss-requires-clause-base : goal.row_loss-requires-clause-base
row_loss-requires-clause-base g c =
    let size : IsWithin (2 ^ 100) (at c.args.price.now c.args.v) = rw (c.requires.price c.args.v) (price_size c.args.instance.now (g.T.Trail.conditions c.args.trail) c.args.closing.now c.args.v c.requires.few c.requires.closing) in
    rw (read128 (2 ^ 100) (at c.args.price.now c.args.v) (omega arith) size) size

pub row_loss-requires-clause-price : goal.row_loss-requires-clause-price
row_loss-requires-clause-price g c = λ k. rw (c.requires.price k) (price_size c.args.instance.now (g.T.Trail.conditions c.args.trail) c.args.closing.now k c.requires.few c.requires.closing)

pub row_loss-requires-clause-own : goal.row_loss-requires-clause-own
row_loss-requires-clause-own g c = λ k. rw (c.lay_shared.ensures k) (shared_size c.args.instance.now (g.T.Trail.conditions c.args.trail) c.args.closing.now c.args.v k c.requires.few c.requires.closing)

pub returns-clause-value : goal.returns-clause-value
returns-clause-value g c =
    let i = c.args.instance.now in
    let path = g.T.Trail.conditions c.args.trail in
    let v = c.args.v in
    let price = c.args.price.now in
    let own = c.lay_shared.new.shared in
    let size : IsWithin (2 ^ 100) (at price v) = rw (c.requires.price v) (price_size i path c.args.closing.now v c.requires.few c.requires.closing) in
    let base = read128 (2 ^ 100) (at price v) (omega arith) size in
    c.row_loss.ensures.value ∙ ap (λ (b : ℤ). sum_below (λ u. int_min (pos 0) (cost_of (dist i v u) b (at price u) (at own u))) v) base
    ∙ row_sum i path c.args.closing.now price own v c.requires.price c.lay_shared.ensures

pub returns-clause-size : goal.returns-clause-size
returns-clause-size g c =
    let few = c.requires.few in
    let city = c.requires.city in
    let less : c.args.v ≤ 2000 = omega arith in
    let most = mul-le-mul_left (2 ^ 103) less in
    let size = c.row_loss.ensures.size in
    omega arith
