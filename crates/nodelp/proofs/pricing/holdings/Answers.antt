use Rattle.std.proofs.Common.{◌≡◌, ◌^◌, ℤ, to_z, of_z, subst, sym, ◌∙◌, arith}
use Rattle.std.specs.Int.{w128}
use Rattle.std.proofs.lemmas.Int.{ints}
use Rattle.lpcheck.specs.Sizes.{IsWithin}
use Rattle.nodelp.proofs.HoldingLemmas.{holdings_more}
use Rattle.nodelp.proofs.pricing.holdings.Goals as goal

pub loop-v-preserved : goal.loop-v-preserved
loop-v-preserved c =
    let size = c.holding.ensures.size in
    let y : ℤ = to_z w128 (of_z w128 c.holding.result) in
    let same : y ≡ c.holding.result = omega (arith, ints, size.low, size.high) in
    holdings_more c.loop-v.v c.args.rows.now c.args.ys.now c.loop-v.hs.items c.push.new.self.items y c.loop-v.invariant c.in_ok-push.ensures.items
    (same ∙ c.holding.ensures.value) (subst (IsWithin (2 ^ 101)) (sym same) size)
