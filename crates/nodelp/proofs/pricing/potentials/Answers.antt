use Rattle.std.proofs.Common.{◌≡◌, ◌^◌, ℤ, to_z, of_z, subst, sym, ◌∙◌, arith}
use Rattle.std.specs.Int.{w128}
use Rattle.std.proofs.lemmas.Int.{ints}
use Rattle.std.proofs.lemmas.List.Elements.{All-push}
use Rattle.std.specs.List.{All}
use Rattle.lpcheck.specs.Sizes.{IsWithin}
use Rattle.nodelp.proofs.PriceLemmas.{potentials_more}
use Rattle.nodelp.proofs.pricing.potentials.Goals as goal

pub loop-v-preserved : goal.loop-v-preserved
loop-v-preserved c =
    let v = c.loop-v.invariant in
    let size = c.potential.ensures.size in
    let y : ℤ = to_z w128 (of_z w128 c.potential.result) in
    let same : y ≡ c.potential.result = omega (arith, ints, size.low, size.high) in
    let items = c.in_ok-push.ensures.items in
    record {
      each = potentials_more c.loop-v.v c.args.rows.now c.args.ys.now c.loop-v.ps.items c.push.new.self.items y v.each items (same ∙ c.potential.ensures.value);
      size = subst (All (IsWithin (2 ^ 100))) (sym items) (All-push (IsWithin (2 ^ 100)) c.loop-v.ps.items y v.size (subst (IsWithin (2 ^ 100)) (sym same) size));
    }
