use Rattle.std.proofs.Common.{◌^◌, ◌<◌, ◌≤◌, ◌≡◌, ℕ, subst, sym, arith, ⊎_elim}
use Rattle.std.specs.List.{All}
use Rattle.std.proofs.lemmas.Bool.{cases_lt}
use Rattle.lpcheck.specs.Sizes.{IsWithin}
use Rattle.lpcheck.proofs.Bounds.{duals_within}
use Rattle.nodelp.specs.Duals.{newest_duals}
use Rattle.nodelp.specs.Pricing.{IsPassed}
use Rattle.nodelp.proofs.PriceLemmas.{clean_duals}
use Rattle.nodelp.proofs.pricing.negative_pairs.Goals as goal

pub potentials-requires-clause-sizes : goal.potentials-requires-clause-sizes
potentials-requires-clause-sizes c =
    let p = c.args.lp.now in
    subst (All (IsWithin (2 ^ 62))) (sym c.newest_duals-ys.ensures) (duals_within p.rows (newest_duals p.last) (clean_duals p c.requires.clean))

pub holdings-requires-clause-sizes : goal.holdings-requires-clause-sizes
holdings-requires-clause-sizes c =
    let p = c.args.lp.now in
    subst (All (IsWithin (2 ^ 62))) (sym c.newest_duals-ys.ensures) (duals_within p.rows (newest_duals p.last) (clean_duals p c.requires.clean))

pub add_wanting_of-requires-clause-sizes : goal.add_wanting_of-requires-clause-sizes
add_wanting_of-requires-clause-sizes c =
    let p = c.args.lp.now in
    subst (All (IsWithin (2 ^ 62))) (sym c.newest_duals-ys.ensures) (duals_within p.rows (newest_duals p.last) (clean_duals p c.requires.clean))

pub loop-v-preserved : goal.loop-v-preserved
loop-v-preserved c =
    let i = c.args.instance.now in
    let path = c.args.path.now.conditions in
    let p = c.args.lp.now in
    let v = c.loop-v.v in
    let after = c.in_ok-add_wanting_of.ensures in
    let longer = after.longer in
    record {
      negative = after.negative;
      passed = λ none a b low high. ⊎_elim
          (λ (l : b < v). c.loop-v.invariant.passed (omega (arith, longer, none)) a b low l)
          (λ (l : v ≤ b).
          let same : v ≡ b = omega (arith, l, high) in
          subst (λ (k : ℕ). IsPassed i path p a k) same (after.passed none a (omega (arith, low, same))))
          (cases_lt b v);
    }
