use Rattle.std.proofs.Common.{◌≡◌, ◌^◌, ◌<◌, ◌≤◌, ℕ, List, arith}
use Rattle.cyc.specs.declared.frac.Entry.{Entry}
use Rattle.cyc.specs.Frac.{AreEntries}
use Rattle.maxflow.specs.Crossings.{between}
use Rattle.maxflow.specs.Shrinking.{in_group}
use Rattle.maxflow.proofs.CrossingLemmas.{crossing_small}
use Rattle.maxflow.proofs.ShrinkLemmas.{between_less, exact}
use Rattle.maxflow.proofs.groups.values_to.Goals as goal

below : (n : ℕ) (es : List Entry) (groups : List ℕ) (a k : ℕ) → n ≤ 2000 → AreEntries n es → (k ≡ a → ⊥) → between es (in_group groups a) (in_group groups k) < 2 ^ 53
below n es groups a k few all ne =
    let l = between_less es groups a k ne in
    let s = crossing_small n es (in_group groups a) few all in
    omega (arith, l, s)

pub returns-clause-values : goal.returns-clause-values
returns-clause-values c = λ k h ne.
    exact _ _ (c.in_ok-values.ensures.sums k h) (below c.args.n c.args.entries.now c.args.groups.now c.args.a k c.requires.few c.requires.entries ne)

pub returns-clause-small : goal.returns-clause-small
returns-clause-small c = λ k h ne.
    let l = below c.args.n c.args.entries.now c.args.groups.now c.args.a k c.requires.few c.requires.entries ne in
    let e = exact _ _ (c.in_ok-values.ensures.sums k h) l in
    omega (arith, e, l)
