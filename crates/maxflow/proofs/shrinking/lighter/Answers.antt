use Rattle.std.proofs.Common.{◌≡◌, ◌≤◌, ◌<◌, ℕ, false, inr, refl, sym, subst, arith}
use Rattle.tspdef.specs.Sets.{IsProper}
use Rattle.maxflow.specs.Shrinking.{in_group}
use Rattle.maxflow.proofs.ShrinkLemmas.{proper_group}
use Rattle.maxflow.proofs.shrinking.lighter.Goals as goal
use Rattle.maxflow.proofs.shrinking.lighter.Goals.{then-weight-best+in_ok-group+else-is_proper, else-weight-best}

light : (c : goal.Joined-weight-best) (k : ℕ) → k < c.args.n → in_group c.args.groups.now c.args.a k ≡ false → c.args.best ≤ c.args.weight
light c =
    elim c.if-weight-best.branch [
      | then-weight-best+in_ok-group+else-is_proper w ↦ λ k h lacks.
          let s = w.in_ok-group.group in
          let e = w.in_ok-group.ensures in
          let t = w.is_proper.ensures.1 (subst (λ n. IsProper n s.cities) (sym e.cities) (proper_group c.args.n c.args.groups.now c.args.a k s.cities c.requires.first h lacks e.set e.members)) in
          let f = w.if-is_proper.false in
          absurd cc
      | else-weight-best w ↦ λ k h lacks. w.if-weight-best.false
    ]

pub returns : goal.returns
returns c = record {
  kept = inr (record { value = refl; same = refl });
  no_more = omega arith;
  light = light c;
}
