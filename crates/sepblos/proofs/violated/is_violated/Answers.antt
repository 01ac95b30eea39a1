use Rattle.std.proofs.Common.{◌≡◌, ◌*◌, pos, ◌-ℤ◌, sym, ap, ◌∙◌}
use Rattle.tspdef.specs.Bounds.{violation}
use Rattle.cyc.specs.Frac.{value_of}
use Rattle.sepblos.proofs.WeightLemmas.{worth_from_test, test_from_worth}
use Rattle.sepblos.proofs.violated.is_violated.Goals as goal

pub returns : goal.returns
returns c =
    let v = violation (value_of c.args.x.now.entries) c.args.x.now.n c.args.cut.now in
    let right = c.from-right.ensures ∙ c.rhs.ensures.value in
    let missed : v ≡ pos (1048576 * c.from-right.result) -ℤ pos c.weight.result = c.weight.ensures.missed ∙ ap (λ k. pos (1048576 * k) -ℤ pos c.weight.result) (sym right) in (
      λ t. worth_from_test c.weight.result c.from-right.result v missed t,
      λ h. test_from_worth c.weight.result c.from-right.result v missed h,
    )
