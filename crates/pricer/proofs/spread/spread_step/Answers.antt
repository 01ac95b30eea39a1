use Rattle.std.proofs.Common.{◌+ℤ◌, ap, sym, ◌∙◌}
use Rattle.std.specs.Prelude.{ℤ}
use Rattle.pricer.specs.Prices.{at}
use Rattle.pricer.proofs.SpreadLemmas.{held_two}
use Rattle.pricer.proofs.spread.spread_step.Goals as goal

pub returns-in-Two : goal.returns-in-Two
returns-in-Two c = λ v. rw c.in-Two.is (c.lower.ensures v ∙ ap (λ (x : ℤ). at c.args.numbers.now v +ℤ x) (sym (held_two c.in-Two.set.now.cities c.args.dual c.args.holder v)))
