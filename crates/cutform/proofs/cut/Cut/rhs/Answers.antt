use Rattle.std.proofs.Common.{arith, ap, List, length}
use Rattle.std.specs.Arc.{arc_value}
use Rattle.std.proofs.lemmas.List.{length-map}
use Rattle.cyc.specs.CitySet.{Members}
use Rattle.cutform.proofs.PartLemmas.{fields_wide}
use Rattle.cutform.proofs.CombLemmas.{made-met}
use Rattle.cutform.proofs.cut.Cut.rhs.Goals as goal

pub overflow_cast-result : goal.overflow_cast-result
overflow_cast-result c = let few = fields_wide _ _ _ _ c.args.self.now c.self.invariant c.self.view_is in let l = ap (λ (xs : List Members). length xs) c.listed.ensures in omega (arith, l, length-map (arc_value c.self.inside.sets).items (λ (s : Members). s.cities))

pub overflow_mul-result : goal.overflow_mul-result
overflow_mul-result c = let few = fields_wide _ _ _ _ c.args.self.now c.self.invariant c.self.view_is in let l = ap (λ (xs : List Members). length xs) c.listed.ensures in omega (arith, l, length-map (arc_value c.self.inside.sets).items (λ (s : Members). s.cities))

pub overflow_add-result : goal.overflow_add-result
overflow_add-result c = let few = fields_wide _ _ _ _ c.args.self.now c.self.invariant c.self.view_is in let l = ap (λ (xs : List Members). length xs) c.listed.ensures in omega (arith, l, length-map (arc_value c.self.inside.sets).items (λ (s : Members). s.cities))

pub returns-in-Subtour-clause-met : goal.returns-in-Subtour-clause-met
returns-in-Subtour-clause-met c = made-met _ _ _ _ c.args.self.now c.self.invariant c.self.view_is

pub returns-in-Comb-clause-met : goal.returns-in-Comb-clause-met
returns-in-Comb-clause-met c = made-met _ _ _ _ c.args.self.now c.self.invariant c.self.view_is

pub returns-in-Odd-clause-met : goal.returns-in-Odd-clause-met
returns-in-Odd-clause-met c = made-met _ _ _ _ c.args.self.now c.self.invariant c.self.view_is
