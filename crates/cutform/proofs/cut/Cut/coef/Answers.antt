use Rattle.std.proofs.Common.{arith, ap, map}
use Rattle.tspdef.specs.Cuts.{coefficient, pair_set}
use Rattle.cutform.specs.Cut.{cities_of_each}
use Rattle.cutform.proofs.PartLemmas.{fields, fields_coefficient, fields_crossed, coefficient_three}
use Rattle.cutform.proofs.cut.Cut.coef.Goals as goal

pub crossed_sets-requires : goal.crossed_sets-requires
crossed_sets-requires c =
    let a = ap (λ xs. coefficient (cities_of_each xs) c.args.u c.args.v) c.listed.ensures in
    let most = fields_crossed _ _ _ _ c.args.self.now c.self.invariant c.self.view_is c.args.u c.args.v in
    omega arith

pub crossed_pairs-requires : goal.crossed_pairs-requires
crossed_pairs-requires c =
    let b = ap (λ xs. coefficient (map pair_set xs) c.args.u c.args.v) c.deref.ensures.value in
    let most = fields_crossed _ _ _ _ c.args.self.now c.self.invariant c.self.view_is c.args.u c.args.v in
    omega arith

pub overflow_add-result : goal.overflow_add-result
overflow_add-result c =
    let a = ap (λ xs. coefficient (cities_of_each xs) c.args.u c.args.v) c.listed.ensures in
    let b = ap (λ xs. coefficient (map pair_set xs) c.args.u c.args.v) c.deref.ensures.value in
    let most = fields_crossed _ _ _ _ c.args.self.now c.self.invariant c.self.view_is c.args.u c.args.v in
    omega arith

pub returns-clause-value : goal.returns-clause-value
returns-clause-value c =
    let a = ap (λ xs. coefficient (cities_of_each xs) c.args.u c.args.v) c.listed.ensures in
    let b = ap (λ xs. coefficient (map pair_set xs) c.args.u c.args.v) c.deref.ensures.value in
    let e = fields_coefficient _ _ _ _ c.args.self.now c.self.invariant c.self.view_is c.args.u c.args.v in
    omega arith

pub returns-clause-bound : goal.returns-clause-bound
returns-clause-bound c =
    let a = ap (λ xs. coefficient (cities_of_each xs) c.args.u c.args.v) c.listed.ensures in
    let b = ap (λ xs. coefficient (map pair_set xs) c.args.u c.args.v) c.deref.ensures.value in
    let most = fields_crossed _ _ _ _ c.args.self.now c.self.invariant c.self.view_is c.args.u c.args.v in
    omega arith

pub returns-clause-few : goal.returns-clause-few
returns-clause-few c = λ other.
    let a = ap (λ xs. coefficient (cities_of_each xs) c.args.u c.args.v) c.listed.ensures in
    let b = ap (λ xs. coefficient (map pair_set xs) c.args.u c.args.v) c.deref.ensures.value in
    let e = fields_coefficient _ _ _ _ c.args.self.now c.self.invariant c.self.view_is c.args.u c.args.v in
    let is = (fields _ _ _ _ c.args.self.now c.self.invariant c.self.view_is).is_cut in
    let three = coefficient_three _ c.args.self.now c.args.u c.args.v is other in
    omega arith
