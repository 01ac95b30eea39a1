use Rattle.std.proofs.Common.{◌≡◌, ℤ, true, sym, ◌∙◌, ap, subst, arith, w64, to_z, of_z, FitsSigned, List, ℕ, rules}
use Rattle.std.specs.Prelude.{nat_le}
use Rattle.std.proofs.lemmas.Int.{ints}
use Rattle.certcheck.specs.Purposes.{tests_by}
use Rattle.certdef.specs.Verdicts.{after, duals_on}
use Rattle.certcheck.specs.Paths.{later}
use Rattle.certcheck.specs.Stages.{head, open_duals, Goes}
use Rattle.certcheck.proofs.StepLemmas.{city_goes}
use Rattle.certcheck.proofs.progress.Progress.on_city.Goals as goal

pub returns-clause-goes : goal.returns-clause-goes
returns-clause-goes c =
    let s = c.args.self.now in
    let j = tests_by c.args.self.now.purpose c.args.instance.now in
    let may : nat_le (after s.cities.items) c.in-City.city ≡ true = ap (λ r. nat_le (after r) c.in-City.city) (sym c.deref.ensures.value) ∙ sym c.may_follow_city.ensures ∙ c.if-not-may_follow_city.false in
    let fits : FitsSigned w64 c.in-City.dual = search rules in
    let same : to_z w64 (of_z w64 c.in-City.dual) ≡ c.in-City.dual = omega (arith, ints) in
    let more = λ (r : List (ℕ × ℤ)). duals_on j (head s) (later s.path.conditions) (record { at = c.args.from; path = s.path.conditions; duals = record { cities = r; cuts = s.cut_duals.items; conds = s.condition_duals.items } }) c.args.a c.args.b c.args.c in
    rw c.in-City.is (subst (λ o. Goes c.args.instance.now.n c.duals_on.result c.duals_on.new.self o)
    (ap more c.in_ok-push.ensures.items ∙ city_goes j (head s) (later s.path.conditions) (open_duals s c.args.from) c.args.a c.args.b c.args.c c.args.at c.in-City.city c.in-City.dual (to_z w64 (of_z w64 c.in-City.dual)) may same) c.duals_on.ensures.goes)
