use Rattle.std.proofs.Common.{◌≡◌, ℕ, ◌*◌, ◌^◌, arith, subst, sym, ◌∙◌, [], pos}
use Rattle.std.specs.Prelude.{ℤ, neg_ℤ, ◌+ℤ◌, ◌-ℤ◌, ◌≤ℤ◌, List}
use Rattle.std.proofs.lemmas.Int.{ints}
use Rattle.tspdef.specs.Sums.{sum_below}
use Rattle.tspdef.specs.Instances.{Instance, length_in}
use Rattle.tspdef.specs.Paths.{Condition}
use Rattle.tspdef.specs.Closings.{Closing}
use Rattle.tspdef.specs.Bounds.{scale, worth, cut_rows, condition_rows, city_dual, reduced_cost, bound}
use Rattle.pricer.specs.Sizes.{IsWithin}
use Rattle.pricer.specs.Prices.{terms}
use Rattle.pricer.proofs.SizeLemmas.{bound_size, read128}
use Rattle.pricer.proofs.bounds.bound_on.Given.{Over}
use Rattle.pricer.proofs.bounds.bound_on.Goals as goal
use Rattle.pricer.proofs.bounds.bound_on.Goals.{After-balance}

sum : (i : Instance) (path : List Condition) (k : Closing) (n : ℕ) (a b r : ℤ) (l : ℕ) → n ≡ i.n
    → a ≡ sum_below (city_dual k) n +ℤ sum_below (city_dual k) n +ℤ worth (cut_rows k.cuts) +ℤ worth (condition_rows path k.conds)
    → b ≡ terms i.n (reduced_cost i path k) path -ℤ terms i.n (reduced_cost i path k) [] → neg_ℤ (pos l) ≡ terms i.n (reduced_cost i path k) []
    → r ≡ a +ℤ b -ℤ pos l → r ≡ bound i path k
sum i path k n a b r l same fixed changed lost e = let f = rw same at fixed in omega (arith, ints)

-- what is answered is the bound
is_bound : (g : Over) (c : After-balance g) → c.balance.result ≡ bound c.args.instance.now (g.T.Trail.conditions c.args.trail) c.args.closing.now
is_bound g c =
    let a = read128 (2 ^ 89) c.worth-worth.result (omega arith) c.worth-worth.ensures.size in
    let b = read128 (2 ^ 110) c.changes-changes.result (omega arith) c.changes-changes.ensures.size in
    let e = c.balance.ensures in
    sum c.args.instance.now (g.T.Trail.conditions c.args.trail) c.args.closing.now c.n.result c.worth-worth.result c.changes-changes.result c.balance.result c.losses.result
    c.n.ensures.same c.worth-worth.ensures.value c.changes-changes.ensures.value c.losses.ensures.value (omega (arith, ints))

small : (g : Over) (c : After-balance g) → IsWithin (2 ^ 110) c.balance.result
small g c = subst (IsWithin (2 ^ 110)) (sym (is_bound g c)) (bound_size c.args.instance.now (g.T.Trail.conditions c.args.trail) c.args.closing.now c.n.ensures.instance c.requires.closing)

pub returns-clause-value : goal.returns-clause-value
returns-clause-value g c = read128 (2 ^ 110) c.balance.result (omega arith) (small g c) ∙ is_bound g c

pub returns-clause-size : goal.returns-clause-size
returns-clause-size g c = subst (IsWithin (2 ^ 110)) (sym (read128 (2 ^ 110) c.balance.result (omega arith) (small g c))) (small g c)

pub returns-clause-below : goal.returns-clause-below
returns-clause-below g c = λ tour is obeys.
    let most = pos (scale * length_in c.args.instance.now tour) in
    subst (λ (x : ℤ). x ≤ℤ most) (sym (read128 (2 ^ 110) c.balance.result (omega arith) (small g c) ∙ is_bound g c))
    (c.bound_is_below.ensures.bound c.args.instance.now (g.T.Trail.conditions c.args.trail) c.args.closing.now tour c.n.ensures.instance.many is c.requires.closing obeys)
