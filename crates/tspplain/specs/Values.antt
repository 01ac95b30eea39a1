-- The plain values as those that the definitions speak of.
use Rattle.std.specs.Prelude.{ℕ, Bool, true, false, List, map}
use Rattle.std.specs.Global.{Vec}
use Rattle.tspplain.specs.declared.values.Rule.{Rule}
use Rattle.tspplain.specs.declared.values.Rule.TheVariants as rules
use Rattle.tspplain.specs.declared.values.Instance.{Instance}
use Rattle.tspplain.specs.declared.values.Cut.{Cut}
use Rattle.tspplain.specs.declared.values.Cut.TheVariants as cuts
use Rattle.tspplain.specs.declared.values.Condition.{Condition}
use Rattle.tspplain.specs.declared.values.Condition.TheVariants as conditions
use Rattle.tspplain.specs.declared.values.CutDual.{CutDual}
use Rattle.tspplain.specs.declared.values.CliqueDual.{CliqueDual}
use Rattle.tspplain.specs.declared.values.Closing.{Closing}
use Rattle.tspdef.specs.Distances as d
use Rattle.tspdef.specs.Instances as i
use Rattle.tspdef.specs.Cuts as c
use Rattle.tspdef.specs.Paths as p
use Rattle.tspdef.specs.Closings as k

abbrev pub rule_of : Rule → d.Rule
rule_of rules.Euclidean = d.euclidean
rule_of rules.RoundedUp = d.rounded_up
rule_of rules.PseudoEuclidean = d.pseudo_euclidean
rule_of rules.Manhattan = d.manhattan
rule_of rules.Maximum = d.maximum

abbrev pub instance_of : Instance → i.Instance
instance_of x = record { n = x.n; table = x.table.items; fixed = x.fixed.items }

abbrev pub lists : List (Vec ℕ) → List (List ℕ)
lists sets = map (λ s. s.items) sets

-- a cut of n cities
abbrev pub cut_of : ℕ → Cut → c.Cut
cut_of n (cuts.Subtour s) = c.subtour n s.items
cut_of n (cuts.Comb h ts) = c.comb n h.items (lists ts.items)
cut_of n (cuts.Odd h ps) = c.odd n h.items ps.items

abbrev pub condition_of : Condition → p.Condition
condition_of (conditions.Fixed u v) = p.fixed u v
condition_of (conditions.Absent u v) = p.absent u v
condition_of (conditions.Present u v) = p.present u v
condition_of (conditions.Two s) = p.two s.items
condition_of (conditions.Four s) = p.four s.items

-- a fixed pair, which has no depth
abbrev pub is_fixed_condition : p.Condition → Bool
is_fixed_condition (p.fixed u v) = true
is_fixed_condition (p.absent u v) = false
is_fixed_condition (p.present u v) = false
is_fixed_condition (p.two s) = false
is_fixed_condition (p.four s) = false

abbrev pub path_of : List Condition → List p.Condition
path_of path = map condition_of path

abbrev pub cut_dual_of : ℕ → CutDual → c.Cut × ℕ
cut_dual_of n q = (cut_of n q.cut, q.dual)

abbrev pub cut_duals_of : ℕ → List CutDual → List (c.Cut × ℕ)
cut_duals_of n qs = map (cut_dual_of n) qs

abbrev pub clique_duals_of : List CliqueDual → List (ℕ × ℕ)
clique_duals_of qs = map (λ q. (q.depth, q.dual)) qs

-- a closing of n cities
abbrev pub closing_of : ℕ → Closing → k.Closing
closing_of n x = record { city = x.city.items; cuts = cut_duals_of n x.cuts.items; conds = clique_duals_of x.conds.items }
