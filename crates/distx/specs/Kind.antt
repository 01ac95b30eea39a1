-- Which rule of TSPLIB 95 a kind of distance is.
use Rattle.tspdef.specs.Distances.{Rule, euclidean, rounded_up, pseudo_euclidean, manhattan, maximum}
use Rattle.distx.specs.declared.Kind.{Kind}
use Rattle.distx.specs.declared.Kind.TheVariants.{Euc, Ceil, Att, Man, Max}

-- the rule that a kind names
abbrev pub rule_of : Kind → Rule
rule_of Euc = euclidean
rule_of Ceil = rounded_up
rule_of Att = pseudo_euclidean
rule_of Man = manhattan
rule_of Max = maximum
