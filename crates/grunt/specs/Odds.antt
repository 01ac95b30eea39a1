-- What an exact search for odd cuts answered before a split.
use Rattle.std.specs.Prelude.{◌^◌, min, List, map, pos, ◌<ℤ◌, Option, Some, None}
use Rattle.tspdef.specs.Bounds.{scale, violation}
use Rattle.cyc.specs.declared.frac.Entry.{Entry}
use Rattle.cyc.specs.Frac.{Values, value_of}
use Rattle.simplex.specs.declared.answer.LpAnswer.{LpAnswer}
use Rattle.simplex.specs.declared.answer.LpAnswer.TheVariants.{Solved, Rough}
use Rattle.sepodd.specs.Odd.{IsRelaxed, IsBelowAll, IsLeastOdd}
use Rattle.worker.specs.declared.work.OddAnswer.{OddAnswer}
use Rattle.worker.specs.declared.work.OddAnswer.TheVariants.{NotAsked, NoneBelow, Least}

-- a value cut down to one length
abbrev pub lowered : Entry → Entry
lowered e = record { u = e.u; v = e.v; x = min e.x scale }

abbrev pub lowered_entries : List Entry → List Entry
lowered_entries es = map lowered es

-- values cut down to one length each
abbrev pub at_most_one : Values → Values
at_most_one x = record { n = x.n; entries = lowered_entries x.entries }

-- What is told of the values, cut down: that their degrees do not allow the question; that no odd cut weighs less than one length; or
-- an odd cut of least weight, which the values as they are violate by less than 2^10 units.
abbrev pub IsAnswer : Values → OddAnswer → Type 0
IsAnswer x NotAsked = ¬ IsRelaxed (at_most_one x)
IsAnswer x NoneBelow = IsRelaxed (at_most_one x) × IsBelowAll (at_most_one x) scale
IsAnswer x (Least o) = IsLeastOdd (at_most_one x) o × (violation (value_of x.entries) x.n o.cut <ℤ pos (2 ^ 10))

-- the same of the values of a Solved answer; of a rough one nothing is told
abbrev pub AnswersOdd : Option LpAnswer → OddAnswer → Type 0
AnswersOdd (Some (Solved x duals gap)) a = IsAnswer x a
AnswersOdd (Some (Rough x duals fault gap)) a = Unit {0}
AnswersOdd None a = Unit {0}
