-- Why a worker with a linear program splits a node: each reason carries the program as it stood at its last solve.
use Rattle.std.specs.Prelude.{◌≡◌, ℕ, List, Option, Some, None, ◌≤ℤ◌}
use Rattle.tspdef.specs.Instances.{Instance}
use Rattle.tspdef.specs.Cuts.{Cut}
use Rattle.tspdef.specs.Paths.{Condition}
use Rattle.tspdef.specs.Bounds.{bound, needed}
use Rattle.tspdef.specs.Rays.{zero_closing}
use Rattle.pricer.specs.declared.closing.Report.{Report}
use Rattle.pricer.specs.declared.closing.Report.TheVariants.{Closed, Split}
use Rattle.simplex.specs.Lp.{Program}
use Rattle.simplex.specs.declared.answer.LpAnswer.{LpAnswer}
use Rattle.simplex.specs.declared.answer.LpAnswer.TheVariants as answers
use Rattle.nodelp.specs.Node.{IsNodeLp, IsClean, HasSolved, IsPriced}
use Rattle.nodelp.specs.Duals.{closing_of, newest_duals}
use Rattle.worker.specs.Splits.{level}
use Rattle.worker.specs.Works.{best_after}
use Rattle.worker.specs.declared.work.Work.{Work}
use Rattle.worker.specs.declared.work.Why.{Why}
use Rattle.worker.specs.declared.work.Why.TheVariants.{Rounds, Rough, Checked}
use Rattle.worker.specs.declared.work.OddAnswer.{OddAnswer}
use Rattle.grunt.specs.Missed.{MissesNoCut}
use Rattle.grunt.specs.Odds.{AnswersOdd}

-- an answer is Rough
abbrev pub HasRough : Option LpAnswer → Type 0
HasRough (Some (answers.Solved x duals gap)) = ⊥
HasRough (Some (answers.Rough x duals fault gap)) = Unit {0}
HasRough None = ⊥

-- if the answer is Solved, its values miss no subtour cut, and there is neither a blossom nor a comb for them
abbrev pub MissesNone : Option LpAnswer → Type 0
MissesNone (Some (answers.Solved x duals gap)) = MissesNoCut x
MissesNone (Some (answers.Rough x duals fault gap)) = Unit {0}
MissesNone None = Unit {0}

-- a Solved answer misses no cut of the separations, and no undecided pair outside the core has a negative reduced cost
pub record LacksNothing (i : Instance) (path : List Condition) (p : Program) : Type 0 where
  pub cuts : MissesNone p.last
  pub priced : IsPriced i path p (newest_duals p.last)

-- the same, and this is what an exact search for odd cuts answered
abbrev pub LacksNothingOdd : Instance → List Condition → Program → OddAnswer → Type 0
LacksNothingOdd i path p a = LacksNothing i path p × AnswersOdd p.last a

-- A node's program, to which nothing was added since its last solve, and neither the closing that its duals make nor zero
-- duals close the node for tours of length l.
pub record IsWorkedOn (i : Instance) (path : List Condition) (l : ℕ) (p : Program) : Type 0 where
  pub cuts : List (Cut × ℕ)
  pub node : IsNodeLp i path (record { program = p; cuts = cuts })
  pub clean : IsClean p
  pub weak : bound i path (closing_of i.n path (record { program = p; cuts = cuts }) (newest_duals p.last)) ≤ℤ needed l
  pub zeros_weak : bound i path (zero_closing i.n) ≤ℤ needed l

-- The program had its 200 rounds; or it is rough, or checked, and lacks nothing. Where it is checked, this is what an exact search for odd cuts
-- answered at its values: none below one length, or one that they violate by less than 2^10 units.
abbrev pub IsReason : Instance → List Condition → ℕ → Why → Type 0
IsReason i path l (Rounds p) = IsWorkedOn i path l p × (p.rounds ≡ 200)
IsReason i path l (Rough p) = IsWorkedOn i path l p × HasRough p.last × LacksNothing i path p
IsReason i path l (Checked p a) = IsWorkedOn i path l p × HasSolved p.last × LacksNothingOdd i path p a

-- a split has a reason, for tours of length l, and a closing none
abbrev pub Explains : Instance → List Condition → ℕ → Report → Option Why → Type 0
Explains i path l (Closed c) None = Unit {0}
Explains i path l (Closed c) (Some why) = ⊥
Explains i path l (Split b) None = ⊥
Explains i path l (Split b) (Some why) = IsReason i path l why

-- work whose split, if it is one, has its reason for the level of the lesser of the best length and that of the tour that was found, and
-- a gap
abbrev pub IsExplained : Instance → List Condition → ℕ → ℕ → Work → Type 0
IsExplained i path best gap w = Explains i path (level (best_after i best w.tour) gap) w.report w.why
