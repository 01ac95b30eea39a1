-- The reason for which a node is split.
use Rattle.std.proofs.Common.{◌≡◌, ℕ, List, sym, subst, ⊎_elim}
use Rattle.tspdef.specs.Instances.{Instance}
use Rattle.tspdef.specs.Paths.{Condition}
use Rattle.simplex.specs.Lp.{Program}
use Rattle.nodelp.specs.Node.{Node, HasSolved}
use Rattle.worker.specs.declared.work.OddAnswer.{OddAnswer}
use Rattle.worker.specs.declared.work.Why.TheVariants.{Rounds, Rough, Checked}
use Rattle.grunt.specs.Whys.{IsWorkedOn, IsReason, LacksNothingOdd, HasRough}
use Rattle.grunt.specs.Rounds.{IsStuck}

-- its program is the one that was worked on
worked_on : (i : Instance) (path : List Condition) (l : ℕ) (node : Node) (a : OddAnswer) → IsStuck i path l node a → IsWorkedOn i path l node.program
worked_on i path l node a s = record { cuts = node.cuts; node = s.is_lp; clean = s.clean; weak = s.weak; zeros_weak = s.zeros_weak }

-- if it did not have all its rounds it lacks nothing
lacks_nothing : (i : Instance) (path : List Condition) (l : ℕ) (node : Node) (a : OddAnswer) → (node.program.rounds ≡ 200 → ⊥) → IsStuck i path l node a → LacksNothingOdd i path node.program a
lacks_nothing i path l node a other s = ⊎_elim (λ h. h) (λ h. absurd (other h)) s.ended

pub had_rounds : (i : Instance) (path : List Condition) (l : ℕ) (node : Node) (a : OddAnswer) (p : Program) → p ≡ node.program → node.program.rounds ≡ 200 → IsStuck i path l node a → IsReason i path l (Rounds p)
had_rounds i path l node a p e rounds s = subst (λ q. IsReason i path l (Rounds q)) (sym e) (worked_on i path l node a s, rounds)

pub is_checked : (i : Instance) (path : List Condition) (l : ℕ) (node : Node) (a : OddAnswer) (p : Program) → p ≡ node.program → (node.program.rounds ≡ 200 → ⊥) → HasSolved node.program.last
    → IsStuck i path l node a → IsReason i path l (Checked p a)
is_checked i path l node a p e other solved s = subst (λ q. IsReason i path l (Checked q a)) (sym e) (worked_on i path l node a s, solved, lacks_nothing i path l node a other s)

pub is_rough : (i : Instance) (path : List Condition) (l : ℕ) (node : Node) (a : OddAnswer) (p : Program) → p ≡ node.program → (node.program.rounds ≡ 200 → ⊥) → HasRough node.program.last
    → IsStuck i path l node a → IsReason i path l (Rough p)
is_rough i path l node a p e other rough s = subst (λ q. IsReason i path l (Rough q)) (sym e) (worked_on i path l node a s, rough, (lacks_nothing i path l node a other s).0)
