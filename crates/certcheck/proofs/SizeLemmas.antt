-- How many splits a path has.
use Rattle.std.proofs.Common.{◌≡◌, ℕ, ◌+◌, List, [], ◌∷◌, length, ◌≤◌, subst, ◌∙◌, arith}
use Rattle.std.specs.Prelude.{cond, count_by}
use Rattle.std.specs.List.{fold}
use Rattle.tspdef.specs.Paths.{branches}
use Rattle.branchx.specs.Cond.{conditions_of}
use Rattle.branchx.specs.declared.cond.Cond.{Cond}
use Rattle.branchx.specs.declared.cond.Cond.TheVariants.{Fixed, Absent, Present, Two, Four}
use Rattle.certtests.specs.Duals.{AreDuals}
use Rattle.certcheck.specs.Checkers.{is_split}
use Rattle.certcheck.specs.Stages.{StandsAt, duals}
use Rattle.certcheck.specs.declared.progress.Progress.{Progress}
use Rattle.certcheck.specs.declared.progress.Stage.TheVariants as stages

count_from : (n : ℕ) (cs : List Cond) → fold (λ k c. k + cond (is_split c) 1 0) n cs ≡ n + length (branches (conditions_of cs))
count_from n [] = omega arith
count_from n (Fixed u v ∷ cs) = count_from (n + 0) cs ∙ omega arith
count_from n (Absent u v ∷ cs) = count_from (n + 1) cs ∙ omega arith
count_from n (Present u v ∷ cs) = count_from (n + 1) cs ∙ omega arith
count_from n (Two s ∷ cs) = count_from (n + 1) cs ∙ omega arith
count_from n (Four s ∷ cs) = count_from (n + 1) cs ∙ omega arith

pub count_splits : (cs : List Cond) → count_by is_split cs ≡ length (branches (conditions_of cs))
count_splits cs = count_from 0 cs ∙ omega arith

-- a leaf has few lines of cuts and conditions
pub few_duals : (n at a b c : ℕ) (p : Progress) → p.stage ≡ stages.Duals at a b c → StandsAt n p p.stage → (length p.cut_duals.items ≤ 4096) × (length p.condition_duals.items ≤ 4096)
few_duals n at a b c p e h =
    let d : AreDuals (length p.cuts.items) p.path.conditions b c (duals p) = subst (StandsAt n p) e h in
    (omega (arith, d.few_cuts), omega (arith, d.few_conditions))
