use Rattle.std.proofs.Common.{sym, subst}
use Rattle.branchx.specs.Branch.{IsSplit}
use Rattle.branchx.specs.Choice.{IsChoice}
use Rattle.branchx.proofs.FitLemmas.{set_splits, set_is_choice, pair_is_nearest, pair_splits, pair_is_choice}
use Rattle.branchx.proofs.choice.choose.Goals as goal
use Rattle.branchx.proofs.choice.choose.Goals.{in-Some-2, in-None}

pub returns-clause-some : goal.returns-clause-some
returns-clause-some c =
    let x = c.args.x.now in
    let path = c.args.path.now in
    elim c.match-branch-4.branch [
      | in-Some-2 w ↦ subst (IsSplit path.n path.conditions) (sym w.result-is)
          (set_splits x path.conditions path.n c.deref-2.result.now c.in_ok-sets.sets.items w.in-Some-2.set c.requires.cities c.deref-2.ensures.value c.in_ok-sets.ensures (rw w.in-Some-2.is at c.in_ok-set.ensures))
      | in-None w ↦ subst (IsSplit path.n path.conditions) (sym w.result-is)
          (pair_splits x path.conditions path.n c.in-Some.open c.requires.cities
          (pair_is_nearest x path.conditions c.n.result c.deref.result.now c.in_ok-table.table.items c.in-Some.open c.n.ensures.value c.deref.ensures.value c.in_ok-table.ensures c.in-Some.ensures))
    ]

pub returns-clause-choice : goal.returns-clause-choice
returns-clause-choice c =
    let x = c.args.x.now in
    let path = c.args.path.now in
    elim c.match-branch-4.branch [
      | in-Some-2 w ↦ subst (IsChoice x path.conditions) (sym w.result-is)
          (set_is_choice x path.conditions c.deref-2.result.now c.in_ok-sets.sets.items w.in-Some-2.set c.deref-2.ensures.value c.in_ok-sets.ensures (rw w.in-Some-2.is at c.in_ok-set.ensures))
      | in-None w ↦ subst (IsChoice x path.conditions) (sym w.result-is)
          (pair_is_choice x path.conditions c.deref-2.result.now c.in_ok-sets.sets.items c.in-Some.open c.deref-2.ensures.value c.in_ok-sets.ensures (rw w.in-None.is at c.in_ok-set.ensures)
          (pair_is_nearest x path.conditions c.n.result c.deref.result.now c.in_ok-table.table.items c.in-Some.open c.n.ensures.value c.deref.ensures.value c.in_ok-table.ensures c.in-Some.ensures))
    ]
