use Rattle.slotstore.proofs.Steps.{unshut, shuts}
use Rattle.slotstore.proofs.replacing.shut.Goals as goal

pub returns-in_err-is_shut-clause-crash : goal.returns-in_err-is_shut-clause-crash
returns-in_err-is_shut-clause-crash g c = let e = c.in_err-is_shut.ensures in unshut c.args.slot _ _ _ _ e.told e.past

pub returns-then-branch-clause-crash : goal.returns-then-branch-clause-crash
returns-then-branch-clause-crash g c = let e = c.in_ok-is_shut.ensures in unshut c.args.slot _ _ _ _ e.told e.past

pub returns-clause-crash : goal.returns-clause-crash
returns-clause-crash g c =
    let e = c.in_ok-is_shut.ensures in
    shuts c.args.slot _ _ _ c.in_ok-is_shut.field-0 _ _ _ e.told e.past c.if-branch.false e.shut c.set_gate.ensures.crash
