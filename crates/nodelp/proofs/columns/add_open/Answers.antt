use Rattle.std.proofs.Common.{◌≡◌, false, subst, sym, arith}
use Rattle.tspdef.specs.Paths.{is_decided}
use Rattle.nodelp.specs.Node.{IsCore}
use Rattle.nodelp.proofs.CoreLemmas.{core_with}
use Rattle.nodelp.proofs.columns.add_open.Goals as goal

pub returns-in_ok-add-clause-core : goal.returns-in_ok-add-clause-core
returns-in_ok-add-clause-core c =
    let free : is_decided c.args.path.now.conditions c.args.u c.args.v ≡ false = grind (arith, c.if-not-decided.true, c.decided.ensures) in
    subst (IsCore c.args.instance.now c.args.path.now.conditions) (sym c.in_ok-add.ensures.cols)
    (core_with c.args.instance.now c.args.path.now.conditions c.args.lp.now.cols c.args.u c.args.v c.requires.core c.requires.ordered c.requires.within free)
