use Rattle.std.proofs.Common.{sym, subst}
use Rattle.nodelp.specs.Node.{Node, IsClean}
use Rattle.grunt.proofs.rounds.grow_and_ask.Goals as goal

pub asked-requires : goal.asked-requires
asked-requires g c = record {
  clean = subst IsClean (sym c.lp.ensures) (subst (λ (m : Node). IsClean m.program) (sym (c.in_ok-grow_plainly.ensures.same c.if-branch.false)) c.requires.clean);
}

pub add_all-requires-clause-clean : goal.add_all-requires-clause-clean
add_all-requires-clause-clean g c = subst (λ (m : Node). IsClean m.program) (sym (c.in_ok-grow_plainly.ensures.same c.if-branch.false)) c.requires.clean
