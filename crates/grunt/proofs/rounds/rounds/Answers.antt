use Rattle.std.proofs.Common.{◌≡◌, ◌<◌, sym, ap, subst, ◌∙◌, arith}
use Rattle.std.specs.Prelude.{IfSome}
use Rattle.simplex.specs.Lp.{Program}
use Rattle.nodelp.specs.Node.{Node, IsClean}
use Rattle.grunt.specs.Rounds.{HasGrown}
use Rattle.grunt.proofs.RowLemmas.{begun_ready, grown_ready}
use Rattle.grunt.proofs.rounds.rounds.Goals as goal

pub loop-turn-init : goal.loop-turn-init
loop-turn-init g c = begun_ready c.args.instance.now c.args.path.now.conditions c.args.node.now c.requires.begun

pub price_after_purge-requires-clause-clean : goal.price_after_purge-requires-clause-clean
price_after_purge-requires-clause-clean g c = subst (λ (m : Node). IsClean m.program) (sym (c.in_ok-purge.ensures.same c.if-branch.false)) c.in_ok-solve.ensures.clean

pub grow-requires-clause-clean : goal.grow-requires-clause-clean
grow-requires-clause-clean g c =
    subst (λ (m : Node). IsClean m.program) (sym (c.in_ok-price_after_purge.ensures.same c.if-branch-2.false ∙ c.in_ok-purge.ensures.same c.if-branch.false)) c.in_ok-solve.ensures.clean

pub newest_look-requires-clause-clean : goal.newest_look-requires-clause-clean
newest_look-requires-clause-clean g c =
    let same : c.grow.new.node ≡ c.price_after_purge.new.node = subst (λ o. IfSome o (λ _. c.grow.new.node ≡ c.price_after_purge.new.node)) c.in-Some-2.is c.in_ok-answer.ensures.same in
    subst (λ (m : Node). IsClean m.program) (sym (same ∙ c.in_ok-price_after_purge.ensures.same c.if-branch-2.false ∙ c.in_ok-purge.ensures.same c.if-branch.false)) c.in_ok-solve.ensures.clean

pub loop-turn-preserved : goal.loop-turn-preserved
loop-turn-preserved g c =
    let i = c.args.instance.now in
    let path = c.args.path.now.conditions in
    let before = c.loop-turn.node in
    let same = c.in_ok-price_after_purge.ensures.same c.if-branch-2.false ∙ c.in_ok-purge.ensures.same c.if-branch.false in
    let now : c.rounds.result ≡ before.program.rounds = c.rounds.ensures ∙ ap (λ (p : Program). p.rounds) c.lp.ensures in
    let test = c.loop-turn-test.true in
    let few : before.program.rounds < 199 = omega (arith, now, test) in
    let more = c.in_default-2.is in
    grown_ready i path before c.solve.new.node c.grow.new.node c.loop-turn.invariant few c.in_ok-solve.ensures.rounds c.in_ok-solve.ensures.rows
    (subst (λ (m : Node). HasGrown i path m c.grow.new.node) same (c.in_ok-answer.ensures.grown more))
