use Rattle.std.proofs.Common.{ℕ, ◌<◌, length, sym, subst, ap}
use Rattle.branchx.specs.Path.{Conditions}
use Rattle.branchx.specs.Cond.{condition_of}
use Rattle.grunt.proofs.RowLemmas.{few_after}
use Rattle.grunt.proofs.probes.gain_of.Goals as goal

pub begin_from-requires-clause-few_cliques : goal.begin_from-requires-clause-few_cliques
begin_from-requires-clause-few_cliques c =
    few_after c.in_ok-child.child.conditions c.push.new.self.conditions (condition_of c.args.cond)
    (subst (λ (k : ℕ). k < 1048576) (sym (ap (λ (p : Conditions). length p.conditions) c.in_ok-child.ensures)) c.requires.few)
    (ap (λ (p : Conditions). p.conditions) c.in_ok-push.ensures.ok)
