use Rattle.std.proofs.Common.{◌≤◌, sym, subst}
use Rattle.grunt.proofs.RowLemmas.{cliques_are}
use Rattle.grunt.proofs.rounds.purge.Goals as goal

pub without-requires-clause-few_cliques : goal.without-requires-clause-few_cliques
without-requires-clause-few_cliques c = subst (λ k. k ≤ 2097152) (sym (cliques_are c.args.path.now.conditions)) c.requires.few_cliques
