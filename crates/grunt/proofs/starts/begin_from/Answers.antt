use Rattle.std.proofs.Common.{◌≤◌, sym, subst}
use Rattle.grunt.proofs.RowLemmas.{cliques_are}
use Rattle.grunt.proofs.starts.begin_from.Goals as goal

pub over-requires-clause-few_cliques : goal.over-requires-clause-few_cliques
over-requires-clause-few_cliques c = subst (λ k. k ≤ 2097152) (sym (cliques_are c.args.path.now.conditions)) c.requires.few_cliques
