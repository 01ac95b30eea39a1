use Rattle.std.proofs.Common.{◌≤◌, sym, subst}
use Rattle.grunt.proofs.RowLemmas.{cliques_are, begun_near}
use Rattle.grunt.proofs.starts.begin_near.Goals as goal

pub new-requires-clause-few_cliques : goal.new-requires-clause-few_cliques
new-requires-clause-few_cliques c = subst (λ k. k ≤ 2097152) (sym (cliques_are c.args.path.now.conditions)) c.requires.few_cliques

pub returns : goal.returns
returns c =
    let node = c.in_ok-node.ensures in
    begun_near c.args.instance.now c.args.path.now.conditions c.in_ok-node.node c.n-n.ensures.instance.few c.requires.few_cliques node.node node.no_cuts node.unsolved node.no_rounds
