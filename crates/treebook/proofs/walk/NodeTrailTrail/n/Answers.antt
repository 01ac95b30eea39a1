use Rattle.treebook.proofs.WalkLemmas.{trail_is_path}
use Rattle.treebook.proofs.walk.NodeTrailTrail.n.Goals as goal

pub returns-clause-is_path : goal.returns-clause-is_path
returns-clause-is_path c =
    trail_is_path c.n.result c.args.self.tree.now.fixed c.args.self.tree.now.nodes c.args.self.node c.args.self.left (c.n.ensures.paths c.args.self.node c.args.self.within) c.args.self.all
