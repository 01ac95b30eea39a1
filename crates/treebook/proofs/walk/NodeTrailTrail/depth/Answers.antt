use Rattle.std.proofs.Common.{take, sym, ◌∙◌}
use Rattle.treebook.proofs.WalkLemmas.{path_depth}
use Rattle.treebook.proofs.walk.NodeTrailTrail.depth.Goals as goal

pub returns : goal.returns
returns c = c.args.self.deep ∙ sym (path_depth (take c.args.self.left c.args.self.tree.now.fixed) c.args.self.tree.now.nodes c.args.self.node)
