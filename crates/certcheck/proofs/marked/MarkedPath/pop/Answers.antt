use Rattle.branchx.specs.Cond.{condition_of}
use Rattle.certcheck.proofs.MarkLemmas.{popped}
use Rattle.certcheck.proofs.marked.MarkedPath.pop.Goals as goal

pub invariant_of-self : goal.invariant_of-self
invariant_of-self c =
    popped c.self.inside.path c.take_last.new.path (condition_of c.in-Some.last) c.n.result c.pair.result c.self.inside.table.items c.clear.new.table.items
    c.in-Some.ensures.last c.n.ensures c.pair.ensures c.in-Some.ensures.follows c.self.invariant c.clear.ensures.cleared c.clear.ensures.same
