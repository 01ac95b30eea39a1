use Rattle.branchx.specs.Cond.{condition_of}
use Rattle.certcheck.proofs.MarkLemmas.{pushed}
use Rattle.certcheck.proofs.marked.MarkedPath.push.Goals as goal

pub invariant_of-self-2 : goal.invariant_of-self-2
invariant_of-self-2 c =
    pushed c.self.inside.path c.push.new.self (condition_of c.args.cond) c.n-n.result c.pair-pair.result c.self.inside.table.items c.make_room.new.table.items c.mark.new.table.items
    c.in_ok-push.ensures.ok c.n-n.ensures c.pair-pair.ensures c.self.invariant c.make_room.ensures.room c.make_room.ensures.same c.mark.ensures.marked c.mark.ensures.same
