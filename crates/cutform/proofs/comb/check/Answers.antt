use Rattle.std.proofs.Common.{rules}
use Rattle.cutform.proofs.SetLemmas.{leaves-decided, enters-decided}
use Rattle.cutform.proofs.CombLemmas.{comb_from_parts}
use Rattle.cutform.proofs.comb.check.Goals as goal

pub returns-then-not-each_leaves-clause-refused : goal.returns-then-not-each_leaves-clause-refused
returns-then-not-each_leaves-clause-refused c =
    let leave = leaves-decided c.args.handle.now.cities c.args.teeth.now c.each_leaves.result c.each_leaves.ensures in
    search rules

pub returns-then-not-each_enters-clause-refused : goal.returns-then-not-each_enters-clause-refused
returns-then-not-each_enters-clause-refused c =
    let leave = leaves-decided c.args.handle.now.cities c.args.teeth.now c.each_leaves.result c.each_leaves.ensures in
    let enter = enters-decided c.args.handle.now.cities c.args.teeth.now c.each_enters.result c.each_enters.ensures in
    search rules

pub returns-clause-ok : goal.returns-clause-ok
returns-clause-ok c =
    let leave = leaves-decided c.args.handle.now.cities c.args.teeth.now c.each_leaves.result c.each_leaves.ensures in
    let enter = enters-decided c.args.handle.now.cities c.args.teeth.now c.each_enters.result c.each_enters.ensures in
    search (rules, comb_from_parts)
