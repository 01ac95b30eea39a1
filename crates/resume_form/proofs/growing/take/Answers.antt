use Rattle.std.proofs.Common.{ap}
use Rattle.tspdef.specs.Bounds.{needed}
use Rattle.treebook.specs.Tables.{on_edge, on_clique}
use Rattle.certcheck.specs.Parts.{part_of}
use Rattle.resume_form.proofs.Taking.{may_split, split_takes, may_close, closed_takes, open_takes, tour_takes, ok_then}
use Rattle.resume_form.proofs.growing.take.Goals as goal

pub split-requires-clause-fits : goal.split-requires-clause-fits
split-requires-clause-fits c =
    (may_split c.args.instance.now (needed c.args.told) (needed c.args.level) c.args.tree.now c.args.waiting.now.items c.in-Some.node c.pop_front.new.self.items (on_edge c.in-Edge.u c.in-Edge.v) (part_of c.args.part) c.in-Some.ensures.items (ap part_of c.in-Edge.is) c.requires).fits

pub split-requires-clause-room : goal.split-requires-clause-room
split-requires-clause-room c =
    (may_split c.args.instance.now (needed c.args.told) (needed c.args.level) c.args.tree.now c.args.waiting.now.items c.in-Some.node c.pop_front.new.self.items (on_edge c.in-Edge.u c.in-Edge.v) (part_of c.args.part) c.in-Some.ensures.items (ap part_of c.in-Edge.is) c.requires).room

pub returns-in-Edge : goal.returns-in-Edge
returns-in-Edge c =
    ok_then c.split.result _ _ c.split.ensures.waiting
    (λ e. split_takes c.args.instance.now (needed c.args.told) (needed c.args.level) c.args.tree.now c.split.new.tree c.args.waiting.now.items c.split.new.waiting.items c.in-Some.node c.pop_front.new.self.items (on_edge c.in-Edge.u c.in-Edge.v) (part_of c.args.part)
    c.in-Some.ensures.items (ap part_of c.in-Edge.is) c.split.ensures.table e)

pub split-requires-in-Clique-clause-fits : goal.split-requires-in-Clique-clause-fits
split-requires-in-Clique-clause-fits c =
    (may_split c.args.instance.now (needed c.args.told) (needed c.args.level) c.args.tree.now c.args.waiting.now.items c.in-Some.node c.pop_front.new.self.items (on_clique c.in-Clique.set.cities) (part_of c.args.part) c.in-Some.ensures.items (ap part_of c.in-Clique.is) c.requires).fits

pub split-requires-in-Clique-clause-room : goal.split-requires-in-Clique-clause-room
split-requires-in-Clique-clause-room c =
    (may_split c.args.instance.now (needed c.args.told) (needed c.args.level) c.args.tree.now c.args.waiting.now.items c.in-Some.node c.pop_front.new.self.items (on_clique c.in-Clique.set.cities) (part_of c.args.part) c.in-Some.ensures.items (ap part_of c.in-Clique.is) c.requires).room

pub returns-in-Clique : goal.returns-in-Clique
returns-in-Clique c =
    ok_then c.split-in-Clique.result _ _ c.split-in-Clique.ensures.waiting
    (λ e. split_takes c.args.instance.now (needed c.args.told) (needed c.args.level) c.args.tree.now c.split-in-Clique.new.tree c.args.waiting.now.items c.split-in-Clique.new.waiting.items c.in-Some.node c.pop_front.new.self.items (on_clique c.in-Clique.set.cities) (part_of c.args.part)
    c.in-Some.ensures.items (ap part_of c.in-Clique.is) c.split-in-Clique.ensures.table e)

pub close-requires-clause-fits : goal.close-requires-clause-fits
close-requires-clause-fits c =
    (may_close c.args.instance.now (needed c.args.told) (needed c.args.level) c.args.tree.now c.args.waiting.now.items c.in-Some.node c.pop_front.new.self.items c.in-Closed.closing (part_of c.args.part) c.in-Some.ensures.items (ap part_of c.in-Closed.is) c.requires).first.fits

pub close-requires-clause-is_closing : goal.close-requires-clause-is_closing
close-requires-clause-is_closing c =
    (may_close c.args.instance.now (needed c.args.told) (needed c.args.level) c.args.tree.now c.args.waiting.now.items c.in-Some.node c.pop_front.new.self.items c.in-Closed.closing (part_of c.args.part) c.in-Some.ensures.items (ap part_of c.in-Closed.is) c.requires).first.is_closing

pub close-requires-clause-exceeds : goal.close-requires-clause-exceeds
close-requires-clause-exceeds c =
    (may_close c.args.instance.now (needed c.args.told) (needed c.args.level) c.args.tree.now c.args.waiting.now.items c.in-Some.node c.pop_front.new.self.items c.in-Closed.closing (part_of c.args.part) c.in-Some.ensures.items (ap part_of c.in-Closed.is) c.requires).first.exceeds

pub returns-in-Closed : goal.returns-in-Closed
returns-in-Closed c =
    closed_takes c.args.instance.now (needed c.args.told) (needed c.args.level) c.args.tree.now c.close.new.tree c.args.waiting.now.items c.in-Some.node c.pop_front.new.self.items c.in-Closed.closing (part_of c.args.part)
    c.in-Some.ensures.items (ap part_of c.in-Closed.is) c.close.ensures

pub returns-in-Open : goal.returns-in-Open
returns-in-Open c =
    open_takes c.args.instance.now (needed c.args.told) (needed c.args.level) c.args.tree.now c.args.waiting.now.items c.in-Some.node c.pop_front.new.self.items (part_of c.args.part) c.in-Some.ensures.items (ap part_of c.in-Open.is)

pub returns : goal.returns
returns c = λ goal total rest g. tour_takes c.args.instance.now (needed c.args.told) (needed c.args.level) c.args.tree.now c.args.waiting.now.items _ (part_of c.args.part) _ (ap part_of c.in-Tour.is) goal total rest g
