use Rattle.std.proofs.Common.{ℕ, ◌^◌, ◌<◌, ◌≤◌, sym, subst}
use Rattle.branchx.specs.Path.{Conditions}
use Rattle.pricer.specs.declared.closing.Report.{Report}
use Rattle.bossx.specs.declared.brought.Brought.TheVariants.{Plain}
use Rattle.bossx.specs.Judging.{MayBeTaken}
use Rattle.worker.specs.Works.{cliques}
use Rattle.tspround.proofs.Lengths.{best_is_short, path_is_short}
use Rattle.tspround.proofs.Turns.{report_at, only_at, still_in_front, taken_after_offer, over_in, turn_done}
use Rattle.tspround.proofs.searching.turn.Goals as goal

pub work-requires-clause-few_cliques : goal.work-requires-clause-few_cliques
work-requires-clause-few_cliques g c =
    subst (λ (p : Conditions). cliques p.conditions ≤ 2 ^ 21) (sym c.in_ok-path.ensures) (path_is_short c.args.boss.now c.args.node c.snapshot-book.ensures.book c.requires.node.1.is_open c.requires.few)

pub work-requires-clause-short : goal.work-requires-clause-short
work-requires-clause-short g c = subst (λ (l : ℕ). l < 2 ^ 42) (sym c.best_length-best.ensures) (best_is_short c.args.boss.now c.snapshot-book.ensures.book)

pub report_on-requires-clause-front : goal.report_on-requires-clause-front
report_on-requires-clause-front g c = still_in_front c.args.boss.now c.offer.new.boss c.parts-tour.result.0 c.args.node c.offer.ensures c.requires.node

pub report_on-requires-clause-taken : goal.report_on-requires-clause-taken
report_on-requires-clause-taken g c =
    let i = c.args.instance.now in
    let b = c.args.boss.now in
    let mid = c.offer.new.boss in
    let work = c.in_ok-work.work in
    let tour = c.parts-tour.result.0 in
    let is = report_at i b c.in_ok-path.path c.best_length-best.result c.args.gap c.args.node work.tour tour work.report c.requires.instance c.in_ok-path.ensures c.best_length-best.ensures c.requires.gap
    c.parts-tour.ensures.tour (c.in_ok-work.ensures.work c.requires.sure).report in
    let over = over_in i b mid tour work.report c.parts-tour.result.1 c.in_ok-report.report c.offer.ensures c.requires.instance c.parts-tour.ensures.report c.in_ok-report.ensures in
    subst (λ (r : Report). MayBeTaken mid c.args.node (Plain r)) (sym over) (taken_after_offer b mid tour c.args.node work.report c.offer.ensures c.requires.node.1.is_open c.requires.node.0 is)

pub returns : goal.returns
returns g c =
    let i = c.args.instance.now in
    let b = c.args.boss.now in
    let mid = c.offer.new.boss in
    let work = c.in_ok-work.work in
    let tour = c.parts-tour.result.0 in
    let is = report_at i b c.in_ok-path.path c.best_length-best.result c.args.gap c.args.node work.tour tour work.report c.requires.instance c.in_ok-path.ensures c.best_length-best.ensures c.requires.gap
    c.parts-tour.ensures.tour (c.in_ok-work.ensures.work c.requires.sure).report in
    let over = over_in i b mid tour work.report c.parts-tour.result.1 c.in_ok-report.report c.offer.ensures c.requires.instance c.parts-tour.ensures.report c.in_ok-report.ensures in
    let may = taken_after_offer b mid tour c.args.node work.report c.offer.ensures c.requires.node.1.is_open c.requires.node.0 is in
    let only = only_at g.W.Worker.splits i b c.in_ok-path.path c.best_length-best.result c.args.gap c.args.node work.report c.requires.instance c.in_ok-path.ensures c.best_length-best.ensures c.requires.gap
    c.in_ok-work.ensures.splits in
    turn_done c.tables_are_trees.ensures.leaves c.tables_grow.ensures.closing c.tables_grow.ensures.splitting g.W.Worker.splits g.W.Worker.splits_stay b mid c.report_on.new.boss tour c.args.node work.report
    c.in_ok-report.report c.snapshot-book.ensures.book c.offer.ensures over may c.report_on.ensures only
