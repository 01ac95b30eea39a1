use Rattle.std.proofs.Common.{◌<◌, ◌^◌, get_or, rules, arith}
use Rattle.std.proofs.lemmas.Int.{ints}
use Rattle.std.proofs.lemmas.List.Elements.{All-more}
use Rattle.lpcheck.specs.Rows.{IsCheap}
use Rattle.lpcheck.specs.Cells.{no_column}
use Rattle.lpcheck.proofs.Sums.{costs_push}
use Rattle.lpcheck.proofs.reduced.costs_of.Goals as goal

pub loop-column-preserved : goal.loop-column-preserved
loop-column-preserved c =
    let i = c.loop-column.column-index in
    let cols = c.args.cols.now in
    let cheap : (get_or cols i no_column).cost < 2 ^ 32 = search rules in
    record {
      so_far = costs_push cols i no_column c.loop-column.rs.items c.push.new.self.items _ c.loop-column-test.true c.loop-column.invariant.so_far c.in_ok-push.ensures.items (omega (arith, ints));
      cheap = All-more IsCheap cols i no_column c.loop-column-test.true c.loop-column.invariant.cheap cheap;
    }
