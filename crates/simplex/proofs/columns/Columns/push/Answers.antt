use Rattle.std.proofs.Common.{◌≡◌, ◌<◌, false, List, length, map, set, ap, sym, subst, ◌∙◌}
use Rattle.cyc.specs.Table.{IsTableOf}
use Rattle.lpcheck.specs.declared.column.Column.{Column}
use Rattle.simplex.specs.Columns.{Pairs, blank, AreColumns, is_col}
use Rattle.simplex.proofs.ColumnLemmas.{columns_push, table_more, count_more}
use Rattle.simplex.proofs.columns.Columns.push.Goals as goal

pub invariant_of-self-2 : goal.invariant_of-self-2
invariant_of-self-2 c =
    let inside = c.self.inside in
    let column = c.args.column in
    let cell = c.cell_of-cell.result in
    let kept = c.self.invariant in
    let within : column.v < inside.n = subst (λ (p : Pairs). column.v < p.n) (sym c.self.view_is) c.requires.within in
    let fresh : is_col inside.cols.items column.u column.v ≡ false = ap (λ (p : Pairs). is_col p.cols column.u column.v) c.self.view_is ∙ c.requires.fresh in
    let items = c.in_ok-push.ensures.items in
    let at = c.cell_of-cell.ensures.cell in
    record {
      few = kept.few;
      distinct = subst (AreColumns inside.n) (sym items) (columns_push inside.n inside.cols.items column kept.distinct c.requires.ordered within fresh);
      table = subst (λ (cs : List Column). IsTableOf inside.n (map blank cs) (set inside.table.items cell 1)) (sym items)
          (table_more inside.n inside.cols.items column inside.table.items cell kept.table at c.requires.ordered within fresh);
      count = count_more inside.n inside.cols.items column inside.table.items cell kept.table at c.requires.ordered within fresh kept.count ∙ ap (λ (cs : List Column). length cs) (sym items);
    }
