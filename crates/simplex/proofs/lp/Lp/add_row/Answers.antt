use Rattle.std.proofs.Common.{◌≡◌, List, [], ◌∷◌, length, take, ap, sym, subst, ◌∙◌, arith}
use Rattle.std.specs.List.{All}
use Rattle.std.proofs.lemmas.List.{length-append}
use Rattle.std.proofs.lemmas.List.Elements.{All-push}
use Rattle.lpcheck.specs.Rows.{IsSmall}
use Rattle.lpcheck.specs.Cells.{table_of}
use Rattle.lpcheck.specs.declared.row.Row.{Row}
use Rattle.simplex.specs.Lp.{Program}
use Rattle.simplex.specs.LpInside.{IsNewest}
use Rattle.simplex.proofs.AnswerLemmas.{newest_more, table_longer}
use Rattle.simplex.proofs.lp.Lp.add_row.Goals as goal

pub invariant_of-self-2 : goal.invariant_of-self-2
invariant_of-self-2 c =
    let i = c.self.inside in
    let kept = c.self.invariant in
    let items = c.in_ok-push.ensures.items in
    let rows = ap (λ (p : Program). length p.rows) c.self.view_is in
    let longer = ap (λ (l : List Row). length l) items ∙ length-append i.rows.items (c.args.row ∷ []) in
    record {
      many = kept.many;
      few = kept.few;
      cities = kept.cities;
      small = subst (All IsSmall) (sym items) (All-push IsSmall i.rows.items c.args.row kept.small c.requires.small);
      few_rows = omega (arith, longer, rows, c.requires.few);
      old_rows = omega (arith, longer, kept.old_rows);
      old_cols = kept.old_cols;
      tabled_rows = omega (arith, longer, kept.tabled_rows);
      tabled_cols = kept.tabled_cols;
      table = subst (λ (l : List Row). i.table.items ≡ table_of (take (length i.table.items) l) (take i.tabled_cols i.columns.cols)) (sym items)
          (table_longer (length i.table.items) i.tabled_cols i.rows.items (c.args.row ∷ []) i.columns.cols i.table.items kept.tabled_rows kept.table);
      newest = subst (λ (l : List Row). IsNewest i.n (take i.old_rows l) (take i.old_cols i.columns.cols) i.old_duals.items i.last) (sym items)
          (newest_more i.n i.old_rows i.old_cols i.rows.items (c.args.row ∷ []) i.columns.cols i.old_duals.items i.last kept.old_rows kept.newest);
    }
