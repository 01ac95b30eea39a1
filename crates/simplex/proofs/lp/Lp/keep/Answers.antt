use Rattle.std.proofs.Common.{◌≡◌, ◌+◌, ◌-◌, ◌^◌, Bool, true, false, cond, min, List, length, refl, ap, sym, subst, ◌∙◌, arith}
use Rattle.lpcheck.specs.Cells.{table_of}
use Rattle.lpcheck.specs.declared.column.Column.{Column}
use Rattle.simplex.specs.Lp.{Program, IsAnswer, is_counted}
use Rattle.simplex.proofs.AnswerLemmas.{answer_taken, table_size, table_whole}
use Rattle.simplex.proofs.lp.Lp.keep.Goals as goal

pub returns-then-counted : goal.returns-then-counted
returns-then-counted c =
    let view = c.self.view_is in
    let now : Program = c.args.self.now in
    let counted : is_counted now ≡ true = sym c.requires.counted ∙ c.if-counted.true in
    let same = ap (λ (p : Program). p.rounds) view in
    let by = ap (λ (b : Bool). cond b (min (now.rounds + 1) (2 ^ 32 - 1)) now.rounds) counted in
    let rows = ap (λ (p : Program). length p.rows) view in
    record {
      n = ap (λ (p : Program). p.n) view;
      rows = ap (λ (p : Program). p.rows) view;
      cols = ap (λ (p : Program). p.cols) view;
      old_rows = omega (arith, c.len-self-inside.ensures, c.self.inside.rows.ok.0, rows);
      old_cols = ap (λ (l : List Column). length l) (c.all-cols.ensures.value ∙ ap (λ (p : Program). p.cols) view);
      rounds = c.saturating_add-self-inside.ensures ∙ ap (λ k. min (k + 1) (2 ^ 32 - 1)) same ∙ sym by;
      answer = (c.args.found.answer, refl, subst (λ (p : Program). IsAnswer p.n p.rows p.cols c.args.found.answer) (sym view) c.requires.answer);
    }

pub returns-else-counted : goal.returns-else-counted
returns-else-counted c =
    let view = c.self.view_is in
    let now : Program = c.args.self.now in
    let counted : is_counted now ≡ false = sym c.requires.counted ∙ c.if-counted.false in
    let same = ap (λ (p : Program). p.rounds) view in
    let by = ap (λ (b : Bool). cond b (min (now.rounds + 1) (2 ^ 32 - 1)) now.rounds) counted in
    let rows = ap (λ (p : Program). length p.rows) view in
    record {
      n = ap (λ (p : Program). p.n) view;
      rows = ap (λ (p : Program). p.rows) view;
      cols = ap (λ (p : Program). p.cols) view;
      old_rows = omega (arith, c.len-self-inside.ensures, c.self.inside.rows.ok.0, rows);
      old_cols = ap (λ (l : List Column). length l) (c.all-cols.ensures.value ∙ ap (λ (p : Program). p.cols) view);
      rounds = same ∙ sym by;
      answer = (c.args.found.answer, refl, subst (λ (p : Program). IsAnswer p.n p.rows p.cols c.args.found.answer) (sym view) c.requires.answer);
    }

pub invariant_of-self : goal.invariant_of-self
invariant_of-self c =
    let i = c.self.inside in
    let kept = c.self.invariant in
    let all_rows = i.rows.ok.0 in
    let all_cols = ap (λ (l : List Column). length l) c.all-cols.ensures.value in
    let answer : IsAnswer i.n i.rows.items i.columns.cols c.args.found.answer = subst (λ (p : Program). IsAnswer p.n p.rows p.cols c.args.found.answer) (sym c.self.view_is) c.requires.answer in
    let table = c.requires.table ∙ sym (ap (λ (p : Program). table_of p.rows p.cols) c.self.view_is) in
    record {
      many = kept.many;
      few = kept.few;
      cities = kept.cities;
      small = kept.small;
      few_rows = kept.few_rows;
      old_rows = omega (arith, c.len-self-inside.ensures, all_rows);
      old_cols = omega (arith, all_cols);
      tabled_rows = omega (arith, table_size i.rows.items i.columns.cols c.args.found.table.items table);
      tabled_cols = omega (arith, all_cols);
      table = table_whole (length c.all-cols.result.now) i.rows.items i.columns.cols c.args.found.table.items (omega (arith, all_cols)) table;
      newest = (answer_taken i.n c.len-self-inside.result (length c.all-cols.result.now) i.rows.items i.columns.cols c.args.found.answer (omega (arith, c.len-self-inside.ensures, all_rows)) (omega (arith, all_cols)) answer, c.requires.duals);
    }

pub invariant_of-self-else-counted : goal.invariant_of-self-else-counted
invariant_of-self-else-counted c =
    let i = c.self.inside in
    let kept = c.self.invariant in
    let all_rows = i.rows.ok.0 in
    let all_cols = ap (λ (l : List Column). length l) c.all-cols.ensures.value in
    let answer : IsAnswer i.n i.rows.items i.columns.cols c.args.found.answer = subst (λ (p : Program). IsAnswer p.n p.rows p.cols c.args.found.answer) (sym c.self.view_is) c.requires.answer in
    let table = c.requires.table ∙ sym (ap (λ (p : Program). table_of p.rows p.cols) c.self.view_is) in
    record {
      many = kept.many;
      few = kept.few;
      cities = kept.cities;
      small = kept.small;
      few_rows = kept.few_rows;
      old_rows = omega (arith, c.len-self-inside.ensures, all_rows);
      old_cols = omega (arith, all_cols);
      tabled_rows = omega (arith, table_size i.rows.items i.columns.cols c.args.found.table.items table);
      tabled_cols = omega (arith, all_cols);
      table = table_whole (length c.all-cols.result.now) i.rows.items i.columns.cols c.args.found.table.items (omega (arith, all_cols)) table;
      newest = (answer_taken i.n c.len-self-inside.result (length c.all-cols.result.now) i.rows.items i.columns.cols c.args.found.answer (omega (arith, c.len-self-inside.ensures, all_rows)) (omega (arith, all_cols)) answer, c.requires.duals);
    }
