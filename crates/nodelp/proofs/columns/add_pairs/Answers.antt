use Rattle.std.proofs.Common.{◌≡◌, ◌<◌, ◌≤◌, true, false, length, drop, ap, subst, sym, get_or, arith, ⊎_elim}
use Rattle.std.proofs.lemmas.Bool.{cases_lt}
use Rattle.lpcheck.specs.Added.{any_negative}
use Rattle.lpcheck.specs.declared.column.Column.{Column}
use Rattle.std.specs.Prelude.{List}
use Rattle.nodelp.specs.Core.{with_col, IsNegative}
use Rattle.nodelp.specs.Duals.{newest_duals}
use Rattle.nodelp.specs.Node.{IsCore}
use Rattle.nodelp.proofs.CoreLemmas.{core_with, others_chain, with_longer, entered_more, entered_first}
use Rattle.nodelp.proofs.columns.add_pairs.Goals as goal

pub loop-at-preserved : goal.loop-at-preserved
loop-at-preserved c =
    let i = c.args.instance.now in
    let path = c.args.path.now.conditions in
    let old = c.args.lp.now in
    let v = c.loop-at.invariant in
    let at = c.loop-at.at in
    let pair = get_or c.args.pairs.now at (0, 0) in
    let is : IsNegative i path old pair = c.requires.negative at (0, 0) c.loop-at-test.true in
    let cols : c.add.new.lp.cols ≡ with_col i pair.0 pair.1 false c.loop-at.lp.cols = c.in_ok-add.ensures.cols in
    let longer = with_longer i pair.0 pair.1 false c.loop-at.lp.cols in
    let long = ap (λ (l : List Column). length l) cols in
    let before = v.longer in
    record {
      others = others_chain old c.loop-at.lp c.add.new.lp v.others c.in_ok-add.ensures.others;
      core = subst (IsCore i path) (sym cols) (core_with i path c.loop-at.lp.cols pair.0 pair.1 v.core is.ordered is.within is.open_pair);
      longer = omega (arith, longer, long, before);
      start = λ e. absurd (omega (arith, e));
      entered = λ h. subst (λ (l : List Column). any_negative old.rows (newest_duals old.last) (drop (length old.cols) l) ≡ true) (sym cols)
          (⊎_elim
          (λ (more : 0 < at). entered_more old.rows (newest_duals old.last) i (length old.cols) pair.0 pair.1 c.loop-at.lp.cols v.longer (v.entered more))
          (λ (none : at ≤ 0).
          subst (λ (l : List Column). any_negative old.rows (newest_duals old.last) (drop (length old.cols) (with_col i pair.0 pair.1 false l)) ≡ true) (sym (v.start (omega (arith, none))))
          (entered_first old.rows (newest_duals old.last) i pair.0 pair.1 old.cols is.fresh is.negative))
          (cases_lt 0 at));
    }
