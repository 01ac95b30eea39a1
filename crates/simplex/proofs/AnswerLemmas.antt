-- What is said of an answer, from its parts.
use Rattle.std.proofs.Common.{◌≡◌, ◌≤◌, ℕ, Bool, false, List, ◌++◌, length, map, take, drop, ℤ, pos, Option, sym, ap, subst, ◌∙◌, arith, IsTrue, ◌↔◌}
use Rattle.std.proofs.lemmas.List.{take_all, drop_all, append-nil, take-append-le, length-append, length-map}
use Rattle.std.proofs.lemmas.Bool.{false≢true}
use Rattle.cyc.specs.declared.frac.Entry.{Entry}
use Rattle.cyc.specs.Frac.{Values, value_of}
use Rattle.lpcheck.specs.Answers.{IsGood}
use Rattle.lpcheck.specs.Answers as answers
use Rattle.lpcheck.specs.Rests.{AreDuals, AreAtRest}
use Rattle.lpcheck.specs.Cells.{cells_of, table_of}
use Rattle.lpcheck.specs.declared.cells.Cell.{Cell}
use Rattle.lpcheck.specs.declared.row.Row.{Row}
use Rattle.lpcheck.specs.declared.column.Column.{Column}
use Rattle.simplex.specs.Columns.{Pairs, blank, unvalued, values_at}
use Rattle.simplex.specs.Lp.{AreOf, IsSolved, IsRough, IsAnswer}
use Rattle.simplex.specs.LpInside.{IsNewest, IsKept}
use Rattle.simplex.specs.declared.lp.Lp.TheInside.{Inside}
use Rattle.simplex.specs.declared.answer.LpAnswer.{LpAnswer}
use Rattle.simplex.proofs.ColumnLemmas.{off_is}

-- a slice that was changed in place is the whole of its vector
pub whole : (new old : List ℤ) (n : ℕ) → n ≡ length old → length new ≡ length old → take n (new ++ drop (length new) old) ≡ new
whole new old n all same =
    ap (λ (l : List ℤ). take n (new ++ l)) (drop_all (length new) old (omega (arith, same)))
    ∙ ap (λ (l : List ℤ). take n l) (append-nil new) ∙ take_all n new (omega (arith, all, same))

parts_are : (n : ℕ) (rows : List Row) (cols : List Column) (x : Values) (es : List Entry) (ys : List ℤ) → x ≡ record { n = n; entries = es } → map unvalued es ≡ map blank cols → AreDuals rows ys → AreOf n rows cols x ys
parts_are n rows cols x es ys is pairs duals = record {
  cities = ap (λ (v : Values). v.n) is;
  off = λ u v off. ap (λ (w : Values). value_of w.entries u v) is ∙ off_is cols es pairs u v off;
  duals = duals;
}

pub solved_is : (n : ℕ) (rows : List Row) (cols : List Column) (x : Values) (es : List Entry) (xs : List ℕ) (ys zs : List ℤ) (g : ℤ) → x ≡ record { n = n; entries = es }
    → map unvalued es ≡ map blank cols → xs ≡ values_at x cols → AreDuals rows ys → zs ≡ ys → IsGood rows cols xs ys → g ≡ answers.gap rows cols xs ys → IsSolved n rows cols x zs g
solved_is n rows cols x es xs ys zs g is pairs values duals same good gap =
    subst (λ (l : List ℤ). IsSolved n rows cols x l g) (sym same) (record {
      parts = parts_are n rows cols x es ys is pairs duals;
      good = subst (λ (l : List ℕ). IsGood rows cols l ys) values good;
      gap_is = gap ∙ ap (λ (l : List ℕ). answers.gap rows cols l ys) values;
    })

pub rough_is : (n : ℕ) (rows : List Row) (cols : List Column) (x : Values) (es : List Entry) (xs : List ℕ) (ys zs : List ℤ) (f g : ℤ) → x ≡ record { n = n; entries = es }
    → map unvalued es ≡ map blank cols → xs ≡ values_at x cols → AreDuals rows ys → zs ≡ ys → ¬ IsGood rows cols xs ys → AreAtRest rows cols ys → f ≡ pos (answers.fault rows cols xs)
    → g ≡ answers.gap rows cols xs ys → IsRough n rows cols x zs f g
rough_is n rows cols x es xs ys zs f g is pairs values duals same bad rests fault gap =
    subst (λ (l : List ℤ). IsRough n rows cols x l f g) (sym same) (record {
      parts = parts_are n rows cols x es ys is pairs duals;
      bad = λ good. bad (subst (λ (l : List ℕ). IsGood rows cols l ys) (sym values) good);
      rests = rests;
      fault_is = fault ∙ ap (λ (l : List ℕ). pos (answers.fault rows cols l)) values;
      gap_is = gap ∙ ap (λ (l : List ℕ). answers.gap rows cols l ys) values;
    })

pub not_good : (b : Bool) (P : Type 0) → (IsTrue b ↔ P) → b ≡ false → ¬ P
not_good b P exact off = λ is. false≢true (sym off ∙ exact.1 is)

pub answer_taken : (n k m : ℕ) (rows : List Row) (cols : List Column) (a : LpAnswer) → length rows ≤ k → length cols ≤ m → IsAnswer n rows cols a → IsAnswer n (take k rows) (take m cols) a
answer_taken n k m rows cols a all_rows all_cols is =
    subst (λ (r : List Row). IsAnswer n r (take m cols) a) (sym (take_all k rows all_rows)) (subst (λ (c : List Column). IsAnswer n rows c a) (sym (take_all m cols all_cols)) is)

pub newest_more : (n k m : ℕ) (rows more : List Row) (cols : List Column) (ys : List ℤ) (last : Option LpAnswer) → k ≤ length rows → IsNewest n (take k rows) (take m cols) ys last
    → IsNewest n (take k (rows ++ more)) (take m cols) ys last
newest_more n k m rows more cols ys last within is = subst (λ (r : List Row). IsNewest n r (take m cols) ys last) (sym (take-append-le k rows more within)) is

pub newest_wider : (n k m : ℕ) (rows : List Row) (cols more : List Column) (ys : List ℤ) (last : Option LpAnswer) → m ≤ length cols → IsNewest n (take k rows) (take m cols) ys last
    → IsNewest n (take k rows) (take m (cols ++ more)) ys last
newest_wider n k m rows cols more ys last within is = subst (λ (c : List Column). IsNewest n (take k rows) c ys last) (sym (take-append-le m cols more within)) is

-- ---- a table of some first rows and columns

pub table_longer : (k m : ℕ) (rows more : List Row) (cols : List Column) (table : List (List Cell)) → k ≤ length rows → table ≡ table_of (take k rows) (take m cols) → table ≡ table_of (take k (rows ++ more)) (take m cols)
table_longer k m rows more cols table within is = is ∙ ap (λ (r : List Row). table_of r (take m cols)) (sym (take-append-le k rows more within))

pub table_wider : (k m : ℕ) (rows : List Row) (cols more : List Column) (table : List (List Cell)) → m ≤ length cols → table ≡ table_of (take k rows) (take m cols) → table ≡ table_of (take k rows) (take m (cols ++ more))
table_wider k m rows cols more table within is = is ∙ ap (λ (c : List Column). table_of (take k rows) c) (sym (take-append-le m cols more within))

pub table_size : (rows : List Row) (cols : List Column) (table : List (List Cell)) → table ≡ table_of rows cols → length table ≡ length rows
table_size rows cols table is = ap (λ (t : List (List Cell)). length t) is ∙ length-map rows (cells_of cols)

pub table_whole : (m : ℕ) (rows : List Row) (cols : List Column) (table : List (List Cell)) → length cols ≤ m → table ≡ table_of rows cols → table ≡ table_of (take (length table) rows) (take m cols)
table_whole m rows cols table all is =
    is ∙ ap (λ (c : List Column). table_of rows c) (sym (take_all m cols all))
    ∙ ap (λ (r : List Row). table_of r (take m cols)) (sym (take_all (length table) rows (omega (arith, table_size rows cols table is))))

pub kept_wider : (i : Inside) (now : Pairs) (more : List Column) → IsKept i → now ≡ record i.columns { cols = i.columns.cols ++ more } → IsKept (record i { columns = now })
kept_wider i now more kept is =
    let longer = length-append i.columns.cols more in
    subst (λ (q : Pairs). IsKept (record i { columns = q })) (sym is) (record {
      many = kept.many;
      few = kept.few;
      cities = kept.cities;
      small = kept.small;
      few_rows = kept.few_rows;
      old_rows = kept.old_rows;
      old_cols = omega (arith, longer, kept.old_cols);
      tabled_rows = kept.tabled_rows;
      tabled_cols = omega (arith, longer, kept.tabled_cols);
      table = table_wider (length i.table.items) i.tabled_cols i.rows.items i.columns.cols more i.table.items kept.tabled_cols kept.table;
      newest = newest_wider i.n i.old_rows i.old_cols i.rows.items i.columns.cols more i.old_duals.items i.last kept.old_cols kept.newest;
    })
