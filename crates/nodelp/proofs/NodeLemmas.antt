-- A node's relaxation, as rows are added.
use Rattle.std.proofs.Common.{◌≡◌, ℕ, zero, suc, ◌+◌, ◌^◌, ◌<◌, ◌≤◌, Bool, true, false, List, [], ◌∷◌, ◌++◌, length, map, take, drop, ℤ, Option, Some, None, refl, sym, ap, subst, ◌∙◌, arith, ⊎_elim}
use Rattle.std.specs.List.{All, AllByRecursion}
use Rattle.std.proofs.lemmas.Bool.{or_left, or_right}
use Rattle.std.proofs.lemmas.List.{map-append, length-append, length-map, take-append-le, take_all}
use Rattle.std.proofs.lemmas.List.Elements.{All-from_recursion, recursion_from_All}
use Rattle.tspdef.specs.Cuts.{Cut, IsCut}
use Rattle.tspdef.specs.Paths.{Condition}
use Rattle.tspdef.specs.Instances.{Instance}
use Rattle.cyc.specs.Frac.{value_of}
use Rattle.lpcheck.specs.Answers.{fault, rows_fault, boxes_fault, miss}
use Rattle.lpcheck.specs.Added.{any_missed, any_negative}
use Rattle.lpcheck.specs.declared.row.Row.{Row}
use Rattle.lpcheck.specs.declared.column.Column.{Column}
use Rattle.simplex.specs.Columns.{AreColumns, is_col, values_at}
use Rattle.simplex.specs.Lp.{Program, IsAnswer, IsSolve, is_counted, is_new_to, values_in, duals_in}
use Rattle.simplex.specs.declared.answer.LpAnswer.{LpAnswer}
use Rattle.simplex.specs.declared.answer.LpAnswer.TheVariants.{Solved, Rough}
use Rattle.nodelp.specs.Shapes.{Shape, shape_of, cut_shape, first_shapes}
use Rattle.nodelp.specs.Cuts.{AreCutRows, is_listed, put}
use Rattle.nodelp.specs.Node.{Node, IsNodeLp, IsCore, IsClean, HasSolved, IsMissed, entries_in}
use Rattle.nodelp.specs.Adding.{IsNewRow, IsThere, IsAdded, AreAdded, AreFurther}
use Rattle.nodelp.specs.Duals.{newest_duals}
use Rattle.nodelp.proofs.CutLemmas.{cut_rows_put, all_put, length-put, listed_row}
use Rattle.nodelp.proofs.MissLemmas.{row_misses, fault_at, missed_still, missed_first}

-- ---- a further cut

all_imply : (P Q : Cut × ℕ → Type 0) (qs : List (Cut × ℕ)) → ((q : Cut × ℕ) → P q → Q q) → AllByRecursion P qs → AllByRecursion Q qs
all_imply P Q [] f a = tt
all_imply P Q (q ∷ qs) f a = (f q a.0, all_imply P Q qs f a.1)

pub node_new : (i : Instance) (path : List Condition) (before : Node) (row : Row) (c : Cut) → IsNodeLp i path before → IsCut i.n c → shape_of row ≡ cut_shape c → is_listed before.cuts c ≡ false
    → IsNodeLp i path (record { program = record before.program { rows = before.program.rows ++ row ∷ [] }; cuts = put (c, length before.program.rows) before.cuts })
node_new i path before row c node cut same new =
    let rows = before.program.rows in
    let base = length (first_shapes i.n path) in
    let all = node.all in
    let front : base ≤ length (map shape_of rows) = (let l = length-map rows shape_of in omega (arith, l, all)) in
    let here : base ≤ length rows = omega (arith, all) in
    let more_rows = length-append rows (row ∷ []) in
    let more_cuts = length-put (c, length rows) before.cuts in
    record {
      cities = node.cities;
      first = ap (λ (l : List Shape). take base l) (map-append shape_of rows (row ∷ [])) ∙ (take-append-le base (map shape_of rows) (map shape_of (row ∷ [])) front ∙ node.first);
      cuts = cut_rows_put i.n rows row c before.cuts node.cuts cut same new;
      behind = all_put (λ q. base ≤ q.1) (c, length rows) before.cuts here node.behind;
      all = omega (arith, all, more_rows, more_cuts);
      core = node.core;
    }

is_record : (c : Cut) (before after : Node) (row : Row) → IsNewRow c before after row → after ≡ record { program = record before.program { rows = before.program.rows ++ row ∷ [] }; cuts = put (c, length before.program.rows) before.cuts }
is_record c before after row is = ap (λ (p : Program). record { program = p; cuts = after.cuts }) is.program ∙ ap (λ (l : List (Cut × ℕ)). record { program = record before.program { rows = before.program.rows ++ row ∷ [] }; cuts = l }) is.cuts

new_kept : (i : Instance) (path : List Condition) (c : Cut) (before after : Node) (row : Row) → IsNewRow c before after row → IsCut before.program.n c → IsNodeLp i path before → IsNodeLp i path after
new_kept i path c before after row is cut node =
    subst (IsNodeLp i path) (sym (is_record c before after row is)) (node_new i path before row c node (subst (λ (n : ℕ). IsCut n c) node.cities cut) is.shape is.new)

added_kept : (i : Instance) (path : List Condition) (c : Cut) (before after : Node) → IsAdded c before after → IsCut before.program.n c → IsNodeLp i path before → IsNodeLp i path after
added_kept i path c before after is cut node = ⊎_elim
    (λ (h : IsThere c before after). subst (IsNodeLp i path) (sym h.same) node)
    (λ (h : (row : Row) × IsNewRow c before after row). new_kept i path c before after h.0 h.1 cut node)
    is

-- ---- a Solved answer

-- what is known of a Solved answer
pub record IsFine (p : Program) : Type 0 where
  pub off : (u v : ℕ) → is_col p.cols u v ≡ false → value_of (entries_in p.last) u v ≡ 0
  pub rows : rows_fault p.cols (map (λ c. value_of (entries_in p.last) c.u c.v) p.cols) p.rows < 2 ^ 10
  pub boxes : boxes_fault p.cols (map (λ c. value_of (entries_in p.last) c.u c.v) p.cols) < 2 ^ 10

fine_of : (p : Program) (a : LpAnswer) → p.last ≡ Some a → IsAnswer p.n p.rows p.cols a → HasSolved (Some a) → IsFine p
fine_of p (Solved x duals gap) is answer h =
    let es : entries_in p.last ≡ x.entries = ap entries_in is in
    let near = answer.good.near in
    record {
      off = λ u v free. ap (λ l. value_of l u v) es ∙ answer.parts.off u v free;
      rows = subst (λ l. rows_fault p.cols (map (λ c. value_of l c.u c.v) p.cols) p.rows < 2 ^ 10) (sym es) (omega (arith, near));
      boxes = subst (λ l. boxes_fault p.cols (map (λ c. value_of l c.u c.v) p.cols) < 2 ^ 10) (sym es) (omega (arith, near));
    }
fine_of p (Rough x duals fault gap) is answer h = absurd h

pub fine : (p : Program) → IsClean p → HasSolved p.last → IsFine p
fine p clean solved = fine_of p clean.answer.0 clean.answer.1 clean.answer.2 (subst HasSolved clean.answer.1 solved)

-- ---- the first cut is new, and its row is missed

misses : (p : Program) (row : Row) (c : Cut) → AreColumns p.n p.cols → IsFine p → IsMissed p c → shape_of row ≡ cut_shape c → 2 ^ 10 ≤ miss p.cols (map (λ c. value_of (entries_in p.last) c.u c.v) p.cols) row
misses p row c are f missed same = row_misses p.n (entries_in p.last) p.cols row c are f.off f.boxes missed same

not_there : (before : Node) (c : Cut) → AreColumns before.program.n before.program.cols → IsFine before.program → IsMissed before.program c → AreCutRows before.program.n before.program.rows before.cuts → is_listed before.cuts c ≡ true → ⊥
not_there before c are f missed cuts there =
    let p = before.program in
    let at = listed_row p.rows before.cuts c cuts.placed there in
    let over = fault_at p.cols (map (λ c. value_of (entries_in p.last) c.u c.v) p.cols) p.rows at.0 (cut_shape c) at.1 (λ row same. misses p row c are f missed same) in
    let under = f.rows in
    omega (arith, over, under)

first_missed : (before after : Node) (c : Cut) → AreColumns before.program.n before.program.cols → IsFine before.program → IsMissed before.program c → AreCutRows before.program.n before.program.rows before.cuts
    → IsAdded c before after → any_missed before.program.cols (map (λ c. value_of (entries_in before.program.last) c.u c.v) before.program.cols) (drop (length before.program.rows) after.program.rows) ≡ true
first_missed before after c are f missed cuts is = ⊎_elim
    (λ (h : IsThere c before after). absurd (not_there before c are f missed cuts h.listed))
    (λ (h : (row : Row) × IsNewRow c before after row).
    let p = before.program in
    let xs = map (λ c. value_of (entries_in p.last) c.u c.v) p.cols in
    subst (λ (l : List Row). any_missed p.cols xs (drop (length p.rows) l) ≡ true) (sym (ap (λ (q : Program). q.rows) h.1.program))
    (missed_first p.cols xs p.rows h.0 (misses p h.0 c are f missed h.1.shape)))
    is

more_missed : (before now after : Node) (c : Cut) (xs : List ℕ) (k : ℕ) → k ≤ length now.program.rows → IsAdded c now after → any_missed before.program.cols xs (drop k now.program.rows) ≡ true
    → any_missed before.program.cols xs (drop k after.program.rows) ≡ true
more_missed before now after c xs k within is h = ⊎_elim
    (λ (t : IsThere c now after). subst (λ (n : Node). any_missed before.program.cols xs (drop k n.program.rows) ≡ true) (sym t.same) h)
    (λ (t : (row : Row) × IsNewRow c now after row).
    subst (λ (l : List Row). any_missed before.program.cols xs (drop k l) ≡ true) (sym (ap (λ (q : Program). q.rows) t.1.program)) (missed_still before.program.cols xs k now.program.rows (t.0 ∷ []) within h))
    is

added_others : (c : Cut) (before after : Node) → IsAdded c before after → after.program ≡ record before.program { rows = after.program.rows }
added_others c before after is = ⊎_elim
    (λ (t : IsThere c before after). ap (λ (n : Node). record n.program { rows = after.program.rows }) t.same)
    (λ (t : (row : Row) × IsNewRow c before after row). t.1.program ∙ ap (λ (l : List Row). record before.program { rows = l }) (sym (ap (λ (q : Program). q.rows) t.1.program)))
    is

added_lengths : (c : Cut) (before after : Node) → IsAdded c before after → (length before.program.rows ≤ length after.program.rows) × (length after.program.rows ≤ length before.program.rows + 1)
added_lengths c before after is = ⊎_elim
    (λ (t : IsThere c before after). let e = ap (λ (n : Node). length n.program.rows) t.same in (omega (arith, e), omega (arith, e)))
    (λ (t : (row : Row) × IsNewRow c before after row).
    let e = ap (λ (q : Program). length q.rows) t.1.program in
    let l = length-append before.program.rows (t.0 ∷ []) in
    (omega (arith, e, l), omega (arith, e, l)))
    is

pub none_added : (node : Node) → AreAdded 0 node node
none_added node = record { kept = λ i path h. h; others = refl; longer = omega arith; most = omega arith; start = λ e. refl; missed = λ h. absurd (omega (arith, h)) }

pub one_added : (many : ℕ) (before now after : Node) (c : Cut) → AreColumns before.program.n before.program.cols → IsFine before.program → IsMissed before.program c → IsCut before.program.n c
    → AreCutRows before.program.n before.program.rows before.cuts → AreAdded many before now → IsAdded c now after → AreAdded (many + 1) before after
one_added many before now after c are f missed cut cuts so_far is =
    let xs = map (λ c. value_of (entries_in before.program.last) c.u c.v) before.program.cols in
    let lengths = added_lengths c now after is in
    let longer = so_far.longer in
    let most = so_far.most in
    let low = lengths.0 in
    let high = lengths.1 in
    record {
      kept = λ i path h. added_kept i path c now after is (subst (λ (p : Program). IsCut p.n c) (sym so_far.others) cut) (so_far.kept i path h);
      others = added_others c now after is ∙ ap (λ (p : Program). record p { rows = after.program.rows }) so_far.others;
      longer = omega (arith, longer, low);
      most = omega (arith, most, high);
      start = λ e. absurd (omega (arith, e));
      missed = λ h. at_once many so_far longer;
    }
  where
    at_once : (k : ℕ) → AreAdded k before now → length before.program.rows ≤ length now.program.rows
        → any_missed before.program.cols (map (λ c. value_of (entries_in before.program.last) c.u c.v) before.program.cols) (drop (length before.program.rows) after.program.rows) ≡ true
    at_once zero s l = first_missed before after c are f missed cuts (subst (λ (n : Node). IsAdded c n after) (s.start refl) is)
    at_once (suc k) s l = more_missed before now after c (map (λ c. value_of (entries_in before.program.last) c.u c.v) before.program.cols) (length before.program.rows) l is (s.missed (omega arith))

-- ---- cuts that a program begins with

pub none_further : (node : Node) → AreFurther 0 node node
none_further node = record { kept = λ i path h. h; others = refl; most = omega arith }

pub passed_further : (node : Node) → AreFurther 1 node node
passed_further node = record { kept = λ i path h. h; others = refl; most = omega arith }

pub added_further : (before after : Node) (c : Cut) → IsCut before.program.n c → IsAdded c before after → AreFurther 1 before after
added_further before after c cut is = record {
  kept = λ i path h. added_kept i path c before after is cut h;
  others = added_others c before after is;
  most = (added_lengths c before after is).1;
}

pub more_further : (many : ℕ) (before now after : Node) → AreFurther many before now → AreFurther 1 now after → AreFurther (many + 1) before after
more_further many before now after so_far next =
    let most = so_far.most in
    let last = next.most in
    record {
      kept = λ i path h. next.kept i path (so_far.kept i path h);
      others = next.others ∙ ap (λ (p : Program). record p { rows = after.program.rows }) so_far.others;
      most = omega (arith, most, last);
    }

-- ---- the last of some

pub rec_last : (P : Cut → Type 0) (xs : List Cut) (x : Cut) → AllByRecursion P (xs ++ x ∷ []) → P x
rec_last P [] x a = a.0
rec_last P (y ∷ ys) x a = rec_last P ys x a.1

pub rec_front : (P : Cut → Type 0) (xs : List Cut) (x : Cut) → AllByRecursion P (xs ++ x ∷ []) → AllByRecursion P xs
rec_front P [] x a = tt
rec_front P (y ∷ ys) x a = (a.0, rec_front P ys x a.1)

pub all_last : (P : Cut → Type 0) (ys xs : List Cut) (x : Cut) → ys ≡ xs ++ x ∷ [] → All P ys → P x
all_last P ys xs x e a = rec_last P xs x (subst (λ (l : List Cut). AllByRecursion P l) e (recursion_from_All P ys a))

pub all_front : (P : Cut → Type 0) (ys xs : List Cut) (x : Cut) → ys ≡ xs ++ x ∷ [] → All P ys → All P xs
all_front P ys xs x e a = All-from_recursion P xs (rec_front P xs x (subst (λ (l : List Cut). AllByRecursion P l) e (recursion_from_All P ys a)))

-- ---- a solve would count

counted_by : (p : Program) (a : LpAnswer) → p.last ≡ Some a → is_new_to p a ≡ true → is_counted p ≡ true
counted_by p a is h = ap (λ (o : Option LpAnswer). elim o as (λ _. Bool) [ None ↦ true | Some b ↦ is_new_to p b ]) is ∙ h

pub rows_count : (old : Program) (rows : List Row) → IsClean old → any_missed old.cols (map (λ c. value_of (entries_in old.last) c.u c.v) old.cols) (drop (length old.rows) rows) ≡ true → is_counted (record old { rows = rows }) ≡ true
rows_count old rows clean h =
    let a = clean.answer.0 in
    let is = clean.answer.1 in
    let new = record old { rows = rows } in
    let es : entries_in old.last ≡ (values_in a).entries = ap entries_in is in
    let missed : any_missed old.cols (values_at (values_in a) old.cols) (drop old.old_rows rows) ≡ true =
    subst (λ (k : ℕ). any_missed old.cols (values_at (values_in a) old.cols) (drop k rows) ≡ true) (sym clean.old_rows)
    (subst (λ l. any_missed old.cols (map (λ c. value_of l c.u c.v) old.cols) (drop (length old.rows) rows) ≡ true) es h) in
    counted_by new a is (or_left (any_missed old.cols (values_at (values_in a) old.cols) (drop old.old_rows rows)) (any_negative (take old.old_rows rows) (duals_in a) (drop old.old_cols old.cols)) missed)

pub cols_count : (old : Program) (cols : List Column) → IsClean old → any_negative old.rows (newest_duals old.last) (drop (length old.cols) cols) ≡ true → is_counted (record old { cols = cols }) ≡ true
cols_count old cols clean h =
    let a = clean.answer.0 in
    let is = clean.answer.1 in
    let new = record old { cols = cols } in
    let ys : newest_duals old.last ≡ duals_in a = ap newest_duals is in
    let all : take old.old_rows old.rows ≡ old.rows = take_all old.old_rows old.rows (let e = clean.old_rows in omega (arith, e)) in
    let negative : any_negative (take old.old_rows old.rows) (duals_in a) (drop old.old_cols cols) ≡ true =
    subst (λ (k : ℕ). any_negative (take old.old_rows old.rows) (duals_in a) (drop k cols) ≡ true) (sym clean.old_cols)
    (subst (λ (l : List Row). any_negative l (duals_in a) (drop (length old.cols) cols) ≡ true) (sym all)
    (subst (λ (l : List ℤ). any_negative old.rows l (drop (length old.cols) cols) ≡ true) ys h)) in
    counted_by new a is (or_right (any_missed cols (values_at (values_in a) cols) (drop old.old_rows old.rows)) (any_negative (take old.old_rows old.rows) (duals_in a) (drop old.old_cols cols)) negative)

-- ---- other changes

pub node_solved : (i : Instance) (path : List Condition) (before after : Node) → IsSolve before.program after.program → after.cuts ≡ before.cuts → IsNodeLp i path before → IsNodeLp i path after
node_solved i path before after solve cuts node =
    let rows = solve.rows in
    let first = length (first_shapes i.n path) in
    record {
      cities = solve.n ∙ node.cities;
      first = ap (λ (l : List Row). take first (map shape_of l)) rows ∙ node.first;
      cuts = subst (λ (l : List Row). AreCutRows i.n l after.cuts) (sym rows) (subst (λ (l : List (Cut × ℕ)). AreCutRows i.n before.program.rows l) (sym cuts) node.cuts);
      behind = subst (AllByRecursion (λ q. first ≤ q.1)) (sym cuts) node.behind;
      all = ap (λ (l : List (Cut × ℕ)). first + length l) cuts ∙ (node.all ∙ ap (λ (l : List Row). length l) (sym rows));
      core = subst (IsCore i path) (sym solve.cols) node.core;
    }

pub clean_solved : (before after : Program) → IsSolve before after → IsClean after
clean_solved before after solve = record {
  old_rows = solve.old_rows ∙ ap (λ (l : List Row). length l) (sym solve.rows);
  old_cols = solve.old_cols ∙ ap (λ (l : List Column). length l) (sym solve.cols);
  answer = solve.answer;
}

pub node_wider : (i : Instance) (path : List Condition) (before : Node) (cols : List Column) → IsNodeLp i path before → IsCore i path cols → IsNodeLp i path (record before { program = record before.program { cols = cols } })
node_wider i path before cols node core = record { cities = node.cities; first = node.first; cuts = node.cuts; behind = node.behind; all = node.all; core = core }

pub node_begun : (i : Instance) (path : List Condition) (p : Program) → p.n ≡ i.n → map shape_of p.rows ≡ first_shapes i.n path → IsCore i path p.cols → IsNodeLp i path (record { program = p; cuts = [] })
node_begun i path p cities rows core =
    let l = ap (λ (s : List Shape). length s) rows in
    let m = length-map p.rows shape_of in
    record {
      cities = cities;
      first = ap (λ (s : List Shape). take (length (first_shapes i.n path)) s) rows ∙ take_all (length (first_shapes i.n path)) (first_shapes i.n path) (omega arith);
      cuts = record { rising = tt; each = tt; placed = tt };
      behind = tt;
      all = omega (arith, l, m);
      core = core;
    }
