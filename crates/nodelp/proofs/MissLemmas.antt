-- A cut that the values miss is missed by its row.
use Rattle.std.proofs.Common.{◌≡◌, ℕ, zero, suc, ◌+◌, ◌-◌, ◌*◌, ◌^◌, ◌<◌, ◌≤◌, Bool, true, false, cond, not, eqb, ◌&&◌, ◌||◌, nat_lt, List, [], ◌∷◌, ◌++◌, length, map, drop, ℤ, pos, ◌-ℤ◌, ◌≤ℤ◌, Some, refl, sym, ap, subst, ◌∙◌, arith, ⊎_elim}
use Rattle.std.specs.Prelude.{slice_get, sum_by}
use Rattle.std.specs.List.{AllByRecursion}
use Rattle.std.proofs.lemmas.Int.{ints}
use Rattle.std.proofs.lemmas.Bool.{cases_Bool, or_cases, or_left, or_right, cond-true, cond-false, false≢true, le-ltb}
use Rattle.std.proofs.lemmas.List.{drop-append-le, drop_all}
use Rattle.std.proofs.lemmas.List.Sums.{sum_by-cons}
use Rattle.tspdef.specs.Tours.{joins, crosses}
use Rattle.tspdef.specs.Sets.{has}
use Rattle.tspdef.specs.Sums.{sum_pairs}
use Rattle.tspdef.specs.Bounds.{scale, violation}
use Rattle.tspdef.specs.Cuts.{Cut, coefficient, sets_of, right_side}
use Rattle.tspdef.proofs.SumLemmas.{sum_pairs-same}
use Rattle.tspdef.proofs.Steps.{joins_is}
use Rattle.cyc.specs.declared.frac.Entry.{Entry}
use Rattle.cyc.specs.Frac.{value_of, is_listed, IsEntry, ArePairsDistinct, AreEntries}
use Rattle.cyc.proofs.EntryLemmas.{value_unlisted}
use Rattle.cyc.proofs.EntrySums.{sums_by_entries}
use Rattle.lpcheck.specs.Rows.{cities_of_each, coef}
use Rattle.lpcheck.specs.Answers.{activity, short, miss, box_miss, rows_fault, boxes_fault}
use Rattle.lpcheck.specs.Added.{any_missed}
use Rattle.lpcheck.specs.declared.row.Sense.{Sense}
use Rattle.lpcheck.specs.declared.row.Sense.TheVariants.{AtLeast}
use Rattle.lpcheck.specs.declared.row.Row.{Row}
use Rattle.lpcheck.specs.declared.column.Column.{Column}
use Rattle.simplex.specs.Columns.{blank, AreColumns, is_col}
use Rattle.nodelp.specs.Shapes.{Shape, shape_of, cut_shape}

-- ---- values on the columns alone

abbrev pub entry_of : List Entry → Column → Entry
entry_of es c = record { u = c.u; v = c.v; x = value_of es c.u c.v }

abbrev pub on_columns : List Entry → List Column → List Entry
on_columns es cols = map (entry_of es) cols

abbrev pub values_on : List Entry → List Column → List ℕ
values_on es cols = map (λ c. value_of es c.u c.v) cols

listed_is : (es : List Entry) (cols : List Column) (u v : ℕ) → is_listed (on_columns es cols) u v ≡ is_col cols u v
listed_is es [] u v = refl
listed_is es (c ∷ cols) u v = ap (λ (b : Bool). joins u v (c.u, c.v) || b) (listed_is es cols u v)

each_is : (n : ℕ) (es : List Entry) (cols : List Column) → AllByRecursion (IsEntry n) (map blank cols) → AllByRecursion (λ e. e.x ≤ 2 ^ 30) (on_columns es cols) → AllByRecursion (IsEntry n) (on_columns es cols)
each_is n es [] are small = tt
each_is n es (c ∷ cols) are small = (record { u_below = are.0.u_below; v_below = are.0.v_below; apart = are.0.apart; small = small.0 }, each_is n es cols are.1 small.1)

distinct_is : (es : List Entry) (cols : List Column) → ArePairsDistinct (map blank cols) → ArePairsDistinct (on_columns es cols)
distinct_is es [] are = tt
distinct_is es (c ∷ cols) are = (listed_is es cols c.u c.v ∙ are.0, distinct_is es cols are.1)

or_swap : (x y : Bool) → (x || y) ≡ (y || x)
or_swap true true = refl
or_swap true false = refl
or_swap false true = refl
or_swap false false = refl

value_swap : (es : List Entry) (u v : ℕ) → value_of es v u ≡ value_of es u v
value_swap [] u v = refl
value_swap (e ∷ es) u v =
    let j : joins v u (e.u, e.v) ≡ joins u v (e.u, e.v) = or_swap (eqb e.u v && eqb e.v u) (eqb e.u u && eqb e.v v) in
    ap (λ (b : Bool). cond b e.x (value_of es v u)) j ∙ ap (λ (k : ℕ). cond (joins u v (e.u, e.v)) e.x k) (value_swap es u v)

value_joined : (es : List Entry) (a b u v : ℕ) → joins u v (a, b) ≡ true → value_of es a b ≡ value_of es u v
value_joined es a b u v j = ⊎_elim
    (λ (p : (a ≡ u) × (b ≡ v)). ap (λ x. value_of es x b) p.0 ∙ ap (λ y. value_of es u y) p.1)
    (λ (p : (a ≡ v) × (b ≡ u)). ap (λ x. value_of es x b) p.0 ∙ (ap (λ y. value_of es v y) p.1 ∙ value_swap es u v))
    (joins_is a b u v j)

value_on : (es : List Entry) (cols : List Column) (u v : ℕ) → is_col cols u v ≡ true → value_of (on_columns es cols) u v ≡ value_of es u v
value_on es [] u v h = absurd (false≢true h)
value_on es (c ∷ cols) u v h = ⊎_elim
    (λ (j : joins u v (c.u, c.v) ≡ true). cond-true (joins u v (c.u, c.v)) (value_of es c.u c.v) (value_of (on_columns es cols) u v) j ∙ value_joined es c.u c.v u v j)
    (λ (j : joins u v (c.u, c.v) ≡ false).
    cond-false (joins u v (c.u, c.v)) (value_of es c.u c.v) (value_of (on_columns es cols) u v) j
    ∙ value_on es cols u v (⊎_elim
    (λ (q : joins u v (c.u, c.v) ≡ true). absurd (false≢true (sym j ∙ q)))
    (λ (q : is_col cols u v ≡ true). q)
    (or_cases (joins u v (c.u, c.v)) (is_col cols u v) h)))
    (cases_Bool (joins u v (c.u, c.v)))

value_is : (es : List Entry) (cols : List Column) → ((u v : ℕ) → is_col cols u v ≡ false → value_of es u v ≡ 0) → (u v : ℕ) → value_of (on_columns es cols) u v ≡ value_of es u v
value_is es cols off u v = ⊎_elim
    (λ (h : is_col cols u v ≡ true). value_on es cols u v h)
    (λ (h : is_col cols u v ≡ false). value_unlisted (on_columns es cols) u v (listed_is es cols u v ∙ h) ∙ sym (off u v h))
    (cases_Bool (is_col cols u v))

-- ---- sizes

box_small : (must : Bool) (x : ℕ) → box_miss must x < 2 ^ 10 → x ≤ 2 ^ 30
box_small true x h = omega arith
box_small false x h = omega arith

all_small : (es : List Entry) (cols : List Column) → boxes_fault cols (values_on es cols) < 2 ^ 10 → AllByRecursion (λ e. e.x ≤ 2 ^ 30) (on_columns es cols)
all_small es [] h = tt
all_small es (c ∷ cols) h =
    let x = value_of es c.u c.v in
    let first : box_miss c.must x < 2 ^ 10 = omega arith in
    let rest : boxes_fault cols (values_on es cols) < 2 ^ 10 = omega arith in
    (box_small c.must x first, all_small es cols rest)

-- ---- sums

crosses_swap : (a b : Bool) → cond a (not b) b ≡ cond b (not a) a
crosses_swap true true = refl
crosses_swap true false = refl
crosses_swap false true = refl
crosses_swap false false = refl

coefficient_swap : (ss : List (List ℕ)) (u v : ℕ) → coefficient ss u v ≡ coefficient ss v u
coefficient_swap [] u v = refl
coefficient_swap (s ∷ ss) u v =
    ap (λ (b : Bool). cond b 1 0 + coefficient ss u v) (crosses_swap (has s u) (has s v)) ∙ ap (λ (k : ℕ). cond (crosses (has s) (v, u)) 1 0 + k) (coefficient_swap ss u v)

sum_on : (es : List Entry) (cols : List Column) (row : Row) → sum_by (λ e. e.x * coefficient (cities_of_each row.sets.items) e.u e.v) (on_columns es cols) ≡ activity row cols (values_on es cols)
sum_on es [] row = refl
sum_on es (c ∷ cols) row =
    sum_by-cons (λ (e : Entry). e.x * coefficient (cities_of_each row.sets.items) e.u e.v) (entry_of es c) (on_columns es cols)
    ∙ ap (λ (k : ℕ). value_of es c.u c.v * coef row c.u c.v + k) (sum_on es cols row)

-- the sum over all pairs is that over the columns
sum_is : (n : ℕ) (es : List Entry) (cols : List Column) (row : Row) → AreColumns n cols → ((u v : ℕ) → is_col cols u v ≡ false → value_of es u v ≡ 0) → boxes_fault cols (values_on es cols) < 2 ^ 10
    → sum_pairs (λ u v. pos (value_of es u v * coefficient (cities_of_each row.sets.items) u v)) n ≡ pos (activity row cols (values_on es cols))
sum_is n es cols row are off boxes =
    let ss = cities_of_each row.sets.items in
    let own : AreEntries n (on_columns es cols) = record { each = each_is n es cols are.each (all_small es cols boxes); distinct = distinct_is es cols are.distinct } in
    sum_pairs-same (λ u v. pos (value_of es u v * coefficient ss u v)) (λ u v. pos (value_of (on_columns es cols) u v * coefficient ss u v)) n
    (λ u v low high. ap (λ (k : ℕ). pos (k * coefficient ss u v)) (sym (value_is es cols off u v)))
    ∙ (sums_by_entries n (on_columns es cols) (λ u v. coefficient ss u v) own (coefficient_swap ss)
    ∙ ap (λ (k : ℕ). pos k) (sum_on es cols row))

at_least : (s : Sense) (a b : ℕ) → s ≡ AtLeast → short s a b ≡ b - a
at_least s a b e = ap (λ (t : Sense). short t a b) e

less_is : (a b : ℕ) → pos (2 ^ 10) ≤ℤ (pos b -ℤ pos a) → 2 ^ 10 ≤ b - a
less_is a b h = omega (arith, ints)

-- a cut that the values miss is missed by each row of its shape
pub row_misses : (n : ℕ) (es : List Entry) (cols : List Column) (row : Row) (c : Cut) → AreColumns n cols → ((u v : ℕ) → is_col cols u v ≡ false → value_of es u v ≡ 0)
    → boxes_fault cols (values_on es cols) < 2 ^ 10 → pos (2 ^ 10) ≤ℤ violation (value_of es) n c → shape_of row ≡ cut_shape c → 2 ^ 10 ≤ miss cols (values_on es cols) row
row_misses n es cols row c are off boxes violated same =
    let sets : cities_of_each row.sets.items ≡ sets_of c = ap (λ (s : Shape). s.sets) same in
    let right : row.rhs ≡ right_side c = ap (λ (s : Shape). s.right) same in
    let sense : row.sense ≡ AtLeast = ap (λ (s : Shape). s.sense) same in
    let sum = sum_is n es cols row are off boxes in
    let act = activity row cols (values_on es cols) in
    let by_row : sum_pairs (λ u v. pos (value_of es u v * coefficient (sets_of c) u v)) n ≡ pos act =
    subst (λ (ss : List (List ℕ)). sum_pairs (λ u v. pos (value_of es u v * coefficient ss u v)) n ≡ pos act) sets sum in
    let over : pos (2 ^ 10) ≤ℤ (pos (scale * right_side c) -ℤ pos act) = subst (λ (z : ℤ). pos (2 ^ 10) ≤ℤ (pos (scale * right_side c) -ℤ z)) by_row violated in
    subst (λ (k : ℕ). 2 ^ 10 ≤ k) (sym (at_least row.sense act (scale * row.rhs) sense ∙ ap (λ (r : ℕ). scale * r - act) right)) (less_is act (scale * right_side c) over)

-- ---- rows that are there are not missed

pub row_at : (P : Row → Type 0) (rows : List Row) (k : ℕ) (s : Shape) → slice_get (map shape_of rows) k ≡ Some s → ((row : Row) → shape_of row ≡ s → P row) → (row : Row) × P row
row_at P [] k s h f = cc
row_at P (r ∷ rows) zero s h f = (r, f r (some_same (shape_of r) s h)) where
  some_same : (a b : Shape) → Some a ≡ Some b → a ≡ b
  some_same a b e = cc
row_at P (r ∷ rows) (suc k) s h f = row_at P rows k s h f

pub fault_at : (cols : List Column) (xs : List ℕ) (rows : List Row) (k : ℕ) (s : Shape) → slice_get (map shape_of rows) k ≡ Some s → ((row : Row) → shape_of row ≡ s → 2 ^ 10 ≤ miss cols xs row)
    → 2 ^ 10 ≤ rows_fault cols xs rows
fault_at cols xs [] k s h f = cc
fault_at cols xs (r ∷ rows) zero s h f = let m = f r (some_same (shape_of r) s h) in omega (arith, m) where
  some_same : (a b : Shape) → Some a ≡ Some b → a ≡ b
  some_same a b e = cc
fault_at cols xs (r ∷ rows) (suc k) s h f = let m = fault_at cols xs rows k s h f in omega (arith, m)

-- ---- rows that are added

any_front : (cols : List Column) (xs : List ℕ) (rows more : List Row) → any_missed cols xs rows ≡ true → any_missed cols xs (rows ++ more) ≡ true
any_front cols xs [] more h = absurd (false≢true h)
any_front cols xs (r ∷ rows) more h = ⊎_elim
    (λ q. or_left (not (nat_lt (miss cols xs r) (2 ^ 10))) (any_missed cols xs (rows ++ more)) q)
    (λ q. or_right (not (nat_lt (miss cols xs r) (2 ^ 10))) (any_missed cols xs (rows ++ more)) (any_front cols xs rows more q))
    (or_cases (not (nat_lt (miss cols xs r) (2 ^ 10))) (any_missed cols xs rows) h)

pub missed_still : (cols : List Column) (xs : List ℕ) (k : ℕ) (rows more : List Row) → k ≤ length rows → any_missed cols xs (drop k rows) ≡ true → any_missed cols xs (drop k (rows ++ more)) ≡ true
missed_still cols xs k rows more within h = subst (λ (l : List Row). any_missed cols xs l ≡ true) (sym (drop-append-le k rows more within)) (any_front cols xs (drop k rows) more h)

pub missed_first : (cols : List Column) (xs : List ℕ) (rows : List Row) (r : Row) → 2 ^ 10 ≤ miss cols xs r → any_missed cols xs (drop (length rows) (rows ++ r ∷ [])) ≡ true
missed_first cols xs rows r m =
    subst (λ (l : List Row). any_missed cols xs l ≡ true) (sym (drop-append-le (length rows) rows (r ∷ []) (omega arith) ∙ ap (λ (l : List Row). l ++ r ∷ []) (drop_all (length rows) rows (omega arith))))
    (or_left (not (nat_lt (miss cols xs r) (2 ^ 10))) false (ap not (le-ltb (miss cols xs r) (2 ^ 10) m)))
