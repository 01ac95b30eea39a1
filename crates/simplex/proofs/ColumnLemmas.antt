-- Columns, their table, and entries of the same pairs.
use Rattle.std.proofs.Common.{◌≡◌, ℕ, suc, zero, ◌+◌, ◌*◌, ◌^◌, ◌<◌, ◌≤◌, min, max, Bool, true, false, cond, not, nat_eq, ◌||◌, List, [], ◌∷◌, ◌++◌, length, get_or, map, take, set, refl, sym, ap, subst, ◌∙◌, arith}
use Rattle.std.specs.List.{All, AllByRecursion}
use Rattle.std.proofs.lemmas.Bool.Decides.{nat_tests}
use Rattle.std.proofs.lemmas.List.{map-append, length-append, take_more}
use Rattle.std.proofs.lemmas.List.Elements.{All-head, All-tail}
use Rattle.std.proofs.lemmas.Nat.{mul-add-lt}
use Rattle.tspdef.specs.Tours.{joins}
use Rattle.cyc.specs.declared.frac.Entry.{Entry}
use Rattle.cyc.specs.Frac.{value_of, is_listed, IsEntry, ArePairsDistinct, AreEntries}
use Rattle.cyc.specs.Table.{IsTableOf}
use Rattle.cyc.proofs.EntryLemmas.{entries_push, mark_unlisted, table_push, marked, marked_more, value_unlisted}
use Rattle.lpcheck.specs.declared.column.Column.{Column}
use Rattle.simplex.specs.Columns.{blank, unvalued, AreColumns, is_col}

pub mark_is : (l : Bool) (v : ℕ) → not (nat_eq (cond l (v + 1) 0) 0) ≡ l
mark_is true v = grind (arith, nat_tests)
mark_is false v = refl

pub blank_push : (cols : List Column) (c : Column) → map blank (cols ++ c ∷ []) ≡ map blank cols ++ blank c ∷ []
blank_push cols c = map-append blank cols (c ∷ [])

is_entry : (n : ℕ) (c : Column) → c.u < c.v → c.v < n → IsEntry n (blank c)
is_entry n c ordered within = record { u_below = omega arith; v_below = within; apart = omega arith; small = omega arith }

pub columns_push : (n : ℕ) (cols : List Column) (c : Column) → AreColumns n cols → c.u < c.v → c.v < n → is_col cols c.u c.v ≡ false → AreColumns n (cols ++ c ∷ [])
columns_push n cols c are ordered within fresh = subst (AreEntries n) (sym (blank_push cols c)) (entries_push n (map blank cols) (blank c) are (is_entry n c ordered within) fresh)

cell_is : (n u v cell : ℕ) → u < v → cell ≡ min u v * n + max u v → cell ≡ u * n + v
cell_is n u v cell ordered is =
    let a : min u v ≡ u = omega arith in
    let b : max u v ≡ v = omega arith in
    is ∙ ap (λ k. k * n + max u v) a ∙ ap (λ k. u * n + k) b

pub table_more : (n : ℕ) (cols : List Column) (c : Column) (table : List ℕ) (cell : ℕ) → IsTableOf n (map blank cols) table → cell ≡ min c.u c.v * n + max c.u c.v → c.u < c.v → c.v < n
    → is_col cols c.u c.v ≡ false → IsTableOf n (map blank (cols ++ c ∷ [])) (set table cell 1)
table_more n cols c table cell is at ordered within fresh =
    subst (λ (es : List Entry). IsTableOf n es (set table cell 1)) (sym (blank_push cols c))
    (subst (λ (k : ℕ). IsTableOf n (map blank cols ++ blank c ∷ []) (set table k 1)) (sym at) (table_push n (map blank cols) (blank c) table is (is_entry n c ordered within) fresh))

pub count_more : (n : ℕ) (cols : List Column) (c : Column) (table : List ℕ) (cell : ℕ) → IsTableOf n (map blank cols) table → cell ≡ min c.u c.v * n + max c.u c.v → c.u < c.v → c.v < n
    → is_col cols c.u c.v ≡ false → marked table ≡ length cols → marked (set table cell 1) ≡ length (cols ++ c ∷ [])
count_more n cols c table cell is at ordered within fresh count =
    let place = cell_is n c.u c.v cell ordered at in
    let inside : cell < length table = (let p = mul-add-lt c.u n c.v n (omega arith) within in let s = is.size in omega arith) in
    let none : get_or table cell 0 ≡ 0 = ap (λ k. get_or table k 0) place ∙ is.marks c.u c.v (omega arith) within ∙ mark_unlisted (map blank cols) c.u c.v fresh in
    let more = marked_more table cell 0 inside none in
    let all = length-append cols (c ∷ []) in
    omega (arith, more, count, all)

-- ---- the pairs of columns are pairs

entry_within : (n : ℕ) (cols : List Column) (i : ℕ) (d : Column) → AllByRecursion (IsEntry n) (map blank cols) → i < length cols → ((get_or cols i d).u < n) × ((get_or cols i d).v < n)
entry_within n [] i d are inside = absurd (omega arith)
entry_within n (c ∷ cs) zero d are inside = (are.0.u_below, are.0.v_below)
entry_within n (c ∷ cs) (suc i) d are inside = entry_within n cs i d are.1 (omega arith)

pub column_within : (n : ℕ) (cols : List Column) (i : ℕ) (d : Column) → AreColumns n cols → i < length cols → ((get_or cols i d).u < n) × ((get_or cols i d).v < n)
column_within n cols i d are inside = entry_within n cols i d are.each inside

-- ---- entries of the columns' pairs

listed_is : (es : List Entry) (u v : ℕ) → is_listed es u v ≡ is_listed (map unvalued es) u v
listed_is [] u v = refl
listed_is (e ∷ es) u v = ap (λ (b : Bool). joins u v (e.u, e.v) || b) (listed_is es u v)

each_is : (n : ℕ) (es : List Entry) → AllByRecursion (IsEntry n) (map unvalued es) → All (λ e. e.x ≤ 2 ^ 30) es → AllByRecursion (IsEntry n) es
each_is n [] are small = tt
each_is n (e ∷ es) are small = (
  record { u_below = are.0.u_below; v_below = are.0.v_below; apart = are.0.apart; small = All-head (λ (q : Entry). q.x ≤ 2 ^ 30) e es small },
  each_is n es are.1 (All-tail (λ (q : Entry). q.x ≤ 2 ^ 30) e es small),
)

distinct_is : (es : List Entry) → ArePairsDistinct (map unvalued es) → ArePairsDistinct es
distinct_is [] are = tt
distinct_is (e ∷ es) are = (listed_is es e.u e.v ∙ are.0, distinct_is es are.1)

pub entries_are : (n : ℕ) (cols : List Column) (es : List Entry) → AreColumns n cols → map unvalued es ≡ map blank cols → All (λ e. e.x ≤ 2 ^ 30) es → AreEntries n es
entries_are n cols es are same small =
    let own : AreEntries n (map unvalued es) = subst (AreEntries n) (sym same) are in
    record { each = each_is n es own.each small; distinct = distinct_is es own.distinct }

pub off_is : (cols : List Column) (es : List Entry) → map unvalued es ≡ map blank cols → (u v : ℕ) → is_col cols u v ≡ false → value_of es u v ≡ 0
off_is cols es same u v off = value_unlisted es u v (listed_is es u v ∙ ap (λ (l : List Entry). is_listed l u v) same ∙ off)

pub unvalued_push : (cols : List Column) (i : ℕ) (d : Column) (old new : List Entry) (e : Entry) → i < length cols → map unvalued old ≡ map blank (take i cols) → new ≡ old ++ e ∷ []
    → unvalued e ≡ blank (get_or cols i d) → map unvalued new ≡ map blank (take (i + 1) cols)
unvalued_push cols i d old new e inside before is same =
    ap (map unvalued) is ∙ map-append unvalued old (e ∷ []) ∙ ap (λ (l : List Entry). l ++ unvalued e ∷ []) before ∙ ap (λ (q : Entry). map blank (take i cols) ++ q ∷ []) same
    ∙ sym (blank_push (take i cols) (get_or cols i d)) ∙ ap (map blank) (sym (take_more cols i d inside))
