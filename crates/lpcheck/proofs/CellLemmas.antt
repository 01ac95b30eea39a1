-- What the cells of a row add up to.
use Rattle.std.proofs.Common.{◌≡◌, ℕ, zero, suc, ◌+◌, ◌*◌, ◌<◌, ◌≤◌, ◌==◌, Bool, true, false, cond, List, [], ◌∷◌, ◌++◌, length, map, take, drop, set, get_or, ℤ, pos, ◌+ℤ◌, ◌-ℤ◌, ◌*ℤ◌, refl, ap, sym, ◌∙◌, arith, append_assoc}
use Rattle.std.proofs.lemmas.Int.{ints}
use Rattle.std.proofs.lemmas.Bool.{eqb-true}
use Rattle.std.proofs.lemmas.List.{drop_more, take-append-drop, take_more_set, drop-set-lt, set-get_or, get_or-map, get_or-take, get_or-drop, length-map, length-set, length-take-le}
use Rattle.std.proofs.lemmas.List.Elements.{All-nil, All-cons}
use Rattle.std.proofs.Math.IntN.{*ℤ-zero}
use Rattle.lpcheck.specs.Rows.{coef, reduced, term}
use Rattle.lpcheck.specs.Answers.{activity}
use Rattle.lpcheck.specs.Cells.{cells_from, cells_of, AreWithin, dot, lowered, no_column}
use Rattle.lpcheck.specs.Steps.{column_gain, columns_gain, cells_gain}
use Rattle.lpcheck.specs.declared.row.Row.{Row}
use Rattle.lpcheck.specs.declared.column.Column.{Column}
use Rattle.lpcheck.specs.declared.cells.Cell.{Cell}

within_by : (b : Bool) (n : ℕ) (cell : Cell) (cells : List Cell) → cell.column < n → AreWithin n cells → AreWithin n (cond b cells (cell ∷ cells))
within_by true n cell cells below within = within
within_by false n cell cells below within = All-cons (λ (q : Cell). q.column < n) cell cells below within

pub cells_within : (j n : ℕ) (row : Row) (cols : List Column) → j + length cols ≤ n → AreWithin n (cells_from j row cols)
cells_within j n row [] h = All-nil (λ (q : Cell). q.column < n)
cells_within j n row (c ∷ cs) h =
    within_by (coef row c.u c.v == 0) n (record { column = j; coef = coef row c.u c.v }) (cells_from (j + 1) row cs) (omega arith) (cells_within (j + 1) n row cs (omega arith))

few_by : (b : Bool) (n : ℕ) (cell : Cell) (cells : List Cell) → length cells ≤ n → length (cond b cells (cell ∷ cells)) ≤ suc n
few_by true n cell cells h = omega arith
few_by false n cell cells h = omega arith

pub cells_few : (j : ℕ) (row : Row) (cols : List Column) → length (cells_from j row cols) ≤ length cols
cells_few j row [] = omega arith
cells_few j row (c ∷ cs) = few_by (coef row c.u c.v == 0) (length cs) (record { column = j; coef = coef row c.u c.v }) (cells_from (j + 1) row cs) (cells_few (j + 1) row cs)

-- ---- the cells of some first columns, and of the others

known_by : (b : Bool) (xs ys zs : List Cell) (q : Cell) → xs ++ ys ≡ zs → cond b xs (q ∷ xs) ++ ys ≡ cond b zs (q ∷ zs)
known_by true xs ys zs q is = is
known_by false xs ys zs q is = ap (λ (l : List Cell). q ∷ l) is

pub cells_split : (cols : List Column) (j k : ℕ) (row : Row) → cells_from j row (take k cols) ++ cells_from (j + k) row (drop k cols) ≡ cells_from j row cols
cells_split [] j zero row = refl
cells_split [] j (suc k) row = refl
cells_split (c ∷ cs) j zero row = let same : j + 0 ≡ j = omega arith in ap (λ (i : ℕ). cells_from i row (c ∷ cs)) same
cells_split (c ∷ cs) j (suc k) row =
    let place : j + suc k ≡ (j + 1) + k = omega arith in
    let rest = known_by (coef row c.u c.v == 0) (cells_from (j + 1) row (take k cs)) (cells_from ((j + 1) + k) row (drop k cs)) (cells_from (j + 1) row cs)
    (record { column = j; coef = coef row c.u c.v }) (cells_split cs (j + 1) k row) in
    ap (λ (i : ℕ). cells_from j row (c ∷ take k cs) ++ cells_from i row (drop k cs)) place ∙ rest

pub cells_known : (cols : List Column) (k : ℕ) (row : Row) → cells_of (take k cols) row ++ cells_from k row (drop k cols) ≡ cells_from 0 row cols
cells_known cols k row = let same : k ≡ 0 + k = omega arith in ap (λ (i : ℕ). cells_from 0 row (take k cols) ++ cells_from i row (drop k cols)) same ∙ cells_split cols 0 k row

same_at : (at : ℕ) (now was : List (List Cell)) (d : List Cell) → drop at now ≡ drop at was → get_or now at d ≡ get_or was at d
same_at at now was d tail =
    let same : at + 0 ≡ at = omega arith in
    let of_now : get_or (drop at now) 0 d ≡ get_or now at d = get_or-drop at now 0 d ∙ ap (λ (i : ℕ). get_or now i d) same in
    let of_was : get_or (drop at was) 0 d ≡ get_or was at d = get_or-drop at was 0 d ∙ ap (λ (i : ℕ). get_or was i d) same in
    sym of_now ∙ ap (λ (l : List (List Cell)). get_or l 0 d) tail ∙ of_was

-- the cells at a place of a table that was not reached yet
pub known_at : (rows : List Row) (cols : List Column) (k m at : ℕ) (now was : List (List Cell)) (r : Row) (cells : List Cell) → was ≡ map (cells_of (take k cols)) (take m rows) → drop at now ≡ drop at was
    → at < m → m ≤ length rows → r ≡ get_or rows at r → cells ≡ get_or now at cells → cells ≡ cells_of (take k cols) r
known_at rows cols k m at now was r cells known tail below fewer row_is cells_are =
    let inside : at < length (take m rows) = omega (arith, length-take-le m rows fewer, below) in
    cells_are ∙ same_at at now was cells tail ∙ ap (λ (t : List (List Cell)). get_or t at cells) known ∙ get_or-map (cells_of (take k cols)) (take m rows) at r cells inside
    ∙ ap (cells_of (take k cols)) (get_or-take m rows at r below ∙ sym row_is)

-- ---- sums of values

dot_by : (b : Bool) (j k : ℕ) (cells : List Cell) (xs : List ℕ) → (b ≡ true → k ≡ 0) → dot (cond b cells (record { column = j; coef = k } ∷ cells)) xs ≡ get_or xs j 0 * k + dot cells xs
dot_by true j k cells xs none = let e = none refl in rw e (omega arith)
dot_by false j k cells xs none = refl

pub dot_from : (cols : List Column) (j : ℕ) (row : Row) (xs : List ℕ) → j + length cols ≡ length xs → dot (cells_from j row cols) xs ≡ activity row cols (drop j xs)
dot_from [] j row xs all = refl
dot_from (c ∷ cs) j row xs all =
    let inside : j < length xs = omega (arith, all) in
    let first = dot_by (coef row c.u c.v == 0) j (coef row c.u c.v) (cells_from (j + 1) row cs) xs (eqb-true (coef row c.u c.v) 0) in
    let rest = dot_from cs (j + 1) row xs (omega (arith, all)) in
    let whole = ap (activity row (c ∷ cs)) (drop_more xs j 0 inside) in
    omega (arith, first, rest, whole)

pub dot_is : (cols : List Column) (row : Row) (xs : List ℕ) → length xs ≡ length cols → dot (cells_from 0 row cols) xs ≡ activity row cols xs
dot_is cols row xs all = dot_from cols 0 row xs (omega (arith, all))

-- ---- numbers of the columns, lowered

after : ℤ → Row → List Column → List ℤ → List ℤ
after d row (c ∷ cs) (r ∷ rs) = (r -ℤ d *ℤ pos (coef row c.u c.v)) ∷ after d row cs rs
after d row (c ∷ cs) [] = []
after d row [] rs = rs

less_none : (r d : ℤ) → r -ℤ d *ℤ pos 0 ≡ r
less_none r d = let e = *ℤ-zero d in omega (arith, ints)

lowered_by : (b : Bool) (j k : ℕ) (d : ℤ) (cells : List Cell) (rs : List ℤ) → (b ≡ true → k ≡ 0)
    → lowered d (cond b cells (record { column = j; coef = k } ∷ cells)) rs ≡ lowered d cells (set rs j (get_or rs j (pos 0) -ℤ d *ℤ pos k))
lowered_by true j k d cells rs none =
    let value : get_or rs j (pos 0) -ℤ d *ℤ pos k ≡ get_or rs j (pos 0) = ap (λ (n : ℕ). get_or rs j (pos 0) -ℤ d *ℤ pos n) (none refl) ∙ less_none (get_or rs j (pos 0)) d in
    ap (lowered d cells) (sym (ap (set rs j) value ∙ set-get_or rs j (pos 0)))
lowered_by false j k d cells rs none = refl

lowered_from : (cols : List Column) (j : ℕ) (row : Row) (d : ℤ) (rs : List ℤ) → j + length cols ≡ length rs
    → lowered d (cells_from j row cols) rs ≡ take j rs ++ after d row cols (drop j rs)
unfolding after
lowered_from [] j row d rs all = sym (take-append-drop j rs)
lowered_from (c ∷ cs) j row d rs all =
    let k : ℕ = coef row c.u c.v in
    let v : ℤ = get_or rs j (pos 0) -ℤ d *ℤ pos k in
    let inside : j < length rs = omega (arith, all) in
    let next : List ℤ = set rs j v in
    let first = lowered_by (coef row c.u c.v == 0) j k d (cells_from (j + 1) row cs) rs (eqb-true (coef row c.u c.v) 0) in
    let rest = lowered_from cs (j + 1) row d next (omega (arith, all, length-set rs j v)) in
    let front = take_more_set rs j v inside in
    let back = drop-set-lt (j + 1) rs j v (omega arith) in
    first ∙ rest ∙ ap (λ (l : List ℤ). l ++ after d row cs (drop (j + 1) next)) front ∙ ap (λ (l : List ℤ). (take j rs ++ v ∷ []) ++ after d row cs l) back
    ∙ append_assoc (take j rs) (v ∷ []) (after d row cs (drop (j + 1) rs))
    ∙ ap (λ (l : List ℤ). take j rs ++ after d row (c ∷ cs) l) (sym (drop_more rs j (pos 0) inside))

after_map : (d : ℤ) (row : Row) (f : Column → ℤ) (cols : List Column) → after d row cols (map f cols) ≡ map (λ c. f c -ℤ d *ℤ pos (coef row c.u c.v)) cols
unfolding after
after_map d row f [] = refl
after_map d row f (c ∷ cs) = ap (λ (l : List ℤ). (f c -ℤ d *ℤ pos (coef row c.u c.v)) ∷ l) (after_map d row f cs)

pub lowered_is : (cols : List Column) (row : Row) (d : ℤ) (f : Column → ℤ) → lowered d (cells_from 0 row cols) (map f cols) ≡ map (λ c. f c -ℤ d *ℤ pos (coef row c.u c.v)) cols
lowered_is cols row d f = lowered_from cols 0 row d (map f cols) (omega (arith, length-map cols f)) ∙ after_map d row f cols

-- ---- gains

nothing : (m : Bool) (r d : ℤ) (k : ℕ) → k ≡ 0 → column_gain m r k d ≡ pos 0
nothing m r d k none =
    let same : r -ℤ d *ℤ pos k ≡ r = ap (λ (n : ℕ). r -ℤ d *ℤ pos n) none ∙ less_none r d in
    let equal = ap (λ (n : ℤ). term m n) same in
    omega (arith, ints)

gain_by : (b : Bool) (j k : ℕ) (cells : List Cell) (cols : List Column) (rs : List ℤ) (d : ℤ) → (b ≡ true → k ≡ 0)
    → cells_gain cols rs (cond b cells (record { column = j; coef = k } ∷ cells)) d ≡ column_gain (get_or cols j no_column).must (get_or rs j (pos 0)) k d +ℤ cells_gain cols rs cells d
gain_by true j k cells cols rs d none = let e = nothing (get_or cols j no_column).must (get_or rs j (pos 0)) d k (none refl) in omega (arith, ints)
gain_by false j k cells cols rs d none = refl

gain_from : (cs : List Column) (j : ℕ) (rows : List Row) (ys : List ℤ) (row : Row) (cols : List Column) (d : ℤ) → cs ≡ drop j cols → j + length cs ≡ length cols
    → cells_gain cols (map (reduced rows ys) cols) (cells_from j row cs) d ≡ columns_gain rows ys row d cs
gain_from [] j rows ys row cols d is all = refl
gain_from (c ∷ cs) j rows ys row cols d is all =
    let inside : j < length cols = omega (arith, all) in
    let split : c ∷ cs ≡ get_or cols j no_column ∷ drop (j + 1) cols = is ∙ drop_more cols j no_column inside in
    let here : get_or cols j no_column ≡ c = (cc) in
    let others : cs ≡ drop (j + 1) cols = (cc) in
    let cost : get_or (map (reduced rows ys) cols) j (pos 0) ≡ reduced rows ys c = get_or-map (reduced rows ys) cols j no_column (pos 0) inside ∙ ap (reduced rows ys) here in
    let first = gain_by (coef row c.u c.v == 0) j (coef row c.u c.v) (cells_from (j + 1) row cs) cols (map (reduced rows ys) cols) d (eqb-true (coef row c.u c.v) 0) in
    let rest = gain_from cs (j + 1) rows ys row cols d others (omega (arith, all)) in
    let own = ap (λ (q : Column). column_gain q.must (get_or (map (reduced rows ys) cols) j (pos 0)) (coef row c.u c.v) d) here in
    let same = ap (λ (r : ℤ). column_gain c.must r (coef row c.u c.v) d) cost in
    omega (arith, ints, first, rest, own, same)

pub gain_is : (rows : List Row) (ys : List ℤ) (row : Row) (cols : List Column) (d : ℤ) → cells_gain cols (map (reduced rows ys) cols) (cells_from 0 row cols) d ≡ columns_gain rows ys row d cols
gain_is rows ys row cols d = gain_from cols 0 rows ys row cols d refl (omega arith)

-- ---- the cells that stand at a place of the table

pub cells_at : (rows : List Row) (cols : List Column) (table : List (List Cell)) (at : ℕ) (r : Row) (cells : List Cell) → table ≡ map (cells_of cols) rows → at < length rows
    → r ≡ get_or rows at r → cells ≡ get_or table at cells → cells ≡ cells_from 0 r cols
cells_at rows cols table at r cells is inside row_is cells_are =
    cells_are ∙ ap (λ (t : List (List Cell)). get_or t at cells) is ∙ get_or-map (cells_of cols) rows at r cells inside ∙ ap (cells_of cols) (sym row_is)
