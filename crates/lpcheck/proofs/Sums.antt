-- Steps of the sums over rows and columns.
use Rattle.std.proofs.Common.{◌≡◌, ℕ, ◌+◌, ◌<◌, ◌*◌, ℤ, pos, ◌+ℤ◌, ◌-ℤ◌, ◌*ℤ◌, List, [], ◌∷◌, ◌++◌, length, map, take, drop, get_or, refl, ap, sym, ◌∙◌, arith}
use Rattle.std.proofs.lemmas.Int.{ints}
use Rattle.std.proofs.lemmas.List.{drop_more, take_more, length-take, map-append}
use Rattle.tspdef.specs.Bounds.{scale}
use Rattle.lpcheck.specs.Rows.{signed, coef, price, worth, reduced, term, low}
use Rattle.lpcheck.specs.Cells.{lows}
use Rattle.lpcheck.specs.Steps.{column_gain, pieces_gain}
use Rattle.lpcheck.specs.declared.row.Row.{Row}
use Rattle.lpcheck.specs.declared.column.Column.{Column}
use Rattle.lpcheck.specs.declared.piece.Piece.{Piece}

-- the element at place i is x
pub known : {A : Type 0} → (xs : List A) (i : ℕ) (x : A) → x ≡ get_or xs i x → i < length xs → drop i xs ≡ x ∷ drop (i + 1) xs
known {A} xs i x is inside = drop_more xs i x inside ∙ ap (λ (q : A). q ∷ drop (i + 1) xs) (sym is)

pub worth_more : (rows : List Row) (ys : List ℤ) (i : ℕ) (r : Row) (y : ℤ) → r ≡ get_or rows i r → i < length rows → i < length ys
    → worth (drop i rows) (drop i ys) ≡ signed r.sense (get_or ys i y) *ℤ pos r.rhs +ℤ worth (drop (i + 1) rows) (drop (i + 1) ys)
worth_more rows ys i r y is in_rows in_ys =
    ap (λ (rs : List Row). worth rs (drop i ys)) (known rows i r is in_rows)
    ∙ ap (λ (zs : List ℤ). worth (r ∷ drop (i + 1) rows) zs) (drop_more ys i y in_ys)

pub lows_more : (cols : List Column) (rs : List ℤ) (i : ℕ) (c : Column) (r : ℤ) → i < length cols → i < length rs
    → lows (drop i cols) (drop i rs) ≡ term (get_or cols i c).must (get_or rs i r) +ℤ lows (drop (i + 1) cols) (drop (i + 1) rs)
lows_more cols rs i c r in_cols in_rs =
    ap (λ (cs : List Column). lows cs (drop i rs)) (drop_more cols i c in_cols)
    ∙ ap (λ (zs : List ℤ). lows (get_or cols i c ∷ drop (i + 1) cols) zs) (drop_more rs i r in_rs)

pub low_is : (rows : List Row) (ys : List ℤ) (cols : List Column) → lows cols (map (reduced rows ys) cols) ≡ low rows ys cols
low_is rows ys [] = refl
low_is rows ys (c ∷ cs) = ap (λ (z : ℤ). term c.must (reduced rows ys c) +ℤ z) (low_is rows ys cs)

-- ---- the duals of one more row

price_push : (rows : List Row) (ys : List ℤ) (r : Row) (y : ℤ) (u v : ℕ) → length rows ≡ length ys
    → price (rows ++ r ∷ []) (ys ++ y ∷ []) u v ≡ price rows ys u v +ℤ signed r.sense y *ℤ pos (coef r u v)
price_push [] [] r y u v same = omega (arith, ints)
price_push (q ∷ rows) (z ∷ ys) r y u v same = let more = price_push rows ys r y u v (omega (arith, same)) in omega (arith, ints)
price_push [] (z ∷ ys) r y u v same = absurd (omega (arith, same))
price_push (q ∷ rows) [] r y u v same = absurd (omega (arith, same))

map_same : {A B : Type 0} → (f g : A → B) (xs : List A) → ((x : A) → f x ≡ g x) → map f xs ≡ map g xs
map_same f g [] same = refl
map_same {A} {B} f g (x ∷ xs) same = ap (λ (y : B). y ∷ map f xs) (same x) ∙ ap (λ (l : List B). g x ∷ l) (map_same f g xs same)

pub reduced_more : (rows : List Row) (ys : List ℤ) (cols : List Column) (i : ℕ) (r : Row) (y : ℤ) → length ys ≡ length rows → i < length rows → r ≡ get_or rows i r
    → map (reduced (take (i + 1) rows) (take (i + 1) ys)) cols ≡ map (λ c. reduced (take i rows) (take i ys) c -ℤ signed r.sense (get_or ys i y) *ℤ pos (coef r c.u c.v)) cols
reduced_more rows ys cols i r y all inside is =
    let in_ys : i < length ys = omega (arith, all, inside) in
    map_same _ _ cols (λ c.
    let p : price (take (i + 1) rows) (take (i + 1) ys) c.u c.v ≡ price (take i rows ++ r ∷ []) (take i ys ++ get_or ys i y ∷ []) c.u c.v =
    ap (λ (l : List Row). price l (take (i + 1) ys) c.u c.v) (take_more rows i r inside ∙ ap (λ (q : Row). take i rows ++ q ∷ []) (sym is))
    ∙ ap (λ (l : List ℤ). price (take i rows ++ r ∷ []) l c.u c.v) (take_more ys i y in_ys) in
    let q = price_push (take i rows) (take i ys) r (get_or ys i y) c.u c.v (omega (arith, length-take i rows, length-take i ys, all, inside, in_ys)) in
    omega (arith, ints, p, q))

-- ---- gains of pieces

pub pieces_more : (ps : List Piece) (i : ℕ) (p : Piece) (d : ℤ) → p ≡ get_or ps i p → i < length ps
    → pieces_gain (drop i ps) d ≡ column_gain p.must p.r p.coef d +ℤ pieces_gain (drop (i + 1) ps) d
pieces_more ps i p d is inside = ap (λ (qs : List Piece). pieces_gain qs d) (known ps i p is inside)

pieces_push : (ps : List Piece) (p : Piece) (d : ℤ) → pieces_gain (ps ++ p ∷ []) d ≡ pieces_gain ps d +ℤ column_gain p.must p.r p.coef d
pieces_push [] p d = omega (arith, ints)
pieces_push (q ∷ ps) p d = let more = pieces_push ps p d in omega (arith, ints)

pub pushed_is : (new old : List Piece) (p : Piece) (d r : ℤ) (k : ℕ) → new ≡ old ++ p ∷ [] → p.r ≡ r → p.coef ≡ k
    → pieces_gain new d ≡ pieces_gain old d +ℤ column_gain p.must r k d
pushed_is new old p d r k is same_r same_k =
    ap (λ (ps : List Piece). pieces_gain ps d) is ∙ pieces_push old p d
    ∙ ap (λ (n : ℤ). pieces_gain old d +ℤ column_gain p.must n p.coef d) same_r
    ∙ ap (λ (n : ℕ). pieces_gain old d +ℤ column_gain p.must r n d) same_k

-- ---- costs

pub costs_push : (cols : List Column) (i : ℕ) (d : Column) (old new : List ℤ) (v : ℤ) → i < length cols → old ≡ map (reduced [] []) (take i cols) → new ≡ old ++ v ∷ []
    → v ≡ pos (scale * (get_or cols i d).cost) → new ≡ map (reduced [] []) (take (i + 1) cols)
costs_push cols i d old new v inside before is value =
    let same : v ≡ reduced [] [] (get_or cols i d) = omega (arith, ints, value) in
    is ∙ ap (λ (l : List ℤ). l ++ v ∷ []) before ∙ ap (λ (z : ℤ). map (reduced [] []) (take i cols) ++ z ∷ []) same
    ∙ sym (map-append (reduced [] []) (take i cols) (get_or cols i d ∷ [])) ∙ ap (map (reduced [] [])) (sym (take_more cols i d inside))
