-- What a change of one dual does to the reduced costs and to the lower side.
use Rattle.std.proofs.Common.{◌≡◌, ℕ, zero, suc, ◌<◌, ℤ, pos, ◌+ℤ◌, ◌-ℤ◌, ◌*ℤ◌, List, [], ◌∷◌, length, map, get_or, set, ap, sym, ◌∙◌, refl, arith}
use Rattle.std.proofs.lemmas.Int.{ints}
use Rattle.std.proofs.Math.IntN.{*ℤ_comm, *ℤ-zero, suc_ℤ-*ℤ}
use Rattle.lpcheck.specs.Rows.{signed, coef, price, worth, reduced, term, low, lower_side}
use Rattle.lpcheck.specs.Steps.{columns_gain, gain}
use Rattle.lpcheck.specs.declared.row.Row.{Row}
use Rattle.lpcheck.specs.declared.column.Column.{Column}

-- by how much the signed dual rises
abbrev pub change : Row → ℤ → ℤ → ℤ
change row z y = signed row.sense z -ℤ signed row.sense y

times_suc : (a : ℤ) (c : ℕ) → a *ℤ pos (suc c) ≡ a *ℤ pos c +ℤ a
times_suc a c = *ℤ_comm a (pos (suc c)) ∙ suc_ℤ-*ℤ (pos c) a ∙ ap (λ (n : ℤ). n +ℤ a) (*ℤ_comm (pos c) a)

times_less : (a b : ℤ) (c : ℕ) → (a -ℤ b) *ℤ pos c ≡ a *ℤ pos c -ℤ b *ℤ pos c
times_less a b zero =
    let left = *ℤ-zero (a -ℤ b) in
    let one = *ℤ-zero a in
    let other = *ℤ-zero b in
    omega (arith, ints)
times_less a b (suc c) =
    let left = times_suc (a -ℤ b) c in
    let one = times_suc a c in
    let other = times_suc b c in
    let more = times_less a b c in
    omega (arith, ints)

price_set : (rows : List Row) (ys : List ℤ) (i : ℕ) (r : Row) (y z : ℤ) (u v : ℕ) → i < length rows → i < length ys
    → price rows (set ys i z) u v ≡ price rows ys u v +ℤ change (get_or rows i r) z (get_or ys i y) *ℤ pos (coef (get_or rows i r) u v)
price_set (row ∷ rows) (w ∷ ys) zero r y z u v in_rows in_ys =
    let more = times_less (signed row.sense z) (signed row.sense w) (coef row u v) in omega (arith, ints)
price_set (row ∷ rows) (w ∷ ys) (suc i) r y z u v in_rows in_ys =
    let more = price_set rows ys i r y z u v (omega (arith, in_rows)) (omega (arith, in_ys)) in omega (arith, ints)
price_set [] ys i r y z u v in_rows in_ys = absurd (omega (arith, in_rows))
price_set (row ∷ rows) [] i r y z u v in_rows in_ys = absurd (omega (arith, in_ys))

worth_set : (rows : List Row) (ys : List ℤ) (i : ℕ) (r : Row) (y z : ℤ) → i < length rows → i < length ys
    → worth rows (set ys i z) ≡ worth rows ys +ℤ change (get_or rows i r) z (get_or ys i y) *ℤ pos (get_or rows i r).rhs
worth_set (row ∷ rows) (w ∷ ys) zero r y z in_rows in_ys =
    let more = times_less (signed row.sense z) (signed row.sense w) row.rhs in omega (arith, ints)
worth_set (row ∷ rows) (w ∷ ys) (suc i) r y z in_rows in_ys =
    let more = worth_set rows ys i r y z (omega (arith, in_rows)) (omega (arith, in_ys)) in omega (arith, ints)
worth_set [] ys i r y z in_rows in_ys = absurd (omega (arith, in_rows))
worth_set (row ∷ rows) [] i r y z in_rows in_ys = absurd (omega (arith, in_ys))

reduced_set : (rows : List Row) (ys : List ℤ) (i : ℕ) (r : Row) (y z : ℤ) (c : Column) → i < length rows → i < length ys
    → reduced rows (set ys i z) c ≡ reduced rows ys c -ℤ change (get_or rows i r) z (get_or ys i y) *ℤ pos (coef (get_or rows i r) c.u c.v)
reduced_set rows ys i r y z c in_rows in_ys = let p = price_set rows ys i r y z c.u c.v in_rows in_ys in omega (arith, ints)

low_set : (rows : List Row) (ys : List ℤ) (cols : List Column) (i : ℕ) (r : Row) (y z : ℤ) → i < length rows → i < length ys
    → low rows (set ys i z) cols ≡ low rows ys cols +ℤ columns_gain rows ys (get_or rows i r) (change (get_or rows i r) z (get_or ys i y)) cols
low_set rows ys [] i r y z in_rows in_ys = refl
low_set rows ys (c ∷ cs) i r y z in_rows in_ys =
    let same = ap (λ (n : ℤ). term c.must n) (reduced_set rows ys i r y z c in_rows in_ys) in
    let more = low_set rows ys cs i r y z in_rows in_ys in
    omega (arith, ints)

pub lower_set : (rows : List Row) (ys : List ℤ) (cols : List Column) (i : ℕ) (r : Row) (y z : ℤ) → i < length rows → i < length ys
    → lower_side rows cols (set ys i z) ≡ lower_side rows cols ys +ℤ gain rows ys cols (get_or rows i r) (change (get_or rows i r) z (get_or ys i y))
lower_set rows ys cols i r y z in_rows in_ys =
    let w = worth_set rows ys i r y z in_rows in_ys in
    let l = low_set rows ys cols i r y z in_rows in_ys in
    omega (arith, ints)

-- the reduced costs after the change, at the row that stands at place i
pub costs_set : (rows : List Row) (ys : List ℤ) (cols : List Column) (i : ℕ) (r : Row) (y z d : ℤ) → i < length rows → i < length ys → r ≡ get_or rows i r → d ≡ change r z (get_or ys i y)
    → map (λ c. reduced rows ys c -ℤ d *ℤ pos (coef r c.u c.v)) cols ≡ map (reduced rows (set ys i z)) cols
costs_set rows ys [] i r y z d in_rows in_ys is is_d = refl
costs_set rows ys (c ∷ cs) i r y z d in_rows in_ys is is_d =
    let here : reduced rows (set ys i z) c ≡ reduced rows ys c -ℤ d *ℤ pos (coef r c.u c.v) =
    reduced_set rows ys i r y z c in_rows in_ys
    ∙ ap (λ (q : Row). reduced rows ys c -ℤ change q z (get_or ys i y) *ℤ pos (coef q c.u c.v)) (sym is)
    ∙ ap (λ (n : ℤ). reduced rows ys c -ℤ n *ℤ pos (coef r c.u c.v)) (sym is_d) in
    ap (λ (n : ℤ). n ∷ map (λ c. reduced rows ys c -ℤ d *ℤ pos (coef r c.u c.v)) cs) (sym here)
    ∙ ap (λ (l : List ℤ). reduced rows (set ys i z) c ∷ l) (costs_set rows ys cs i r y z d in_rows in_ys is is_d)
