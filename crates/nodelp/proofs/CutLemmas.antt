-- Cuts in order, and their rows.
use Rattle.std.proofs.Common.{◌≡◌, ℕ, zero, suc, ◌+◌, ◌<◌, ◌≤◌, true, false, List, [], ◌∷◌, ◌++◌, length, map, get_or, take, drop, Some, refl, sym, ap, subst, ◌∙◌, arith, ⊎_elim}
use Rattle.std.specs.Prelude.{slice_get}
use Rattle.std.specs.List.{AllByRecursion}
use Rattle.std.specs.declared.cmp.Ordering.{Ordering}
use Rattle.std.specs.declared.cmp.Ordering.TheVariants.{Less, Equal, Greater}
use Rattle.std.specs.Ordering.{is_lt, is_eq, ordering_reverse}
use Rattle.std.proofs.lemmas.Bool.{cases_Bool, or_parts, or_cases, cond-true, cond-false, false≢true}
use Rattle.std.proofs.lemmas.List.{drop_more, take_more, drop_all, take_all, append_assoc, map-append, length-map}
use Rattle.tspdef.specs.Cuts.{Cut, subtour, comb, odd, pair_set, sets_of, cut_cmp, IsCut}
use Rattle.tspdef.proofs.SmallCuts.{cuts_are_small}
use Rattle.cyc.specs.CitySet.{Members}
use Rattle.cutform.specs.Cut.{cities_of_each}
use Rattle.tspdef.specs.Closings.{CutsRise, AreRisingCuts}
use Rattle.cutform.specs.Order.{ordered_cuts, cuts-Equal}
use Rattle.lpcheck.specs.declared.row.Row.{Row}
use Rattle.nodelp.specs.Shapes.{Shape, shape_of, cut_shape}
use Rattle.nodelp.specs.Cuts.{IsRowOf, AreCutRows, is_listed, put}

known : {A : Type 0} → (xs : List A) (i : ℕ) (x : A) → x ≡ get_or xs i x → i < length xs → drop i xs ≡ x ∷ drop (i + 1) xs
known {A} xs i x is inside = drop_more xs i x inside ∙ ap (λ (q : A). q ∷ drop (i + 1) xs) (sym is)

-- ---- the order

lt_is : (o : Ordering) → is_lt o ≡ true → o ≡ Less
lt_is Less e = refl
lt_is Equal e = absurd (false≢true e)
lt_is Greater e = absurd (false≢true e)

eq_is : (o : Ordering) → is_eq o ≡ true → o ≡ Equal
eq_is Less e = absurd (false≢true e)
eq_is Equal e = refl
eq_is Greater e = absurd (false≢true e)

reversed : (o : Ordering) → is_lt o ≡ false → is_eq o ≡ false → ordering_reverse o ≡ Less
reversed Less l e = absurd (false≢true (sym l))
reversed Equal l e = absurd (false≢true (sym e))
reversed Greater l e = refl

greater : (a b : Cut) → is_lt (cut_cmp a b) ≡ false → is_eq (cut_cmp a b) ≡ false → cut_cmp b a ≡ Less
greater a b l e = ordered_cuts.antisymm b a ∙ reversed (cut_cmp a b) l e

-- ---- a further cut in its place

pub put_before : (p q : Cut × ℕ) (qs : List (Cut × ℕ)) → is_lt (cut_cmp p.0 q.0) ≡ true → put p (q ∷ qs) ≡ p ∷ q ∷ qs
put_before p q qs h = cond-true (is_lt (cut_cmp p.0 q.0)) (p ∷ q ∷ qs) (q ∷ put p qs) h

pub put_behind : (p q : Cut × ℕ) (qs : List (Cut × ℕ)) → is_lt (cut_cmp p.0 q.0) ≡ false → put p (q ∷ qs) ≡ q ∷ put p qs
put_behind p q qs h = cond-false (is_lt (cut_cmp p.0 q.0)) (p ∷ q ∷ qs) (q ∷ put p qs) h

pub length-put : (p : Cut × ℕ) (qs : List (Cut × ℕ)) → length (put p qs) ≡ suc (length qs)
length-put p [] = refl
length-put p (q ∷ qs) = ⊎_elim
    (λ h. ap (λ (l : List (Cut × ℕ)). length l) (put_before p q qs h))
    (λ h. ap (λ (l : List (Cut × ℕ)). length l) (put_behind p q qs h) ∙ ap suc (length-put p qs))
    (cases_Bool (is_lt (cut_cmp p.0 q.0)))

pub all_put : (P : Cut × ℕ → Type 0) (p : Cut × ℕ) (qs : List (Cut × ℕ)) → P p → AllByRecursion P qs → AllByRecursion P (put p qs)
all_put P p [] h a = (h, tt)
all_put P p (q ∷ qs) h a = ⊎_elim
    (λ l. subst (AllByRecursion P) (sym (put_before p q qs l)) (h, a))
    (λ l. subst (AllByRecursion P) (sym (put_behind p q qs l)) (a.0, all_put P p qs h a.1))
    (cases_Bool (is_lt (cut_cmp p.0 q.0)))

rise_put : (c : Cut) (p : Cut × ℕ) (qs : List (Cut × ℕ)) → CutsRise c qs → cut_cmp c p.0 ≡ Less → is_listed qs p.0 ≡ false → CutsRise c (put p qs)
rise_put c p [] r l n = (l, tt)
rise_put c p (q ∷ qs) r l n =
    let apart = or_parts (is_eq (cut_cmp p.0 q.0)) (is_listed qs p.0) n in
    ⊎_elim
    (λ h. subst (CutsRise c) (sym (put_before p q qs h)) (l, (lt_is (cut_cmp p.0 q.0) h, r.1)))
    (λ h. subst (CutsRise c) (sym (put_behind p q qs h)) (r.0, rise_put q.0 p qs r.1 (greater p.0 q.0 h apart.0) apart.1))
    (cases_Bool (is_lt (cut_cmp p.0 q.0)))

rising_put : (p : Cut × ℕ) (qs : List (Cut × ℕ)) → AreRisingCuts qs → is_listed qs p.0 ≡ false → AreRisingCuts (put p qs)
rising_put p [] r n = tt
rising_put p (q ∷ qs) r n =
    let apart = or_parts (is_eq (cut_cmp p.0 q.0)) (is_listed qs p.0) n in
    ⊎_elim
    (λ h. subst AreRisingCuts (sym (put_before p q qs h)) (lt_is (cut_cmp p.0 q.0) h, r))
    (λ h. subst AreRisingCuts (sym (put_behind p q qs h)) (rise_put q.0 p qs r (greater p.0 q.0 h apart.0) apart.1))
    (cases_Bool (is_lt (cut_cmp p.0 q.0)))

-- ---- where it goes

pub place_more : (row : List (Cut × ℕ)) (c : Cut) (x : Cut × ℕ) (place : ℕ) → place < length row → x ≡ get_or row place x → is_lt (cut_cmp c x.0) ≡ false
    → ((k : ℕ) → take place row ++ put (c, k) (drop place row) ≡ put (c, k) row) → (k : ℕ) → take (place + 1) row ++ put (c, k) (drop (place + 1) row) ≡ put (c, k) row
place_more row c x place l is h e k =
    let rest = drop (place + 1) row in
    ap (λ (zs : List (Cut × ℕ)). zs ++ put (c, k) rest) (take_more row place x l ∙ ap (λ (q : Cut × ℕ). take place row ++ q ∷ []) (sym is))
    ∙ (append_assoc (take place row) (x ∷ []) (put (c, k) rest)
    ∙ (ap (λ (zs : List (Cut × ℕ)). take place row ++ zs) (sym (put_behind (c, k) x rest h))
    ∙ (ap (λ (zs : List (Cut × ℕ)). take place row ++ put (c, k) zs) (sym (known row place x is l)) ∙ e k)))

pub place_here : (row : List (Cut × ℕ)) (c : Cut) (x : Cut × ℕ) (place : ℕ) → place < length row → x ≡ get_or row place x → is_lt (cut_cmp c x.0) ≡ true
    → ((k : ℕ) → take place row ++ put (c, k) (drop place row) ≡ put (c, k) row) → (k : ℕ) → take place row ++ (c, k) ∷ drop place row ≡ put (c, k) row
place_here row c x place l is h e k =
    let rest = drop (place + 1) row in
    ap (λ (zs : List (Cut × ℕ)). take place row ++ (c, k) ∷ zs) (known row place x is l)
    ∙ (ap (λ (zs : List (Cut × ℕ)). take place row ++ zs) (sym (put_before (c, k) x rest h))
    ∙ (ap (λ (zs : List (Cut × ℕ)). take place row ++ put (c, k) zs) (sym (known row place x is l)) ∙ e k))

pub place_last : (row : List (Cut × ℕ)) (c : Cut) (place : ℕ) → length row ≤ place → ((k : ℕ) → take place row ++ put (c, k) (drop place row) ≡ put (c, k) row)
    → (k : ℕ) → take (length row) row ++ (c, k) ∷ drop (length row) row ≡ put (c, k) row
place_last row c place l e k =
    ap (λ (zs : List (Cut × ℕ)). take (length row) row ++ (c, k) ∷ zs) (drop_all (length row) row (omega arith))
    ∙ (ap (λ (zs : List (Cut × ℕ)). zs ++ (c, k) ∷ []) (take_all (length row) row (omega arith))
    ∙ (ap (λ (zs : List (Cut × ℕ)). zs ++ (c, k) ∷ []) (sym (take_all place row l)) ∙ (ap (λ (zs : List (Cut × ℕ)). take place row ++ put (c, k) zs) (sym (drop_all place row l)) ∙ e k)))

-- ---- rows of cuts

get_front : (xs ys : List Shape) (k : ℕ) (s : Shape) → slice_get xs k ≡ Some s → slice_get (xs ++ ys) k ≡ Some s
get_front [] ys k s h = cc
get_front (x ∷ xs) ys zero s h = h
get_front (x ∷ xs) ys (suc k) s h = get_front xs ys k s h

get_seam : (xs : List Shape) (s : Shape) → slice_get (xs ++ s ∷ []) (length xs) ≡ Some s
get_seam [] s = refl
get_seam (x ∷ xs) s = get_seam xs s

row_still : (rows more : List Row) (q : Cut × ℕ) → IsRowOf rows q → IsRowOf (rows ++ more) q
row_still rows more q h = subst (λ (l : List Shape). slice_get l q.1 ≡ Some (cut_shape q.0)) (sym (map-append shape_of rows more)) (get_front (map shape_of rows) (map shape_of more) q.1 (cut_shape q.0) h)

rows_still : (rows more : List Row) (qs : List (Cut × ℕ)) → AllByRecursion (IsRowOf rows) qs → AllByRecursion (IsRowOf (rows ++ more)) qs
rows_still rows more [] h = tt
rows_still rows more (q ∷ qs) h = (row_still rows more q h.0, rows_still rows more qs h.1)

row_new : (rows : List Row) (r : Row) (c : Cut) → shape_of r ≡ cut_shape c → IsRowOf (rows ++ r ∷ []) (c, length rows)
row_new rows r c same =
    subst (λ (l : List Shape). slice_get l (length rows) ≡ Some (cut_shape c)) (sym (map-append shape_of rows (r ∷ []) ∙ ap (λ (q : Shape). map shape_of rows ++ q ∷ []) same))
    (subst (λ (k : ℕ). slice_get (map shape_of rows ++ cut_shape c ∷ []) k ≡ Some (cut_shape c)) (length-map rows shape_of) (get_seam (map shape_of rows) (cut_shape c)))

-- a further row changes nothing of the cuts that are there
pub cut_rows_more : (n : ℕ) (rows more : List Row) (qs : List (Cut × ℕ)) → AreCutRows n rows qs → AreCutRows n (rows ++ more) qs
cut_rows_more n rows more qs are = record { rising = are.rising; each = are.each; placed = rows_still rows more qs are.placed }

-- a further cut, with its row
pub cut_rows_put : (n : ℕ) (rows : List Row) (r : Row) (c : Cut) (qs : List (Cut × ℕ)) → AreCutRows n rows qs → IsCut n c → shape_of r ≡ cut_shape c → is_listed qs c ≡ false
    → AreCutRows n (rows ++ r ∷ []) (put (c, length rows) qs)
cut_rows_put n rows r c qs are cut same new = record {
  rising = rising_put (c, length rows) qs are.rising new;
  each = all_put (λ q. IsCut n q.0) (c, length rows) qs cut are.each;
  placed = all_put (IsRowOf (rows ++ r ∷ [])) (c, length rows) qs (row_new rows r c same) (rows_still rows (r ∷ []) qs are.placed);
}

-- a cut that is there has a row
pub listed_row : (rows : List Row) (qs : List (Cut × ℕ)) (c : Cut) → AllByRecursion (IsRowOf rows) qs → is_listed qs c ≡ true → (k : ℕ) × (slice_get (map shape_of rows) k ≡ Some (cut_shape c))
listed_row rows [] c are h = absurd (false≢true h)
listed_row rows (q ∷ qs) c are h = ⊎_elim
    (λ e. let same : c ≡ q.0 = cuts-Equal c q.0 (eq_is (cut_cmp c q.0) e) in (q.1, subst (λ (d : Cut). slice_get (map shape_of rows) q.1 ≡ Some (cut_shape d)) (sym same) are.0))
    (λ e. listed_row rows qs c are.1 e)
    (or_cases (is_eq (cut_cmp c q.0)) (is_listed qs c) h)

-- ---- how many sets a cut has

sets_few : (n : ℕ) (c : Cut) → n ≤ 2000 → IsCut n c → length (sets_of c) ≤ 4096
sets_few n (subtour m s) few is = omega arith
sets_few n (comb m h ts) few is = let right = (cuts_are_small n (comb m h ts) is).right in omega arith
sets_few n (odd m h ps) few is = let most = is.1.few in let l = length-map ps pair_set in omega arith

pub few_members : (n : ℕ) (c : Cut) (ms : List Members) → n ≤ 2000 → IsCut n c → cities_of_each ms ≡ sets_of c → length ms ≤ 4096
few_members n c ms few is e = let most = sets_few n c few is in let same = ap length e in let l = length-map ms (λ (s : Members). s.cities) in omega arith
