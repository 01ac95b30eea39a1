-- What values add up to over the sets of a cut, set by set and city by city.
use Rattle.std.proofs.Common.{◌≡◌, ℕ, ◌+◌, ◌*◌, ◌<◌, ◌≤◌, ◌-◌, Bool, true, false, not, cond, ◌==◌, ◌||◌, List, [], ◌∷◌, ◌++◌, map, sum_by, ℤ, nat_le, int_le, pos, ◌-ℤ◌, T, refl, sym, ap, subst, ◌∙◌, arith}
use Rattle.std.specs.Prelude.{◌≤ℤ◌}
use Rattle.std.proofs.lemmas.Bool.{ne_eqb, eqb-true, leb-true, le-leb, false≢true}
use Rattle.std.proofs.lemmas.Int.{ints}
use Rattle.std.proofs.lemmas.Float.{T_from_true}
use Rattle.std.proofs.lemmas.List.Sums.{sum_by-cons}
use Rattle.std.specs.List.{AllByRecursion}
use Rattle.tspdef.specs.Sets.{has, RisesFrom, IsSet}
use Rattle.tspdef.specs.Tours.{crosses}
use Rattle.tspdef.specs.Cuts.{Cut, subtour, comb, odd, pair_set, sets_of, right_side, coefficient, IsTooth, IsCut}
use Rattle.tspdef.specs.Bounds.{scale, violation}
use Rattle.cyc.specs.declared.frac.Entry.{Entry}
use Rattle.cyc.specs.Frac.{Values, value_of, AreEntries}
use Rattle.cyc.proofs.EntrySums.{sums_by_entries}
use Rattle.cyc.specs.CitySet.{Members}
use Rattle.cutform.specs.Cut.{cities_of_each, wide_sets, pairs_of}
use Rattle.cutform.proofs.PartLemmas.{parts_of_sets}
use Rattle.cutpool.specs.declared.nears.Near.{Near}
use Rattle.cutpool.specs.Pool.{misses}
use Rattle.cutpool.specs.Nears.{row_weight, leaving, AreRows, set_weight}

-- ---- sums

sum_plus : {X : Type 0} (f g : X → ℕ) (xs : List X) → sum_by (λ x. f x + g x) xs ≡ sum_by f xs + sum_by g xs
sum_plus f g [] = refl
sum_plus f g (x ∷ xs) =
    let ih = sum_plus f g xs in
    let a = sum_by-cons (λ y. f y + g y) x xs in
    let b = sum_by-cons f x xs in
    let c = sum_by-cons g x xs in
    omega arith

sum_same : {X : Type 0} (f g : X → ℕ) (e : (x : X) → f x ≡ g x) (xs : List X) → sum_by f xs ≡ sum_by g xs
sum_same f g e [] = refl
sum_same f g e (x ∷ xs) =
    let ih = sum_same f g e xs in
    let a = sum_by-cons f x xs in
    let b = sum_by-cons g x xs in
    let h = e x in
    omega arith

sum_zero : {X : Type 0} (xs : List X) → sum_by (λ x. 0) xs ≡ 0
sum_zero [] = refl
sum_zero (x ∷ xs) = let ih = sum_zero xs in let a = sum_by-cons (λ y. 0) x xs in omega arith

sum_swap : {X Y : Type 0} (f : X → Y → ℕ) (xs : List X) (ys : List Y) → sum_by (λ x. sum_by (f x) ys) xs ≡ sum_by (λ y. sum_by (λ x. f x y) xs) ys
sum_swap f [] ys = sym (sum_zero ys)
sum_swap f (x ∷ xs) ys =
    sum_by-cons (λ a. sum_by (f a) ys) x xs
    ∙ ap (λ k. sum_by (f x) ys + k) (sum_swap f xs ys)
    ∙ sym (sum_plus (f x) (λ y. sum_by (λ a. f a y) xs) ys)
    ∙ sum_same (λ y. f x y + sum_by (λ a. f a y) xs) (λ y. sum_by (λ a. f a y) (x ∷ xs)) (λ y. sym (sum_by-cons (λ a. f a y) x xs)) ys

-- ---- one city of a set is hit once

lacks_below : (n m : ℕ) (s : List ℕ) (a : ℕ) → RisesFrom n m s → a < m → has s a ≡ false
lacks_below n m [] a r h = refl
lacks_below n m (x ∷ xs) a r h =
    let low : m ≤ x = r.0.0 in
    let here = ne_eqb x a (λ e. omega arith) in
    let rest = lacks_below n (x + 1) xs a r.1 (omega arith) in
    rw (here, rest) refl

hit_case : (b h : Bool) (w k : ℕ) → k ≡ cond h w 0 → (b ≡ true → h ≡ false) → cond b w 0 + k ≡ cond (b || h) w 0
hit_case true h w k e o = let f = ap (λ t. cond {A = ℕ} t w 0) (o refl) in omega arith
hit_case false h w k e o = omega (arith, e)

hits : (n m : ℕ) (s : List ℕ) (a w : ℕ) → RisesFrom n m s → sum_by (λ c. cond (c == a) w 0) s ≡ cond (has s a) w 0
hits n m [] a w r = refl
hits n m (x ∷ xs) a w r =
    sum_by-cons (λ c. cond (c == a) w 0) x xs
    ∙ hit_case (x == a) (has xs a) w (sum_by (λ c. cond (c == a) w 0) xs) (hits n (x + 1) xs a w r.1)
    (λ t. let e = eqb-true x a t in lacks_below n (x + 1) xs a r.1 (omega arith))

-- ---- what crosses a set

-- the sum of the values of the entries that cross the set
abbrev crossing_of : List Entry → List ℕ → ℕ
crossing_of es s = sum_by (λ e. e.x * cond (crosses (has s) (e.u, e.v)) 1 0) es

ends_case : (a b : Bool) (x : ℕ) → cond a (cond b 0 x) 0 + cond b (cond a 0 x) 0 ≡ x * cond (cond a (not b) b) 1 0
ends_case true true x = omega arith
ends_case true false x = omega arith
ends_case false true x = omega arith
ends_case false false x = omega arith

entry_crosses : (n : ℕ) (s : List ℕ) (e : Entry) → IsSet n s → sum_by (λ c. leaving c (has s) e) s ≡ e.x * cond (crosses (has s) (e.u, e.v)) 1 0
entry_crosses n s e is =
    let p : ℕ → Bool = has s in
    let there = hits n 0 s e.u (cond (p e.v) 0 e.x) is in
    let back = hits n 0 s e.v (cond (p e.u) 0 e.x) is in
    let both = ends_case (p e.u) (p e.v) e.x in
    let sum = sum_plus (λ c. cond (c == e.u) (cond (p e.v) 0 e.x) 0) (λ c. cond (c == e.v) (cond (p e.u) 0 e.x) 0) s in
    omega (arith, there, back, both, sum)

set_is : (n : ℕ) (es : List Entry) (rows : List (List Near)) (s : List ℕ) → AreRows es rows → IsSet n s → set_weight rows s ≡ crossing_of es s
set_is n es rows s r is =
    sum_same (λ c. row_weight rows c (has s)) (λ c. sum_by (leaving c (has s)) es) (λ c. r c (has s)) s
    ∙ sum_swap (λ c e. leaving c (has s) e) s es
    ∙ sum_same (λ e. sum_by (λ c. leaving c (has s) e) s) (λ e. e.x * cond (crosses (has s) (e.u, e.v)) 1 0) (λ e. entry_crosses n s e is) es

-- ---- what crosses the sets of a cut

-- the same of several sets, added up
abbrev sets_weight : List (List Near) → List (List ℕ) → ℕ
sets_weight rows ss = sum_by (set_weight rows) ss

-- the sum of value * coefficient over the entries
abbrev weight_of : List Entry → List (List ℕ) → ℕ
weight_of es sets = sum_by (λ e. e.x * coefficient sets e.u e.v) es

spread_case : (x a b : ℕ) → x * (a + b) ≡ x * a + x * b
spread_case x a b = omega arith

weight_cons : (es : List Entry) (s : List ℕ) (ss : List (List ℕ)) → weight_of es (s ∷ ss) ≡ crossing_of es s + weight_of es ss
weight_cons es s ss =
    sum_same (λ e. e.x * coefficient (s ∷ ss) e.u e.v) (λ e. e.x * cond (crosses (has s) (e.u, e.v)) 1 0 + e.x * coefficient ss e.u e.v)
    (λ e. spread_case e.x (cond (crosses (has s) (e.u, e.v)) 1 0) (coefficient ss e.u e.v)) es
    ∙ sum_plus (λ e. e.x * cond (crosses (has s) (e.u, e.v)) 1 0) (λ e. e.x * coefficient ss e.u e.v) es

weight_none : (es : List Entry) → weight_of es [] ≡ 0
weight_none es = sum_same (λ e. e.x * 0) (λ e. 0) (λ e. omega arith) es ∙ sum_zero es

sets_are : (n : ℕ) (es : List Entry) (rows : List (List Near)) (ss : List (List ℕ)) → AreRows es rows → AllByRecursion (IsSet n) ss → sets_weight rows ss ≡ weight_of es ss
sets_are n es rows [] r a = sym (weight_none es)
sets_are n es rows (s ∷ ss) r a =
    let ih = sets_are n es rows ss r a.1 in
    let one = set_is n es rows s r a.0 in
    let all = weight_cons es s ss in
    let cons = sum_by-cons (set_weight rows) s ss in
    omega (arith, ih, one, all, cons)

teeth_are : (n : ℕ) (handle : List ℕ) (ts : List (List ℕ)) → AllByRecursion (IsTooth n handle) ts → AllByRecursion (IsSet n) ts
teeth_are n handle [] a = tt
teeth_are n handle (t ∷ ts) a = (a.0.set, teeth_are n handle ts a.1)

pairs_are : (n : ℕ) (ps : List (ℕ × ℕ)) → AllByRecursion (λ p. (p.0 < p.1) × (p.1 < n)) ps → AllByRecursion (IsSet n) (map pair_set ps)
pairs_are n [] a = tt
pairs_are n (p ∷ ps) a = let less = a.0.0 in let below = a.0.1 in (((omega arith, omega arith), ((omega arith, omega arith), tt)), pairs_are n ps a.1)

-- each set of a cut is one
sets_of_cut : (n : ℕ) (c : Cut) → IsCut n c → AllByRecursion (IsSet n) (sets_of c)
sets_of_cut n (subtour m s) is = (is.1.set, tt)
sets_of_cut n (comb m h ts) is = (is.1.proper.set, teeth_are n h ts is.1.each_tooth)
sets_of_cut n (odd m h ps) is = (is.1.proper.set, pairs_are n ps is.1.below)

-- ---- the test

turned_case : (b c : Bool) → cond b (not c) c ≡ cond c (not b) b
turned_case true true = refl
turned_case true false = refl
turned_case false true = refl
turned_case false false = refl

coefficient_turned : (ss : List (List ℕ)) (u v : ℕ) → coefficient ss u v ≡ coefficient ss v u
coefficient_turned [] u v = refl
coefficient_turned (s ∷ ss) u v =
    let ih = coefficient_turned ss u v in
    let e = ap (λ b. cond {A = ℕ} b 1 0) (turned_case (has s u) (has s v)) in
    omega arith

pub right_positive : (c : Cut) → 1 ≤ right_side c
right_positive (subtour n s) = omega arith
right_positive (comb n h ts) = omega arith
right_positive (odd n h ps) = omega arith

same_tests : (a b : Bool) → (a ≡ true → b ≡ true) → (b ≡ true → a ≡ true) → a ≡ b
same_tests true true f g = refl
same_tests true false f g = sym (f refl)
same_tests false true f g = g refl
same_tests false false f g = refl

from_T : (b : Bool) → T b → b ≡ true
from_T true t = refl
from_T false t = absurd t

le_from : (w b : ℕ) (v : ℤ) → v ≡ pos b -ℤ pos w → w + 1024 ≤ b → int_le (pos 1024) v ≡ true
le_from w b v e h = let l : pos 1024 ≤ℤ v = omega (arith, ints, e, h) in from_T (int_le (pos 1024) v) l.le

le_to : (w b : ℕ) (v : ℤ) → v ≡ pos b -ℤ pos w → int_le (pos 1024) v ≡ true → w + 1024 ≤ b
le_to w b v e t = let l : pos 1024 ≤ℤ v = record { le = T_from_true (int_le (pos 1024) v) t } in omega (arith, ints, e, l)

test_case : (w r : ℕ) (v : ℤ) → v ≡ pos (1048576 * r) -ℤ pos w → 1 ≤ r → nat_le w (r * 1048576 - 1024) ≡ int_le (pos 1024) v
test_case w r v e one =
    same_tests (nat_le w (r * 1048576 - 1024)) (int_le (pos 1024) v)
    (λ t. let l = leb-true w (r * 1048576 - 1024) t in le_from w (1048576 * r) v e (omega (arith, l, one)))
    (λ t. let l = le_to w (1048576 * r) v e t in le-leb w (r * 1048576 - 1024) (omega (arith, l)))

plain_test : (x : Values) (c : Cut) (rows : List (List Near)) → AreEntries x.n x.entries → AreRows x.entries rows → IsCut x.n c
    → nat_le (sets_weight rows (sets_of c)) (right_side c * 1048576 - 1024) ≡ misses x c
plain_test x c rows a r is =
    let sum = sums_by_entries x.n x.entries (coefficient (sets_of c)) a (coefficient_turned (sets_of c)) in
    let sets = sets_are x.n x.entries rows (sets_of c) r (sets_of_cut x.n c is) in
    test_case (sets_weight rows (sets_of c)) (right_side c) (violation (value_of x.entries) x.n c)
    (ap (λ k. pos (scale * right_side c) -ℤ k) sum ∙ ap (λ w. pos (scale * right_side c) -ℤ pos w) (sym sets)) (right_positive c)

sum_cities : (f : List ℕ → ℕ) (ts : List Members) → sum_by (λ t. f t.cities) ts ≡ sum_by f (cities_of_each ts)
sum_cities f [] = refl
sum_cities f (t ∷ ts) =
    let ih = sum_cities f ts in
    let a = sum_by-cons (λ m. f m.cities) t ts in
    let b = sum_by-cons f t.cities (cities_of_each ts) in
    omega arith

weight_append : (rows : List (List Near)) (ss ts : List (List ℕ)) → sets_weight rows (ss ++ ts) ≡ sets_weight rows ss + sets_weight rows ts
weight_append rows [] ts = omega arith
weight_append rows (s ∷ ss) ts =
    let ih = weight_append rows ss ts in
    let a = sum_by-cons (set_weight rows) s (ss ++ ts) in
    let b = sum_by-cons (set_weight rows) s ss in
    omega arith

pair_sum : (rows : List (List Near)) (ps : List (ℕ × ℕ)) → sum_by (λ p. set_weight rows (pair_set p)) ps ≡ sets_weight rows (map pair_set ps)
pair_sum rows [] = refl
pair_sum rows (p ∷ ps) =
    let ih = pair_sum rows ps in
    let a = sum_by-cons (λ q. set_weight rows (pair_set q)) p ps in
    let b = sum_by-cons (set_weight rows) (pair_set p) (map pair_set ps) in
    omega arith

-- what crosses the wide sets and the pairs of a cut is what crosses its sets
pub cut_weight : (c : Cut) (rows : List (List Near)) (sets : List Members) (pairs : List (ℕ × ℕ)) → cities_of_each sets ≡ wide_sets c → pairs ≡ pairs_of c
    → sum_by (λ s. set_weight rows s.cities) sets + sum_by (λ p. set_weight rows (pair_set p)) pairs ≡ sets_weight rows (sets_of c)
cut_weight c rows sets pairs e f =
    ap (λ k. k + sum_by (λ p. set_weight rows (pair_set p)) pairs) (sum_cities (set_weight rows) sets ∙ ap (sets_weight rows) e)
    ∙ ap (λ k. sets_weight rows (wide_sets c) + k) (pair_sum rows pairs ∙ ap (λ ps. sets_weight rows (map pair_set ps)) f)
    ∙ sym (ap (sets_weight rows) (parts_of_sets c) ∙ weight_append rows (wide_sets c) (map pair_set (pairs_of c)))

-- where the sets leave so much room, the test of the pairs decides whether the cut is violated by enough
pub left_is : (x : Values) (c : Cut) (rows : List (List Near)) (sets : List Members) (pairs : List (ℕ × ℕ)) (room left : ℕ) → AreEntries x.n x.entries → AreRows x.entries rows → IsCut x.n c
    → cities_of_each sets ≡ wide_sets c → pairs ≡ pairs_of c → room ≡ right_side c * 1048576 - 1024
    → left + sum_by (λ s. set_weight rows s.cities) sets ≡ room → nat_le (sum_by (λ p. set_weight rows (pair_set p)) pairs) left ≡ misses x c
left_is x c rows sets pairs room left a r is e f g h =
    let all = cut_weight c rows sets pairs e f in
    shifted (sum_by (λ s. set_weight rows s.cities) sets) (sum_by (λ p. set_weight rows (pair_set p)) pairs) left (sets_weight rows (sets_of c)) (right_side c * 1048576 - 1024) all (h ∙ g)
    ∙ plain_test x c rows a r is where
      shifted : (s p l w m : ℕ) → s + p ≡ w → l + s ≡ m → nat_le p l ≡ nat_le w m
      shifted s p l w m e f = same_tests (nat_le p l) (nat_le w m)
          (λ t. let k = leb-true p l t in le-leb w m (omega arith))
          (λ t. let k = leb-true w m t in le-leb p l (omega arith))

-- where they leave none, it is not
pub none_is : (x : Values) (c : Cut) (rows : List (List Near)) (sets : List Members) (pairs : List (ℕ × ℕ)) (room : ℕ) → AreEntries x.n x.entries → AreRows x.entries rows → IsCut x.n c
    → cities_of_each sets ≡ wide_sets c → pairs ≡ pairs_of c → room ≡ right_side c * 1048576 - 1024
    → room < sum_by (λ s. set_weight rows s.cities) sets → false ≡ misses x c
none_is x c rows sets pairs room a r is e f g h =
    let all = cut_weight c rows sets pairs e f in
    none (sum_by (λ s. set_weight rows s.cities) sets) (sum_by (λ p. set_weight rows (pair_set p)) pairs) (sets_weight rows (sets_of c)) (right_side c * 1048576 - 1024) all (subst (λ k. k < sum_by (λ s. set_weight rows s.cities) sets) g h)
    ∙ plain_test x c rows a r is where
      none : (s p w m : ℕ) → s + p ≡ w → m < s → false ≡ nat_le w m
      none s p w m e l = same_tests false (nat_le w m) (λ t. absurd (false≢true t)) (λ t. let k = leb-true w m t in absurd (omega arith))

-- where the next number is more than what is left, so are all numbers together
pub none_step : (left w before upto all room : ℕ) → upto ≡ before + w → upto ≤ all → left < w → left + before ≡ room → room < all
none_step left w before upto all room m a l e = omega arith

-- what is left behind the next number
pub left_step : (left rest w before upto room : ℕ) → upto ≡ before + w → rest + w ≡ left → left + before ≡ room → rest + upto ≡ room
left_step left rest w before upto room m r e = omega arith
