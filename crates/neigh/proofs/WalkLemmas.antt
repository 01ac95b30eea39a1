-- The nearest-neighbour walk.
use Rattle.std.proofs.Common.{◌≡◌, ℕ, zero, suc, ◌+◌, ◌-◌, ◌<◌, ◌≤◌, ◌⊎◌, inl, inr, Bool, true, false, cond, eqb, ltb, ◌||◌, List, [], ◌∷◌, ◌++◌, length, get_or, drop, refl, sym, ◌∙◌, ap, subst, arith, ⊎_elim}
use Rattle.std.specs.List.{AllByRecursion, range_with_len, remove, filter}
use Rattle.std.proofs.lemmas.Bool.{cases_Bool, cases_lt, or_cases, or_left, or_right, or_parts, or_from, eq-eqb, ne_eqb, eqb-true, eqb-false, lt-ltb, le-ltb, cond-true, cond-false}
use Rattle.std.proofs.lemmas.List.{drop_more, drop_all, append_assoc}
use Rattle.tspdef.specs.Sets.{has}
use Rattle.tspdef.specs.Tours.{AreDistinct, IsTour, has_step}
use Rattle.tspdef.proofs.Steps.{tour_has}
use Rattle.tspdef.specs.Fixed.{pairs_at}
use Rattle.tspdef.specs.Instances.{Instance, dist}
use Rattle.std.proofs.lemmas.List.FromFn.{length-range_with_len}
use Rattle.cyc.proofs.WholeTours.{numbers_are_whole}
use Rattle.neigh.proofs.ListLemmas.{below_at}
use Rattle.neigh.specs.Walk.{nearest_of, nearest_in, without, is_end, lowest_of, or_else, open_to, next_city, walk_on, nearest_walk}

-- ---- the nearest of some cities

pub nearest_first : (far : ℕ → ℕ) (rest : List ℕ) → 0 < length rest → nearest_of far (get_or rest 0 0) (drop 1 rest) ≡ nearest_in far rest
nearest_first far [] h = absurd (omega arith)
nearest_first far (c ∷ cs) h = refl

pub nearest_other : (far : ℕ → ℕ) (rest : List ℕ) (best place : ℕ) → place < length rest → far (get_or rest place 0) < far best
    → nearest_of far best (drop place rest) ≡ nearest_in far rest → nearest_of far (get_or rest place 0) (drop (place + 1) rest) ≡ nearest_in far rest
nearest_other far rest best place h l e =
    let c = get_or rest place 0 in
    ap (λ b. nearest_of far b (drop (place + 1) rest)) (sym (cond-true _ _ _ (lt-ltb (far c) (far best) l)))
    ∙ ap (nearest_of far best) (sym (drop_more rest place 0 h)) ∙ e

pub nearest_same : (far : ℕ → ℕ) (rest : List ℕ) (best place : ℕ) → place < length rest → far best ≤ far (get_or rest place 0)
    → nearest_of far best (drop place rest) ≡ nearest_in far rest → nearest_of far best (drop (place + 1) rest) ≡ nearest_in far rest
nearest_same far rest best place h l e =
    let c = get_or rest place 0 in
    ap (λ b. nearest_of far b (drop (place + 1) rest)) (sym (cond-false _ _ _ (le-ltb (far c) (far best) l)))
    ∙ ap (nearest_of far best) (sym (drop_more rest place 0 h)) ∙ e

pub nearest_last : (far : ℕ → ℕ) (rest : List ℕ) (best place : ℕ) → length rest ≤ place
    → nearest_of far best (drop place rest) ≡ nearest_in far rest → best ≡ nearest_in far rest
nearest_last far rest best place h e = ap (nearest_of far best) (sym (drop_all place rest h)) ∙ e

has_nearest_of : (far : ℕ → ℕ) (best : ℕ) (cs : List ℕ) → has (best ∷ cs) (nearest_of far best cs) ≡ true
has_nearest_of far best [] = or_left _ _ (eq-eqb best best refl)
has_nearest_of far best (c ∷ cs) = ⊎_elim
    (λ (h : far c < far best).
    let same : cond (ltb (far c) (far best)) c best ≡ c = cond-true _ _ _ (lt-ltb (far c) (far best) h) in
    subst (λ b. has (best ∷ c ∷ cs) (nearest_of far b cs) ≡ true) (sym same) (or_right _ _ (has_nearest_of far c cs)))
    (λ (h : far best ≤ far c).
    let same : cond (ltb (far c) (far best)) c best ≡ best = cond-false _ _ _ (le-ltb (far c) (far best) h) in
    subst (λ b. has (best ∷ c ∷ cs) (nearest_of far b cs) ≡ true) (sym same) (⊎_elim
    (λ (e : eqb best (nearest_of far best cs) ≡ true). or_left _ _ e)
    (λ (e : has cs (nearest_of far best cs) ≡ true). or_right _ _ (or_right _ _ e))
    (or_cases _ _ (has_nearest_of far best cs))))
    (cases_lt (far c) (far best))

pub has_nearest : (far : ℕ → ℕ) (rest : List ℕ) → 0 < length rest → has rest (nearest_in far rest) ≡ true
has_nearest far [] h = absurd (omega arith)
has_nearest far (c ∷ cs) h = has_nearest_of far c cs

-- ---- a list without a city

without_other : (z : ℕ) (xs : List ℕ) → has xs z ≡ false → without z xs ≡ xs
without_other z [] h = refl
without_other z (x ∷ xs) h =
    let p = or_parts (eqb x z) (has xs z) h in
    cond-false _ _ _ p.0 ∙ ap (λ ys. x ∷ ys) (without_other z xs p.1)

pub lacks_without : (z y : ℕ) (xs : List ℕ) → has xs y ≡ false → has (without z xs) y ≡ false
lacks_without z y [] h = refl
lacks_without z y (x ∷ xs) h =
    let p = or_parts (eqb x y) (has xs y) h in
    let ih = lacks_without z y xs p.1 in
    ⊎_elim
    (λ (e : eqb x z ≡ true). subst (λ ys. has ys y ≡ false) (sym (cond-true _ _ _ e)) ih)
    (λ (e : eqb x z ≡ false). subst (λ ys. has ys y ≡ false) (sym (cond-false _ _ _ e)) (or_from _ _ p.0 ih))
    (cases_Bool (eqb x z))

pub lacks_itself : (z : ℕ) (xs : List ℕ) → has (without z xs) z ≡ false
lacks_itself z [] = refl
lacks_itself z (x ∷ xs) = ⊎_elim
    (λ (e : eqb x z ≡ true). subst (λ ys. has ys z ≡ false) (sym (cond-true _ _ _ e)) (lacks_itself z xs))
    (λ (e : eqb x z ≡ false). subst (λ ys. has ys z ≡ false) (sym (cond-false _ _ _ e)) (or_from _ _ e (lacks_itself z xs)))
    (cases_Bool (eqb x z))

pub distinct_without : (z : ℕ) (xs : List ℕ) → AreDistinct xs → AreDistinct (without z xs)
distinct_without z [] d = tt
distinct_without z (x ∷ xs) d = ⊎_elim
    (λ (e : eqb x z ≡ true). subst AreDistinct (sym (cond-true _ _ _ e)) (distinct_without z xs d.1))
    (λ (e : eqb x z ≡ false). subst AreDistinct (sym (cond-false _ _ _ e)) (lacks_without z x xs d.0, distinct_without z xs d.1))
    (cases_Bool (eqb x z))

pub all_without : (P : ℕ → Type 0) (z : ℕ) (xs : List ℕ) → AllByRecursion P xs → AllByRecursion P (without z xs)
all_without P z [] a = tt
all_without P z (x ∷ xs) a = ⊎_elim
    (λ (e : eqb x z ≡ true). subst (AllByRecursion P) (sym (cond-true _ _ _ e)) (all_without P z xs a.1))
    (λ (e : eqb x z ≡ false). subst (AllByRecursion P) (sym (cond-false _ _ _ e)) (a.0, all_without P z xs a.1))
    (cases_Bool (eqb x z))

pub length-without : (z : ℕ) (xs : List ℕ) → AreDistinct xs → has xs z ≡ true → suc (length (without z xs)) ≡ length xs
length-without z [] d h = absurd (let e : false ≡ true = h in cc)
length-without z (x ∷ xs) d h = ⊎_elim
    (λ (e : eqb x z ≡ true).
    let none : has xs z ≡ false = subst (λ y. has xs y ≡ false) (eqb-true x z e) d.0 in
    ap (λ ys. suc (length ys)) (cond-true _ _ _ e ∙ without_other z xs none))
    (λ (e : eqb x z ≡ false).
    let there : has xs z ≡ true = ⊎_elim (λ (t : eqb x z ≡ true). absurd (let a = t in let b = e in cc)) (λ (t : has xs z ≡ true). t) (or_cases _ _ h) in
    ap (λ ys. suc (length ys)) (cond-false _ _ _ e) ∙ ap suc (length-without z xs d.1 there))
    (cases_Bool (eqb x z))

has_at : (xs : List ℕ) (i : ℕ) → i < length xs → has xs (get_or xs i 0) ≡ true
has_at [] i h = absurd (omega arith)
has_at (x ∷ xs) zero h = or_left _ _ (eq-eqb x x refl)
has_at (x ∷ xs) (suc i) h = or_right _ _ (has_at xs i (omega arith))

-- to take out the city at a place is to take out that city
pub remove_without : (xs : List ℕ) (place : ℕ) → AreDistinct xs → place < length xs → remove xs place ≡ without (get_or xs place 0) xs
remove_without [] place d h = absurd (omega arith)
remove_without (x ∷ xs) zero d h = sym (cond-true _ _ _ (eq-eqb x x refl) ∙ without_other x xs d.0)
remove_without (x ∷ xs) (suc place) d h =
    let z = get_or xs place 0 in
    let there = has_at xs place (omega arith) in
    let apart : eqb x z ≡ false = ne_eqb x z (λ e. let s : has xs x ≡ true = subst (λ y. has xs y ≡ true) (sym e) there in let f = d.0 in cc) in
    ap (λ ys. x ∷ ys) (remove_without xs place d.1 (omega arith)) ∙ sym (cond-false _ _ _ apart)

pub has_without : (z y : ℕ) (xs : List ℕ) → has xs y ≡ true → (y ≡ z → ⊥) → has (without z xs) y ≡ true
has_without z y [] h ne = absurd (let e : false ≡ true = h in cc)
has_without z y (x ∷ xs) h ne = ⊎_elim
    (λ (e : eqb x z ≡ true). subst (λ ys. has ys y ≡ true) (sym (cond-true _ _ _ e)) (⊎_elim
    (λ (q : eqb x y ≡ true). absurd (ne (sym (eqb-true x y q) ∙ eqb-true x z e)))
    (λ (q : has xs y ≡ true). has_without z y xs q ne)
    (or_cases _ _ h)))
    (λ (e : eqb x z ≡ false). subst (λ ys. has ys y ≡ true) (sym (cond-false _ _ _ e)) (⊎_elim
    (λ (q : eqb x y ≡ true). or_left _ _ q)
    (λ (q : has xs y ≡ true). or_right _ _ (has_without z y xs q ne))
    (or_cases _ _ h)))
    (cases_Bool (eqb x z))

-- a city of the list without z is one of the list
pub has_of_without : (z y : ℕ) (xs : List ℕ) → has (without z xs) y ≡ true → has xs y ≡ true
has_of_without z y xs h = ⊎_elim
    (λ (e : has xs y ≡ true). e)
    (λ (e : has xs y ≡ false). let n = lacks_without z y xs e in let x : true ≡ false = sym h ∙ n in absurd (cc))
    (cases_Bool (has xs y))

-- and none of it is z
pub not_itself : (z y : ℕ) (xs : List ℕ) → has (without z xs) y ≡ true → y ≡ z → ⊥
not_itself z y xs h e = let n = lacks_itself z xs in let k : has (without z xs) z ≡ true = subst (λ v. has (without z xs) v ≡ true) e h in let x : true ≡ false = sym k ∙ n in absurd (cc)

-- what the list without z lacks is z, or the list lacks it
pub lacks_of_without : (z y : ℕ) (xs : List ℕ) → has (without z xs) y ≡ false → (y ≡ z) ⊎ (has xs y ≡ false)
lacks_of_without z y xs h = ⊎_elim
    (λ (e : eqb y z ≡ true). inl (eqb-true y z e))
    (λ (e : eqb y z ≡ false). inr (⊎_elim
    (λ (k : has xs y ≡ true). let w = has_without z y xs k (eqb-false y z e) in let x : true ≡ false = sym w ∙ h in absurd (cc))
    (λ (k : has xs y ≡ false). k)
    (cases_Bool (has xs y))))
    (cases_Bool (eqb y z))

-- ---- filtered lists

pub has_filter : (p : ℕ → Bool) (xs : List ℕ) (z : ℕ) → has (filter p xs) z ≡ true → (p z ≡ true) × (has xs z ≡ true)
has_filter p [] z h = absurd (let e : false ≡ true = h in cc)
has_filter p (x ∷ xs) z h = ⊎_elim
    (λ (e : p x ≡ true).
    let g : has (x ∷ filter p xs) z ≡ true = subst (λ ys. has ys z ≡ true) (cond-true _ _ _ e) h in ⊎_elim
    (λ (q : eqb x z ≡ true). (subst (λ y. p y ≡ true) (eqb-true x z q) e, or_left _ _ q))
    (λ (q : has (filter p xs) z ≡ true). let r = has_filter p xs z q in (r.0, or_right _ _ r.1))
    (or_cases _ _ g))
    (λ (e : p x ≡ false).
    let g : has (filter p xs) z ≡ true = subst (λ ys. has ys z ≡ true) (cond-false _ _ _ e) h in
    let r = has_filter p xs z g in (r.0, or_right _ _ r.1))
    (cases_Bool (p x))

pub filter_has : (p : ℕ → Bool) (xs : List ℕ) (z : ℕ) → p z ≡ true → has xs z ≡ true → has (filter p xs) z ≡ true
filter_has p [] z e h = absurd (let f : false ≡ true = h in cc)
filter_has p (x ∷ xs) z e h = ⊎_elim
    (λ (q : eqb x z ≡ true).
    let f : p x ≡ true = subst (λ y. p y ≡ true) (sym (eqb-true x z q)) e in
    subst (λ ys. has ys z ≡ true) (sym (cond-true _ _ _ f)) (or_left _ _ q))
    (λ (q : has xs z ≡ true). let ih = filter_has p xs z e q in ⊎_elim
    (λ (f : p x ≡ true). subst (λ ys. has ys z ≡ true) (sym (cond-true _ _ _ f)) (or_right _ _ ih))
    (λ (f : p x ≡ false). subst (λ ys. has ys z ≡ true) (sym (cond-false _ _ _ f)) ih)
    (cases_Bool (p x)))
    (or_cases _ _ h)

-- one that passes, or none does
pub one_or_none : (p : ℕ → Bool) (xs : List ℕ) → ((w : ℕ) × ((has xs w ≡ true) × (p w ≡ true))) ⊎ ((v : ℕ) → has xs v ≡ true → p v ≡ false)
one_or_none p [] = inr (λ v h. absurd (let f : false ≡ true = h in cc))
one_or_none p (x ∷ xs) = ⊎_elim
    (λ (e : p x ≡ true). inl (x, (or_left _ _ (eq-eqb x x refl), e)))
    (λ (e : p x ≡ false). ⊎_elim
    (λ f. inl (f.0, (or_right _ _ f.1.0, f.1.1)))
    (λ f. inr (λ v h. ⊎_elim
    (λ (q : eqb x v ≡ true). subst (λ y. p y ≡ false) (eqb-true x v q) e)
    (λ (q : has xs v ≡ true). f v q)
    (or_cases _ _ h)))
    (one_or_none p xs))
    (cases_Bool (p x))

pub none_filtered : (p : ℕ → Bool) (xs : List ℕ) → ((v : ℕ) → has xs v ≡ true → p v ≡ false) → filter p xs ≡ []
none_filtered p [] f = refl
none_filtered p (x ∷ xs) f = cond-false _ _ _ (f x (or_left _ _ (eq-eqb x x refl))) ∙ none_filtered p xs (λ v h. f v (or_right _ _ h))

pub some_of : (xs : List ℕ) (z : ℕ) → has xs z ≡ true → 0 < length xs
some_of [] z h = absurd (let f : false ≡ true = h in cc)
some_of (x ∷ xs) z h = omega arith

-- ---- where a walk goes on

or_else_first : (xs ys : List ℕ) (z : ℕ) → has xs z ≡ true → or_else xs ys ≡ xs
or_else_first [] ys z h = absurd (let f : false ≡ true = h in cc)
or_else_first (x ∷ xs) ys z h = refl

-- to a partner not visited yet, where there is one
pub goes_to_partner : (i : Instance) (here : ℕ) (rest : List ℕ) (w : ℕ) → has rest w ≡ true → has_step i.fixed here w ≡ true
    → (has rest (next_city i here rest) ≡ true) × (has_step i.fixed here (next_city i here rest) ≡ true)
goes_to_partner i here rest w h s =
    let ps = filter (has_step i.fixed here) rest in
    let es = filter (is_end i.fixed) rest in
    let there : has ps w ≡ true = filter_has (has_step i.fixed here) rest w s h in
    let at : has ps (nearest_in (dist i here) ps) ≡ true = has_nearest (dist i here) ps (some_of ps w there) in
    let r = has_filter (has_step i.fixed here) rest (nearest_in (dist i here) ps) at in
    let same : nearest_in (dist i here) ps ≡ nearest_in (dist i here) (or_else ps es) = ap (nearest_in (dist i here)) (sym (or_else_first ps es w there)) in
    subst (λ c. (has rest c ≡ true) × (has_step i.fixed here c ≡ true)) same (r.1, r.0)

-- and else to a city with at most one pair
pub goes_to_end : (i : Instance) (here : ℕ) (rest : List ℕ) (w : ℕ) → has rest w ≡ true → is_end i.fixed w ≡ true → ((v : ℕ) → has rest v ≡ true → has_step i.fixed here v ≡ false)
    → (has rest (next_city i here rest) ≡ true) × (is_end i.fixed (next_city i here rest) ≡ true)
goes_to_end i here rest w h s none =
    let ps = filter (has_step i.fixed here) rest in
    let es = filter (is_end i.fixed) rest in
    let there : has es w ≡ true = filter_has (is_end i.fixed) rest w s h in
    let at : has es (nearest_in (dist i here) es) ≡ true = has_nearest (dist i here) es (some_of es w there) in
    let r = has_filter (is_end i.fixed) rest (nearest_in (dist i here) es) at in
    let nothing : ps ≡ [] = none_filtered (has_step i.fixed here) rest none in
    let same : nearest_in (dist i here) es ≡ nearest_in (dist i here) (or_else ps es) = ap (λ xs. nearest_in (dist i here) (or_else xs es)) (sym nothing) in
    subst (λ c. (has rest c ≡ true) × (is_end i.fixed c ≡ true)) same (r.1, r.0)

-- ---- the cities of a walk

pub walk_more : (i : Instance) (here : ℕ) (walk rest : List ℕ) (k m : ℕ) → k ≡ suc m
    → walk ++ walk_on i k here rest ≡ nearest_walk i
    → (walk ++ next_city i here rest ∷ []) ++ walk_on i m (next_city i here rest) (without (next_city i here rest) rest) ≡ nearest_walk i
walk_more i here walk rest k m e w =
    append_assoc walk (next_city i here rest ∷ []) (walk_on i m (next_city i here rest) (without (next_city i here rest) rest))
    ∙ ap (λ j. walk ++ walk_on i j here rest) (sym e) ∙ w

pub range_is_tour : (n : ℕ) → 3 ≤ n → n ≤ 2000 → IsTour n (range_with_len 0 n)
range_is_tour n many few =
    let w = numbers_are_whole n many few in
    subst (λ k. IsTour k (range_with_len 0 n)) (length-range_with_len 0 n) w.is_tour

nothing_more : (xs : List ℕ) → xs ++ [] ≡ xs
nothing_more [] = refl
nothing_more (x ∷ xs) = ap (λ ys. x ∷ ys) (nothing_more xs)

pub walk_end : (i : Instance) (here k : ℕ) (walk rest all : List ℕ) → k ≡ 0 → walk ++ walk_on i k here rest ≡ all → walk ≡ all
walk_end i here k walk rest all e w = sym (nothing_more walk) ∙ ap (λ j. walk ++ walk_on i j here rest) (sym e) ∙ w

-- all n cities but one
pub record AreOthers (n start : ℕ) (rest : List ℕ) : Type 0 where
  pub many : suc (length rest) ≡ n
  pub below : AllByRecursion (λ c. c < n) rest
  pub distinct : AreDistinct rest
  pub lacks : has rest start ≡ false
  pub others : (c : ℕ) → c < n → (c ≡ start → ⊥) → has rest c ≡ true

pub others_are : (n start : ℕ) → 3 ≤ n → n ≤ 2000 → start < n → AreOthers n start (without start (range_with_len 0 n))
others_are n start many few below =
    let t = range_is_tour n many few in
    record {
      many = length-without start (range_with_len 0 n) t.distinct (tour_has n (range_with_len 0 n) t start below) ∙ length-range_with_len 0 n;
      below = all_without _ start (range_with_len 0 n) t.below;
      distinct = distinct_without start (range_with_len 0 n) t.distinct;
      lacks = lacks_itself start (range_with_len 0 n);
      others = λ c h ne. has_without start c (range_with_len 0 n) (tour_has n (range_with_len 0 n) t c h) ne;
    }

pub end_of : (pairs : List (ℕ × ℕ)) (c : ℕ) → pairs_at pairs c ≤ 1 → is_end pairs c ≡ true
end_of pairs c h = grind arith

pub no_end_of : (pairs : List (ℕ × ℕ)) (c : ℕ) → 1 < pairs_at pairs c → is_end pairs c ≡ false
no_end_of pairs c h = grind arith

-- ---- loops over lists

pub pairs_on : (pairs : List (ℕ × ℕ)) (k c : ℕ) (d : ℕ × ℕ) → k < length pairs
    → pairs_at (drop k pairs) c ≡ cond (eqb (get_or pairs k d).0 c || eqb (get_or pairs k d).1 c) 1 0 + pairs_at (drop (k + 1) pairs) c
pairs_on pairs k c d h = ap (λ ps. pairs_at ps c) (drop_more pairs k d h)

pub range_on : (k n : ℕ) → k < n → range_with_len k (n - k) ≡ k ∷ range_with_len (k + 1) (n - (k + 1))
range_on k n h =
    let e : n - k ≡ suc (n - (k + 1)) = omega arith in
    ap (λ m. range_with_len k m) e

pub start_at : (p : ℕ → Bool) (k n : ℕ) → k < n → p k ≡ true → lowest_of (filter p (range_with_len k (n - k))) ≡ k
start_at p k n h e = ap (λ cs. lowest_of (filter p cs)) (range_on k n h) ∙ ap lowest_of (cond-true _ _ _ e)

pub start_behind : (p : ℕ → Bool) (k n : ℕ) → k < n → p k ≡ false → lowest_of (filter p (range_with_len k (n - k))) ≡ lowest_of (filter p (range_with_len (k + 1) (n - (k + 1))))
start_behind p k n h e = ap (λ cs. lowest_of (filter p cs)) (range_on k n h) ∙ ap lowest_of (cond-false _ _ _ e)

pub no_start : (p : ℕ → Bool) (k n : ℕ) → n ≤ k → lowest_of (filter p (range_with_len k (n - k))) ≡ 0
no_start p k n h = let e : n - k ≡ 0 = omega arith in ap (λ m. lowest_of (filter p (range_with_len k m))) e

lacks_all : (xs : List ℕ) (z : ℕ) → ((j : ℕ) → j < length xs → get_or xs j 0 ≡ z → ⊥) → has xs z ≡ false
lacks_all [] z f = refl
lacks_all (x ∷ xs) z f = or_from _ _ (ne_eqb x z (f 0 (omega arith))) (lacks_all xs z (λ j h. f (suc j) (omega arith)))

pub without_none : (xs : List ℕ) (z : ℕ) → ((j : ℕ) → j < length xs → get_or xs j 0 ≡ z → ⊥) → xs ≡ without z xs
without_none xs z f = sym (without_other z xs (lacks_all xs z f))

-- ---- without fixed pairs, and within the rest

all_filtered : (p : ℕ → Bool) (xs : List ℕ) → ((v : ℕ) → p v ≡ true) → filter p xs ≡ xs
all_filtered p [] f = refl
all_filtered p (x ∷ xs) f = cond-true _ _ _ (f x) ∙ ap (λ ys. x ∷ ys) (all_filtered p xs f)

no_pair : (pairs : List (ℕ × ℕ)) → length pairs ≡ 0 → pairs ≡ []
no_pair [] h = refl
no_pair (p ∷ ps) h = absurd (omega arith)

-- without fixed pairs the walk goes to the nearest of the rest
pub next_without_pairs : (i : Instance) (here : ℕ) (rest : List ℕ) → length i.fixed ≡ 0 → nearest_in (dist i here) rest ≡ next_city i here rest
next_without_pairs i here rest h =
    let e = no_pair i.fixed h in
    let none = none_filtered (has_step i.fixed here) rest (λ v l. subst (λ ps. has_step ps here v ≡ false) (sym e) refl) in
    let all = all_filtered (is_end i.fixed) rest (λ v. subst (λ ps. is_end ps v ≡ true) (sym e) refl) in
    sym (ap (λ xs. nearest_in (dist i here) (or_else xs (filter (is_end i.fixed) rest))) none ∙ ap (nearest_in (dist i here)) all)

all_filter : (P : ℕ → Type 0) (p : ℕ → Bool) (xs : List ℕ) → AllByRecursion P xs → AllByRecursion P (filter p xs)
all_filter P p [] a = tt
all_filter P p (x ∷ xs) a = ⊎_elim
    (λ (e : p x ≡ true). subst (AllByRecursion P) (sym (cond-true _ _ _ e)) (a.0, all_filter P p xs a.1))
    (λ (e : p x ≡ false). subst (AllByRecursion P) (sym (cond-false _ _ _ e)) (all_filter P p xs a.1))
    (cases_Bool (p x))

all_or_else : (P : ℕ → Type 0) (xs ys : List ℕ) → AllByRecursion P xs → AllByRecursion P ys → AllByRecursion P (or_else xs ys)
all_or_else P [] ys a b = b
all_or_else P (x ∷ xs) ys a b = a

all_places : (n : ℕ) (xs : List ℕ) → ((j : ℕ) → j < length xs → get_or xs j 0 < n) → AllByRecursion (λ c. c < n) xs
all_places n [] f = tt
all_places n (x ∷ xs) f = (f 0 (omega arith), all_places n xs (λ j h. f (suc j) (omega arith)))

pub open_below : (i : Instance) (here : ℕ) (rest : List ℕ) → ((j : ℕ) → j < length rest → get_or rest j 0 < i.n)
    → (j : ℕ) → j < length (open_to i here rest) → get_or (open_to i here rest) j 0 < i.n
open_below i here rest f j h =
    let all = all_places i.n rest f in
    below_at i.n (open_to i here rest) j (all_or_else _ _ _ (all_filter _ (has_step i.fixed here) rest all) (all_filter _ (is_end i.fixed) rest all)) h
