use Rattle.std.proofs.Common.{◌≡◌, ℕ, ◌+◌, ◌*◌, ◌^◌, ◌≤◌, Bool, true, false, cond, List, [], ◌∷◌, ◌++◌, length, map, refl, sym, ap, ◌∙◌, arith}
use Rattle.std.specs.Prelude.{ℤ, pos, neg_ℤ, ◌+ℤ◌, ◌-ℤ◌, Option, Some, None}
use Rattle.std.specs.List.{AllByRecursion}
use Rattle.std.proofs.lemmas.Int.{ints}
use Rattle.std.proofs.lemmas.Bool.{cond_both}
use Rattle.std.proofs.lemmas.List.{length-map}
use Rattle.tspdef.specs.Sets.{has, RisesFrom, IsSet, IsProper}
use Rattle.tspdef.specs.Cuts.{Cut, subtour, comb, odd, IsCut, IsTooth, sets_of, pair_set}
use Rattle.tspdef.specs.Paths.{Condition, fixed, absent, present, two, four, condition_at}
use Rattle.tspdef.specs.Closings.{IsDualSize}
use Rattle.tspdef.specs.Bounds.{Row, at_least, exactly, cut_rows, condition_row, condition_rows}
use Rattle.tspdef.proofs.SmallCuts.{cuts_are_small}
use Rattle.cutform.specs.Cut.{wide_sets, pairs_of}
use Rattle.cutform.specs.Odds.{ArePairs}
use Rattle.cutform.proofs.PartLemmas.{parts_of_sets, wide_few}
use Rattle.pricer.specs.Sizes.{IsWithin}
use Rattle.pricer.specs.Prices.{is_counted, holders, held, laid_one, laid}
use Rattle.pricer.specs.Trails.{HasProperSet}
use Rattle.pricer.proofs.SizeLemmas.{within_zero, within_more}

-- ---- sets of more cities

rises_wider : (n m k : ℕ) (xs : List ℕ) → n ≤ m → RisesFrom n k xs → RisesFrom m k xs
rises_wider n m k [] l r = tt
rises_wider n m k (x ∷ xs) l r = let a = r.0.0 in let b = r.0.1 in ((a, omega arith), rises_wider n m (x + 1) xs l r.1)

teeth_sets : (n m : ℕ) (handle : List ℕ) (ts : List (List ℕ)) → n ≤ m → AllByRecursion (IsTooth n handle) ts → AllByRecursion (IsSet m) ts
teeth_sets n m handle [] l a = tt
teeth_sets n m handle (t ∷ ts) l a = (rises_wider n m 0 t l a.0.set, teeth_sets n m handle ts l a.1)

-- the sets of a cut other than its pairs
pub cut_sets : (n m : ℕ) (c : Cut) → n ≤ m → IsCut n c → AllByRecursion (IsSet m) (wide_sets c)
cut_sets n m (subtour k s) l h = (rises_wider n m 0 s l h.1.set, tt)
cut_sets n m (comb k handle ts) l h = (rises_wider n m 0 handle l h.1.proper.set, teeth_sets n m handle ts l h.1.each_tooth)
cut_sets n m (odd k handle ps) l h = (rises_wider n m 0 handle l h.1.proper.set, tt)

pairs_sets : (n m : ℕ) (ps : List (ℕ × ℕ)) → n ≤ m → ArePairs n ps → AllByRecursion (IsSet m) (map pair_set ps)
pairs_sets n m [] l a = tt
pairs_sets n m (p ∷ ps) l a = let low = a.0.0 in let high = a.0.1 in (((omega arith, omega arith), ((omega arith, omega arith), tt)), pairs_sets n m ps l a.1)

-- the pairs of a cut
pub cut_pairs : (n m : ℕ) (c : Cut) → n ≤ m → IsCut n c → AllByRecursion (IsSet m) (map pair_set (pairs_of c))
cut_pairs n m (subtour k s) l h = tt
cut_pairs n m (comb k handle ts) l h = tt
cut_pairs n m (odd k handle ps) l h = pairs_sets n m ps l h.1.below

few_sets : (n : ℕ) (c : Cut) → n ≤ 2000 → IsCut n c → length (sets_of c) ≤ 4096
few_sets n (subtour k s) l h = omega arith
few_sets n (comb k handle ts) l h = let r = (cuts_are_small n (comb k handle ts) h).right in omega arith
few_sets n (odd k handle ps) l h = let r = h.1.few in let same = length-map ps pair_set in omega arith

proper_wider : (n m : ℕ) (s : List ℕ) → n ≤ m → IsProper n s → IsProper m s
proper_wider n m s l h = let some = h.some in let less = h.not_all in record { set = rises_wider n m 0 s l h.set; some = omega arith; not_all = omega arith }

pub proper_set_wider : (n m : ℕ) (o : Option Condition) → n ≤ m → HasProperSet n o → HasProperSet m o
proper_set_wider n m (Some (two s)) l h = proper_wider n m s l h
proper_set_wider n m (Some (four s)) l h = proper_wider n m s l h
proper_set_wider n m (Some (fixed a b)) l h = tt
proper_set_wider n m (Some (absent a b)) l h = tt
proper_set_wider n m (Some (present a b)) l h = tt
proper_set_wider n m None l h = tt

-- ---- a number on sets

laid_one_size : (m : ℕ) (y : ℤ) (h : Option ℕ) (s : List ℕ) (c : ℕ) → IsWithin m y → IsWithin m (laid_one y h s c)
laid_one_size m y h s c w = cond_both (is_counted h s) (cond (has s c) y (pos 0)) (pos 0) (IsWithin m)
    (λ _. cond_both (has s c) y (pos 0) (IsWithin m) (λ _. w) (λ _. within_zero m)) (λ _. within_zero m)

pub laid_size : (m : ℕ) (y : ℤ) (h : Option ℕ) (ss : List (List ℕ)) (c : ℕ) → IsWithin m y → IsWithin (m * length ss) (laid y h ss c)
laid_size m y h [] c w = within_zero (m * 0)
laid_size m y h (s ∷ ss) c w =
    let ih = laid_size m y h ss c w in
    let one = laid_one_size m y h s c w in
    record { low = omega (arith, ints); high = omega (arith, ints) }

laid_one_pos : (y : ℕ) (a b : Bool) → cond a (cond b (pos y) (pos 0)) (pos 0) ≡ pos (y * cond a (cond b 1 0) 0)
laid_one_pos y true true = omega (arith, ints)
laid_one_pos y true false = omega (arith, ints)
laid_one_pos y false b = omega (arith, ints)

laid_one_neg : (y : ℕ) (a b : Bool) → cond a (cond b (neg_ℤ (pos y)) (pos 0)) (pos 0) ≡ pos 0 -ℤ pos (y * (cond a (cond b 1 0) 0 + 0))
laid_one_neg y true true = omega (arith, ints)
laid_one_neg y true false = omega (arith, ints)
laid_one_neg y false b = omega (arith, ints)

pub laid_holders : (y : ℕ) (h : Option ℕ) (ss : List (List ℕ)) (c : ℕ) → laid (pos y) h ss c ≡ pos (y * holders h ss c)
laid_holders y h [] c = omega (arith, ints)
laid_holders y h (s ∷ ss) c = let ih = laid_holders y h ss c in let one = laid_one_pos y (is_counted h s) (has s c) in omega (arith, ints)

-- a cut's dual
pub held_cut : (cut : Cut) (y : ℕ) (h : Option ℕ) (c : ℕ) → held h (cut_rows ((cut, y) ∷ [])) c ≡ laid (pos y) h (sets_of cut) c
held_cut cut y h c = let l = laid_holders y h (sets_of cut) c in omega (arith, ints)

laid-append : (y : ℤ) (h : Option ℕ) (a b : List (List ℕ)) (c : ℕ) → laid y h (a ++ b) c ≡ laid y h a c +ℤ laid y h b c
laid-append y h [] b c = omega (arith, ints)
laid-append y h (s ∷ ss) b c = let ih = laid-append y h ss b c in omega (arith, ints)

-- the same, of its sets other than pairs and of its pairs
pub held_parts : (cut : Cut) (y : ℕ) (h : Option ℕ) (c : ℕ) → held h (cut_rows ((cut, y) ∷ [])) c ≡ laid (pos y) h (wide_sets cut) c +ℤ laid (pos y) h (map pair_set (pairs_of cut)) c
held_parts cut y h c =
    held_cut cut y h c ∙ (ap (λ ss. laid (pos y) h ss c) (parts_of_sets cut) ∙ laid-append (pos y) h (wide_sets cut) (map pair_set (pairs_of cut)) c)

-- a dual of a condition on a set
pub held_two : (s : List ℕ) (y : ℕ) (h : Option ℕ) (c : ℕ) → held h (condition_row (Some (two s)) y ∷ []) c ≡ laid_one (neg_ℤ (pos y)) h s c
held_two s y h c = sym (laid_one_neg y (is_counted h s) (has s c))

pub held_four : (s : List ℕ) (y : ℕ) (h : Option ℕ) (c : ℕ) → held h (condition_row (Some (four s)) y ∷ []) c ≡ laid_one (pos y) h s c
held_four s y h c = let e = laid_one_pos y (is_counted h s) (has s c) in omega (arith, ints)

pub held_other : (o : Option Condition) (y : ℕ) (h : Option ℕ) (c : ℕ) → ((s : List ℕ) → o ≡ Some (two s) → ⊥) → ((s : List ℕ) → o ≡ Some (four s) → ⊥) → held h (condition_row o y ∷ []) c ≡ pos 0
held_other (Some (two s)) y h c f g = absurd (f s refl)
held_other (Some (four s)) y h c f g = absurd (g s refl)
held_other (Some (fixed a b)) y h c f g = omega (arith, ints)
held_other (Some (absent a b)) y h c f g = omega (arith, ints)
held_other (Some (present a b)) y h c f g = omega (arith, ints)
held_other None y h c f g = omega (arith, ints)

-- ---- rows one after the other

pub held-cons : (h : Option ℕ) (row : Row) (rows : List Row) (c : ℕ) → held h (row ∷ rows) c ≡ held h rows c +ℤ held h (row ∷ []) c
held-cons h (at_least ss r y) rows c = omega (arith, ints)
held-cons h (exactly ss r y) rows c = omega (arith, ints)

-- a sum over rows, one row behind the others
pub rows_last : (f : List Row → ℤ) → f [] ≡ pos 0 → ((row : Row) (rows : List Row) → f (row ∷ rows) ≡ f rows +ℤ f (row ∷ [])) → (path : List Condition) (qs : List (ℕ × ℕ)) (q : ℕ × ℕ)
    → f (condition_rows path (qs ++ q ∷ [])) ≡ f (condition_rows path qs) +ℤ f (condition_row (condition_at path q.0) q.1 ∷ [])
rows_last f nil add path [] q = omega (arith, ints)
rows_last f nil add path (p ∷ qs) q =
    let ih = rows_last f nil add path qs q in
    let row = condition_row (condition_at path p.0) p.1 in
    let a = add row (condition_rows path (qs ++ q ∷ [])) in
    let b = add row (condition_rows path qs) in
    omega (arith, ints)

pub held_last : (h : Option ℕ) (path : List Condition) (qs : List (ℕ × ℕ)) (q : ℕ × ℕ) (c : ℕ)
    → held h (condition_rows path (qs ++ q ∷ [])) c ≡ held h (condition_rows path qs) c +ℤ held h (condition_row (condition_at path q.0) q.1 ∷ []) c
held_last h path qs q c = rows_last (λ rows. held h rows c) refl (λ row rows. held-cons h row rows c) path qs q

-- ---- sizes

laid_cut_size : (n y : ℕ) (cut : Cut) (h : Option ℕ) (c : ℕ) → n ≤ 2000 → IsCut n cut → y ≤ 2 ^ 62 → IsWithin (2 ^ 62 * 4096) (laid (pos y) h (sets_of cut) c)
laid_cut_size n y cut h c l is small =
    let one = laid_size (2 ^ 62) (pos y) h (sets_of cut) c (record { low = omega (arith, ints); high = omega (arith, ints) }) in
    let few = few_sets n cut l is in
    record { low = omega (arith, ints); high = omega (arith, ints) }

pub held_cuts_size : (n : ℕ) (qs : List (Cut × ℕ)) (h : Option ℕ) (c : ℕ) → n ≤ 2000 → AllByRecursion (λ q. IsCut n q.0) qs → AllByRecursion (λ q. IsDualSize q.1) qs
    → IsWithin (2 ^ 62 * 4096 * length qs) (held h (cut_rows qs) c)
held_cuts_size n [] h c l cuts sizes = within_zero (2 ^ 62 * 4096 * 0)
held_cuts_size n (q ∷ qs) h c l cuts sizes =
    let ih = held_cuts_size n qs h c l cuts.1 sizes.1 in
    let one = laid_cut_size n q.1 q.0 h c l cuts.0 sizes.0.1 in
    let same = held_cut q.0 q.1 h c in
    record { low = omega (arith, ints); high = omega (arith, ints) }

held_row_size : (o : Option Condition) (y : ℕ) (h : Option ℕ) (c : ℕ) → y ≤ 2 ^ 62 → IsWithin (2 ^ 62) (held h (condition_row o y ∷ []) c)
held_row_size (Some (two s)) y h c l = rw (held_two s y h c) (laid_one_size (2 ^ 62) (neg_ℤ (pos y)) h s c (record { low = omega (arith, ints); high = omega (arith, ints) }))
held_row_size (Some (four s)) y h c l = rw (held_four s y h c) (laid_one_size (2 ^ 62) (pos y) h s c (record { low = omega (arith, ints); high = omega (arith, ints) }))
held_row_size (Some (fixed a b)) y h c l = record { low = omega (arith, ints); high = omega (arith, ints) }
held_row_size (Some (absent a b)) y h c l = record { low = omega (arith, ints); high = omega (arith, ints) }
held_row_size (Some (present a b)) y h c l = record { low = omega (arith, ints); high = omega (arith, ints) }
held_row_size None y h c l = record { low = omega (arith, ints); high = omega (arith, ints) }

pub held_conds_size : (path : List Condition) (qs : List (ℕ × ℕ)) (h : Option ℕ) (c : ℕ) → AllByRecursion (λ q. IsDualSize q.1) qs
    → IsWithin (2 ^ 62 * length qs) (held h (condition_rows path qs) c)
held_conds_size path [] h c sizes = within_zero (2 ^ 62 * 0)
held_conds_size path (q ∷ qs) h c sizes =
    let ih = held_conds_size path qs h c sizes.1 in
    let one = held_row_size (condition_at path q.0) q.1 h c sizes.0.1 in
    let add = held-cons h (condition_row (condition_at path q.0) q.1) (condition_rows path qs) c in
    record { low = omega (arith, ints); high = omega (arith, ints) }

-- ---- numbers while duals are added

pub number_size : (k m : ℕ) (x a l r : ℤ) → x +ℤ l ≡ a +ℤ r → IsWithin m l → IsWithin m r → IsWithin k a → IsWithin (k + m + m) x
number_size k m x a l r e hl hr ha = record { low = omega (arith, ints); high = omega (arith, ints) }

pub sets_number_size : (x a : ℤ) (y : ℕ) (h : Option ℕ) (all rest : List (List ℕ)) (c : ℕ) → length all ≤ 4096 → length rest ≤ length all → y ≤ 2 ^ 62 → IsWithin (2 ^ 98) a
    → x +ℤ laid (pos y) h rest c ≡ a +ℤ laid (pos y) h all c → IsWithin (2 ^ 99) x
sets_number_size x a y h all rest c few less small size e =
    let w : IsWithin (2 ^ 62) (pos y) = record { low = omega (arith, ints); high = omega (arith, ints) } in
    let l = within_more (2 ^ 62 * length rest) (2 ^ 62 * 4096) _ (omega arith) (laid_size (2 ^ 62) (pos y) h rest c w) in
    let r = within_more (2 ^ 62 * length all) (2 ^ 62 * 4096) _ (omega arith) (laid_size (2 ^ 62) (pos y) h all c w) in
    within_more _ (2 ^ 99) x (omega arith) (number_size (2 ^ 98) (2 ^ 62 * 4096) x a _ _ e l r size)

pub cuts_number_size : (n : ℕ) (x a : ℤ) (h : Option ℕ) (all rest : List (Cut × ℕ)) (c : ℕ) → n ≤ 2000 → length all ≤ 4096 → length rest ≤ length all
    → AllByRecursion (λ q. IsCut n q.0) all → AllByRecursion (λ q. IsDualSize q.1) all → AllByRecursion (λ q. IsCut n q.0) rest → AllByRecursion (λ q. IsDualSize q.1) rest
    → IsWithin (2 ^ 97) a → x +ℤ held h (cut_rows rest) c ≡ a +ℤ held h (cut_rows all) c → IsWithin (2 ^ 97 + 2 ^ 90) x
cuts_number_size n x a h all rest c few some less ca sa cr sr size e =
    let l = within_more (2 ^ 62 * 4096 * length rest) (2 ^ 62 * 4096 * 4096) _ (omega arith) (held_cuts_size n rest h c few cr sr) in
    let r = within_more (2 ^ 62 * 4096 * length all) (2 ^ 62 * 4096 * 4096) _ (omega arith) (held_cuts_size n all h c few ca sa) in
    within_more _ (2 ^ 97 + 2 ^ 90) x (omega arith) (number_size (2 ^ 97) (2 ^ 62 * 4096 * 4096) x a _ _ e l r size)

pub conds_number_size : (path : List Condition) (x a : ℤ) (h : Option ℕ) (all rest : List (ℕ × ℕ)) (c : ℕ) → length all ≤ 4096 → length rest ≤ length all
    → AllByRecursion (λ q. IsDualSize q.1) all → AllByRecursion (λ q. IsDualSize q.1) rest
    → IsWithin (2 ^ 97) a → x +ℤ held h (condition_rows path rest) c ≡ a +ℤ held h (condition_rows path all) c → IsWithin (2 ^ 99) x
conds_number_size path x a h all rest c some less sa sr size e =
    let l = within_more (2 ^ 62 * length rest) (2 ^ 62 * 4096) _ (omega arith) (held_conds_size path rest h c sr) in
    let r = within_more (2 ^ 62 * length all) (2 ^ 62 * 4096) _ (omega arith) (held_conds_size path all h c sa) in
    within_more _ (2 ^ 99) x (omega arith) (number_size (2 ^ 97) (2 ^ 62 * 4096) x a _ _ e l r size)

-- the numbers between the two parts of a cut
pub between_size : (n : ℕ) (x a : ℤ) (y : ℕ) (h : Option ℕ) (cut : Cut) (c : ℕ) → n ≤ 2000 → IsCut n cut → y ≤ 2 ^ 62 → IsWithin (2 ^ 97 + 2 ^ 90) a
    → x ≡ a +ℤ laid (pos y) h (wide_sets cut) c → IsWithin (2 ^ 98) x
between_size n x a y h cut c few is small size e =
    let w : IsWithin (2 ^ 62) (pos y) = record { low = omega (arith, ints); high = omega (arith, ints) } in
    let sets = wide_few n cut few is in
    let l = within_more (2 ^ 62 * length (wide_sets cut)) (2 ^ 62 * 4096) _ (omega arith) (laid_size (2 ^ 62) (pos y) h (wide_sets cut) c w) in
    record { low = omega (arith, ints); high = omega (arith, ints) }

-- ---- sums over conditions, the last one first

-- a sum over rows, one condition less being left
pub sum_last : (f : List Row → ℤ) → f [] ≡ pos 0 → ((row : Row) (rows : List Row) → f (row ∷ rows) ≡ f rows +ℤ f (row ∷ [])) → (path : List Condition) (x y t : ℤ) (o : Option Condition) (rest more : List (ℕ × ℕ)) (q : ℕ × ℕ)
    → rest ≡ more ++ q ∷ [] → o ≡ condition_at path q.0 → x +ℤ f (condition_rows path rest) ≡ t → y ≡ f (condition_row o q.1 ∷ []) → x +ℤ y +ℤ f (condition_rows path more) ≡ t
sum_last f nil add path x y t o rest more q e is so_far one =
    let before = rw e at so_far in
    let now = rw is at one in
    let last = rows_last f nil add path more q in
    omega (arith, ints)
