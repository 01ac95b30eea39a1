-- Entries, the pairs that they are of, and their table.
use Rattle.std.proofs.Common.{◌≡◌, ℕ, zero, suc, ◌+◌, ◌-◌, ◌*◌, ◌^◌, ◌<◌, ◌≤◌, min, max, Bool, true, false, cond, eqb, ◌&&◌, ◌||◌, List, [], ◌∷◌, ◌++◌, length, get_or, take, set, replicate, refl, sym, ap, ◌∙◌, arith, ⊎_elim}
use Rattle.std.specs.Prelude.{count_by, nat_lt}
use Rattle.std.specs.List.{AllByRecursion}
use Rattle.std.proofs.lemmas.Bool.{cases_Bool, cases_lt, cases_eq, or_parts, or_from, or_left, or_right, lt-ltb, false_from_ne_true, false≢true, cond-false}
use Rattle.std.proofs.lemmas.Bool.Decides.{nat_tests}
use Rattle.std.proofs.lemmas.List.{get_or-set_same, get_or-set_other, get_or-replicate, length-set, length-replicate, get_or_read}
use Rattle.std.proofs.lemmas.List.Sums.{sum_by-set, count_by-le-length}
use Rattle.std.proofs.lemmas.Nat.{mul-add-lt, same_from_place}
use Rattle.tspdef.specs.Tours.{joins}
use Rattle.tspdef.proofs.Steps.{joins_is}
use Rattle.cyc.specs.declared.frac.Entry.{Entry}
use Rattle.cyc.specs.Frac.{value_of, is_listed, IsEntry, ArePairsDistinct, AreEntries}
use Rattle.cyc.specs.Table.{mark_of, IsTableOf}
use Rattle.cyc.proofs.ListLemmas.{or_comm}

-- ---- pairs in either order

joins_turned : (u v a b : ℕ) → joins v u (a, b) ≡ joins u v (a, b)
joins_turned u v a b = or_comm (eqb a v && eqb b u) (eqb a u && eqb b v)

joins_back : (u v a b : ℕ) → joins u v (a, b) ≡ true → joins a b (u, v) ≡ true
joins_back u v a b h = grind (arith, nat_tests)

joins_self : (u v : ℕ) → joins u v (u, v) ≡ true
joins_self u v = grind (arith, nat_tests)

listed_turned : (es : List Entry) (u v : ℕ) → is_listed es v u ≡ is_listed es u v
listed_turned [] u v = refl
listed_turned (e ∷ es) u v = rw (joins_turned u v e.u e.v, listed_turned es u v) refl

value_turned : (es : List Entry) (u v : ℕ) → value_of es v u ≡ value_of es u v
value_turned [] u v = refl
value_turned (e ∷ es) u v = rw (joins_turned u v e.u e.v, value_turned es u v) refl

-- the entries are of a pair, whichever way it is named
pub listed_same : (es : List Entry) (u v a b : ℕ) → joins u v (a, b) ≡ true → is_listed es u v ≡ is_listed es a b
listed_same es u v a b h = ⊎_elim
    (λ p. rw (sym p.0, sym p.1) refl)
    (λ p. rw (sym p.0, sym p.1) (listed_turned es a b))
    (joins_is a b u v h)

-- ---- entries, one by one

listed_at : (es : List Entry) (i : ℕ) (d : Entry) → i < length es → is_listed es (get_or es i d).u (get_or es i d).v ≡ true
listed_at [] i d h = absurd (omega arith)
listed_at (e ∷ es) zero d h = or_left _ _ (joins_self e.u e.v)
listed_at (e ∷ es) (suc i) d h = or_right _ _ (listed_at es i d (omega arith))

listed-push : (es : List Entry) (e : Entry) (u v : ℕ) → is_listed (es ++ e ∷ []) u v ≡ joins u v (e.u, e.v) || is_listed es u v
listed-push [] e u v = refl
listed-push (f ∷ es) e u v = rw (listed-push es e u v) (or_turn (joins u v (f.u, f.v)) (joins u v (e.u, e.v)) (is_listed es u v))
  where
    or_turn : (x y z : Bool) → x || (y || z) ≡ y || (x || z)
    or_turn true true z = refl
    or_turn true false z = refl
    or_turn false true z = refl
    or_turn false false z = refl

pub value_unlisted : (es : List Entry) (u v : ℕ) → is_listed es u v ≡ false → value_of es u v ≡ 0
value_unlisted [] u v h = refl
value_unlisted (e ∷ es) u v h = let p = or_parts (joins u v (e.u, e.v)) (is_listed es u v) h in cond-false _ _ _ p.0 ∙ value_unlisted es u v p.1

value-push : (es : List Entry) (e : Entry) (u v : ℕ) → value_of (es ++ e ∷ []) u v ≡ cond (is_listed es u v) (value_of es u v) (cond (joins u v (e.u, e.v)) e.x 0)
value-push [] e u v = refl
value-push (f ∷ es) e u v = ⊎_elim
    (λ t. rw t refl)
    (λ n. rw n (value-push es e u v))
    (cases_Bool (joins u v (f.u, f.v)))

pub value_small : (n : ℕ) (es : List Entry) (u v : ℕ) → AllByRecursion (IsEntry n) es → value_of es u v ≤ 2 ^ 30
value_small n [] u v a = omega arith
value_small n (e ∷ es) u v a = ⊎_elim
    (λ t. rw t a.0.small)
    (λ f. rw f (value_small n es u v a.1))
    (cases_Bool (joins u v (e.u, e.v)))

-- ---- lists of entries in order

each_push : (n : ℕ) (es : List Entry) (e : Entry) → AllByRecursion (IsEntry n) es → IsEntry n e → AllByRecursion (IsEntry n) (es ++ e ∷ [])
each_push n [] e a h = (h, tt)
each_push n (f ∷ es) e a h = (a.0, each_push n es e a.1 h)

each_last : (n : ℕ) (es : List Entry) (e : Entry) → AllByRecursion (IsEntry n) (es ++ e ∷ []) → IsEntry n e
each_last n [] e a = a.0
each_last n (f ∷ es) e a = each_last n es e a.1

each_take : (n k : ℕ) (es : List Entry) → AllByRecursion (IsEntry n) es → AllByRecursion (IsEntry n) (take k es)
each_take n zero es a = tt
each_take n (suc k) [] a = tt
each_take n (suc k) (e ∷ es) a = (a.0, each_take n k es a.1)

distinct_push : (es : List Entry) (e : Entry) → ArePairsDistinct es → is_listed es e.u e.v ≡ false → ArePairsDistinct (es ++ e ∷ [])
distinct_push [] e d h = (refl, tt)
distinct_push (f ∷ es) e d h =
    let p = or_parts (joins e.u e.v (f.u, f.v)) (is_listed es e.u e.v) h in
    let other : joins f.u f.v (e.u, e.v) ≡ false = false_from_ne_true _ (λ t. let b = joins_back f.u f.v e.u e.v t in let g = p.0 in cc) in
    (listed-push es e f.u f.v ∙ or_from _ _ other d.0, distinct_push es e d.1 p.1)

distinct_last : (es : List Entry) (e : Entry) → ArePairsDistinct (es ++ e ∷ []) → is_listed es e.u e.v ≡ false
distinct_last [] e d = refl
distinct_last (f ∷ es) e d =
    let p = or_parts (joins f.u f.v (e.u, e.v)) (is_listed es f.u f.v) (sym (listed-push es e f.u f.v) ∙ d.0) in
    or_from _ _ (false_from_ne_true _ (λ t. let b = joins_back e.u e.v f.u f.v t in let g = p.0 in cc)) (distinct_last es e d.1)

unlisted_take : (k : ℕ) (es : List Entry) (u v : ℕ) → is_listed es u v ≡ false → is_listed (take k es) u v ≡ false
unlisted_take zero es u v h = refl
unlisted_take (suc k) [] u v h = refl
unlisted_take (suc k) (e ∷ es) u v h = let p = or_parts _ _ h in or_from _ _ p.0 (unlisted_take k es u v p.1)

distinct_take : (k : ℕ) (es : List Entry) → ArePairsDistinct es → ArePairsDistinct (take k es)
distinct_take zero es d = tt
distinct_take (suc k) [] d = tt
distinct_take (suc k) (e ∷ es) d = (unlisted_take k es e.u e.v d.0, distinct_take k es d.1)

pub entries_push : (n : ℕ) (es : List Entry) (e : Entry) → AreEntries n es → IsEntry n e → is_listed es e.u e.v ≡ false → AreEntries n (es ++ e ∷ [])
entries_push n es e a h l = record { each = each_push n es e a.each h; distinct = distinct_push es e a.distinct l }

pub entries_last : (n : ℕ) (es : List Entry) (e : Entry) → AreEntries n (es ++ e ∷ []) → IsEntry n e × (is_listed es e.u e.v ≡ false)
entries_last n es e a = (each_last n es e a.each, distinct_last es e a.distinct)

pub entries_take : (n k : ℕ) (es : List Entry) → AreEntries n es → AreEntries n (take k es)
entries_take n k es a = record { each = each_take n k es a.each; distinct = distinct_take k es a.distinct }

-- ---- the table

mark_by : (j l : Bool) (x value : ℕ) → (j ≡ true → l ≡ false) → cond (j || l) (cond l value (cond j x 0) + 1) 0 ≡ cond j (x + 1) (cond l (value + 1) 0)
mark_by true true x value h = absurd (false≢true (sym (h refl)))
mark_by true false x value h = refl
mark_by false true x value h = refl
mark_by false false x value h = refl

mark-push : (es : List Entry) (e : Entry) (u v : ℕ) → is_listed es e.u e.v ≡ false → mark_of (es ++ e ∷ []) u v ≡ cond (joins u v (e.u, e.v)) (e.x + 1) (mark_of es u v)
mark-push es e u v fresh =
    let by = mark_by (joins u v (e.u, e.v)) (is_listed es u v) e.x (value_of es u v) (λ t. listed_same es u v e.u e.v t ∙ fresh) in
    ap (λ l. cond l (value_of (es ++ e ∷ []) u v + 1) 0) (listed-push es e u v)
    ∙ ap (λ k. cond (joins u v (e.u, e.v) || is_listed es u v) (k + 1) 0) (value-push es e u v)
    ∙ by

mark_turned : (es : List Entry) (u v : ℕ) → mark_of es v u ≡ mark_of es u v
mark_turned es u v = rw (listed_turned es u v, value_turned es u v) refl

mark_sorted : (es : List Entry) (u v : ℕ) → mark_of es (min u v) (max u v) ≡ mark_of es u v
mark_sorted es u v = ⊎_elim
    (λ lt.
    let a : min u v ≡ u = omega arith in
    let b : max u v ≡ v = omega arith in
    rw (a, b) refl)
    (λ ge.
    let a : min u v ≡ v = omega arith in
    let b : max u v ≡ u = omega arith in
    rw (a, b) (mark_turned es u v))
    (cases_lt u v)

-- what the table has of a pair, in either order
mark_in_table : (n : ℕ) (es : List Entry) (table : List ℕ) (u v : ℕ) → IsTableOf n es table → u < n → v < n → get_or table (min u v * n + max u v) 0 ≡ mark_of es u v
mark_in_table n es table u v t h k = t.marks (min u v) (max u v) (omega arith) (omega arith) ∙ mark_sorted es u v

value_by : (l : Bool) (x : ℕ) → (l ≡ false → x ≡ 0) → cond l (x + 1) 0 - 1 ≡ x
value_by true x h = omega arith
value_by false x h = let e = h refl in omega arith

-- the same, as it is read
pub mark_read : (n : ℕ) (es : List Entry) (table : List ℕ) (u v cell read : ℕ) → IsTableOf n es table → u < n → v < n → cell ≡ min u v * n + max u v
    → cell < n * n → read ≡ get_or table cell read → read ≡ mark_of es u v
mark_read n es table u v cell read t h k at within is =
    get_or_read table cell read (let s = t.size in omega arith) is 0
    ∙ ap (λ c. get_or table c 0) at
    ∙ mark_in_table n es table u v t h k

pub mark_value : (es : List Entry) (u v : ℕ) → mark_of es u v - 1 ≡ value_of es u v
mark_value es u v = value_by (is_listed es u v) (value_of es u v) (value_unlisted es u v)

pub unlisted_from_mark : (es : List Entry) (u v : ℕ) → mark_of es u v ≡ 0 → is_listed es u v ≡ false
unlisted_from_mark es u v h = false_from_ne_true _ (λ l. let m : mark_of es u v ≡ value_of es u v + 1 = rw l refl in omega arith)

pub mark_unlisted : (es : List Entry) (u v : ℕ) → is_listed es u v ≡ false → mark_of es u v ≡ 0
mark_unlisted es u v h = rw h refl

joins_place : (a b u v : ℕ) → a ≤ b → joins a b (u, v) ≡ true → (a ≡ min u v) × (b ≡ max u v)
joins_place a b u v le h = ⊎_elim (λ p. let q = p.0 in let r = p.1 in (omega arith, omega arith)) (λ p. let q = p.0 in let r = p.1 in (omega arith, omega arith)) (joins_is u v a b h)

place_joins : (a b u v : ℕ) → a ≡ min u v → b ≡ max u v → joins a b (u, v) ≡ true
place_joins a b u v h k = grind (arith, nat_tests)

module _ (n : ℕ) (es : List Entry) (e : Entry) (table : List ℕ) where
  abbrev after : List ℕ
  after = set table (min e.u e.v * n + max e.u e.v) (e.x + 1)

  -- one more entry is one more mark
  pub table_push : IsTableOf n es table → IsEntry n e → is_listed es e.u e.v ≡ false → IsTableOf n (es ++ e ∷ []) after
  table_push t h fresh =
      let within : min e.u e.v * n + max e.u e.v < length table = (
      let p = mul-add-lt (min e.u e.v) n (max e.u e.v) n (let q = h.u_below in let r = h.v_below in omega arith) (let q = h.u_below in let r = h.v_below in omega arith) in
      let s = t.size in omega arith
      ) in
      record {
        size = length-set table (min e.u e.v * n + max e.u e.v) (e.x + 1) ∙ t.size;
        marks = λ u v le below. ⊎_elim
            (λ same.
            let p = same_from_place u v (min e.u e.v) (max e.u e.v) n below (let q = h.u_below in let r = h.v_below in omega arith) same in
            let j = place_joins u v e.u e.v p.0 p.1 in
            let there : get_or after (min e.u e.v * n + max e.u e.v) 0 ≡ e.x + 1 = get_or-set_same table (min e.u e.v * n + max e.u e.v) (e.x + 1) 0 within in
            rw (mark-push es e u v fresh, j, same) there)
            (λ other.
            let j : joins u v (e.u, e.v) ≡ false = false_from_ne_true _ (λ j. let p = joins_place u v e.u e.v le j in let q = p.0 in let r = p.1 in other (rw (q, r) refl)) in
            rw (mark-push es e u v fresh, j) (get_or-set_other table (min e.u e.v * n + max e.u e.v) (u * n + v) (e.x + 1) 0 other ∙ t.marks u v le below))
            (cases_eq (u * n + v) (min e.u e.v * n + max e.u e.v));
      }

pub table_of_none : (n : ℕ) → IsTableOf n [] (replicate (n * n) 0)
table_of_none n = record {
  size = length-replicate (n * n) 0;
  marks = λ u v le below. get_or-replicate (n * n) (u * n + v) 0 0 (mul-add-lt u n v n (omega arith) below);
}

-- ---- how many marks there are

-- 1 for a number above 0
abbrev one_if : ℕ → ℕ
one_if c = cond (nat_lt 0 c) 1 0

abbrev pub marked : List ℕ → ℕ
marked table = count_by (λ c. nat_lt 0 c) table

pub none_marked : (n : ℕ) → marked (replicate n 0) ≡ 0
none_marked zero = refl
none_marked (suc n) = none_marked n

pub marked_more : (table : List ℕ) (i x : ℕ) → i < length table → get_or table i 0 ≡ 0 → marked (set table i (x + 1)) ≡ marked table + 1
marked_more table i x h z =
    let s = sum_by-set one_if table i (x + 1) 0 h in
    let before : one_if (get_or table i 0) ≡ 0 = ap one_if z in
    let there : one_if (x + 1) ≡ 1 = ap (λ b. cond b 1 0) (lt-ltb 0 (x + 1) (omega arith)) in
    omega (arith, s, before, there)

pub marked_few : (table : List ℕ) → marked table ≤ length table
marked_few table = count_by-le-length (λ c. nat_lt 0 c) table
