-- Numbered duals by rising numbers.
use Rattle.std.proofs.Common.{◌≡◌, ℕ, ◌+◌, ◌*◌, ◌<◌, ◌≤◌, true, false, cond, ◌&&◌, List, [], ◌∷◌, length, map, refl, sym, ◌∙◌, ap, subst, arith}
use Rattle.std.specs.Prelude.{nat_le, ◌==◌, ℤ, pos, ◌+ℤ◌}
use Rattle.std.specs.List.{AllByRecursion}
use Rattle.std.proofs.lemmas.Bool.{or_from, and_from, and_parts, or_parts, cond_both, false≢true, leb-true, leb-false, le-leb, ne_eqb}
use Rattle.std.proofs.lemmas.Int.{ints}
use Rattle.tspdef.specs.Sets.{has}
use Rattle.tspdef.specs.Cuts.{Cut, sets_of, right_side, coefficient}
use Rattle.tspdef.specs.Closings.{AreRisingCuts}
use Rattle.tspdef.specs.Bounds.{cut_rows, price, worth}
use Rattle.certdef.specs.Items.{rises}
use Rattle.certdef.specs.Accepted.{cut_at, firsts}
use Rattle.certform.specs.Written.{is_same_cut, number_of, put_in, written_cuts}
use Rattle.certform.specs.Listing.{IsListed, AreListed}
use Rattle.certform.specs.Faithful.{dual_of_cut}
use Rattle.certform.proofs.Numbering.{AreGreater, number_some, number_within, cut_numbered, all_greater, rising_rest, apart}

-- what holds of the list with q put in holds of either case
pub put_cases : (P : List (ℕ × ℕ) → Type 0) (q r : ℕ × ℕ) (rs : List (ℕ × ℕ)) → (q.0 ≤ r.0 → P (q ∷ r ∷ rs)) → (r.0 < q.0 → P (r ∷ put_in q rs)) → P (put_in q (r ∷ rs))
put_cases P q r rs a b = cond_both (nat_le q.0 r.0) (q ∷ r ∷ rs) (r ∷ put_in q rs) P (λ e. a (leb-true q.0 r.0 e)) (λ e. b (leb-false q.0 r.0 e))

pub length-put_in : (q : ℕ × ℕ) (xs : List (ℕ × ℕ)) → length (put_in q xs) ≡ length xs + 1
length-put_in q [] = omega arith
length-put_in q (r ∷ rs) = put_cases (λ ys. length ys ≡ length (r ∷ rs) + 1) q r rs (λ l. omega arith) (λ l. let ih = length-put_in q rs in omega arith)

pub length-written_cuts : (cs : List Cut) (qs : List (Cut × ℕ)) → length (written_cuts cs qs) ≡ length qs
length-written_cuts cs [] = refl
length-written_cuts cs (q ∷ qs) = let ih = length-written_cuts cs qs in let p = length-put_in (number_of cs q.0, q.1) (written_cuts cs qs) in omega arith

-- ---- what holds of each

pub all-put_in : (P : (ℕ × ℕ) → Type 0) (q : ℕ × ℕ) (xs : List (ℕ × ℕ)) → P q → AllByRecursion P xs → AllByRecursion P (put_in q xs)
all-put_in P q [] p h = (p, tt)
all-put_in P q (r ∷ rs) p h = put_cases (AllByRecursion P) q r rs (λ l. (p, h)) (λ l. (h.0, all-put_in P q rs p h.1))

-- ---- they rise

apart-put_in : (q : ℕ × ℕ) (xs : List (ℕ × ℕ)) (k : ℕ) → (q.0 ≡ k → ⊥) → has (firsts xs) k ≡ false → has (firsts (put_in q xs)) k ≡ false
apart-put_in q [] k ne h = or_from (q.0 == k) false (ne_eqb q.0 k ne) refl
apart-put_in q (r ∷ rs) k ne h = let p = or_parts (r.0 == k) (has (firsts rs) k) h in
    put_cases (λ ys. has (firsts ys) k ≡ false) q r rs
    (λ l. or_from (q.0 == k) (has (firsts (r ∷ rs)) k) (ne_eqb q.0 k ne) h)
    (λ l. or_from (r.0 == k) (has (firsts (put_in q rs)) k) p.0 (apart-put_in q rs k ne p.1))

pub rises_from : (from most : ℕ) (c : ℕ) (cs : List ℕ) → rises from most (c ∷ cs) ≡ true → (from ≤ c) × (c ≤ most) × (rises (c + 1) most cs ≡ true)
rises_from from most c cs h =
    let p = and_parts (nat_le from c && nat_le c most) (rises (c + 1) most cs) h in
    let q = and_parts (nat_le from c) (nat_le c most) p.0 in
    (leb-true from c q.0, leb-true c most q.1, p.1)

pub rises_again : (from most : ℕ) (c : ℕ) (cs : List ℕ) → from ≤ c → c ≤ most → rises (c + 1) most cs ≡ true → rises from most (c ∷ cs) ≡ true
rises_again from most c cs a b h = and_from (nat_le from c && nat_le c most) (rises (c + 1) most cs) (and_from (nat_le from c) (nat_le c most) (le-leb from c a) (le-leb c most b)) h

rises-put_in : (from most : ℕ) (q : ℕ × ℕ) (xs : List (ℕ × ℕ)) → from ≤ q.0 → q.0 ≤ most → has (firsts xs) q.0 ≡ false → rises from most (firsts xs) ≡ true
    → rises from most (firsts (put_in q xs)) ≡ true
rises-put_in from most q [] a b out h = rises_again from most q.0 [] a b refl
rises-put_in from most q (r ∷ rs) a b out h =
    let o = or_parts (r.0 == q.0) (has (firsts rs) q.0) out in
    let p = rises_from from most r.0 (firsts rs) h in
    put_cases (λ ys. rises from most (firsts ys) ≡ true) q r rs
    (λ l. let ne : r.0 ≡ q.0 → ⊥ = λ e. false≢true (sym o.0 ∙ eq_test r.0 q.0 e) in
    rises_again from most q.0 (r.0 ∷ firsts rs) a b (rises_again (q.0 + 1) most r.0 (firsts rs) (omega arith) p.1 p.2))
    (λ l. rises_again from most r.0 (firsts (put_in q rs)) p.0 p.1 (rises-put_in (r.0 + 1) most q rs (omega arith) b o.1 p.2)) where
      eq_test : (x y : ℕ) → x ≡ y → (x == y) ≡ true
      eq_test x y e = grind arith

-- a greater cut's number is not among those of others
other_numbers : (cs : List Cut) (c : Cut) (qs : List (Cut × ℕ)) → IsListed cs c → AreListed cs qs → AreGreater c qs → has (firsts (written_cuts cs qs)) (number_of cs c) ≡ false
other_numbers cs c [] h k g = refl
other_numbers cs c (q ∷ qs) h k g =
    apart-put_in (number_of cs q.0, q.1) (written_cuts cs qs) (number_of cs c) (λ e. apart cs c q.0 h k.0 g.0 e) (other_numbers cs c qs h k.1 g.1)

pub numbers_rise : (cs : List Cut) (qs : List (Cut × ℕ)) → AreListed cs qs → AreRisingCuts qs → rises 1 (length cs) (firsts (written_cuts cs qs)) ≡ true
numbers_rise cs [] h r = refl
numbers_rise cs (q ∷ qs) h r =
    rises-put_in 1 (length cs) (number_of cs q.0, q.1) (written_cuts cs qs) (number_some cs q.0) (number_within cs q.0 h.0)
    (other_numbers cs q.0 qs h.0 h.1 (all_greater q.0 qs r)) (numbers_rise cs qs h.1 (rising_rest q qs r))

-- ---- the cuts and duals that they stand for

abbrev pub named : List Cut → (ℕ × ℕ) → Cut × ℕ
named cs q = (cut_at cs q.0, q.1)

swap_ends : (w a b : ℤ) → (w +ℤ a) +ℤ b ≡ (w +ℤ b) +ℤ a
swap_ends w a b = omega (arith, ints)

worth_put : (cs : List Cut) (q : ℕ × ℕ) (xs : List (ℕ × ℕ)) → worth (cut_rows (map (named cs) (put_in q xs))) ≡ worth (cut_rows (map (named cs) (q ∷ xs)))
worth_put cs q [] = refl
worth_put cs q (r ∷ rs) = put_cases (λ ys. worth (cut_rows (map (named cs) ys)) ≡ worth (cut_rows (map (named cs) (q ∷ r ∷ rs)))) q r rs (λ l. refl)
    (λ l. ap (λ w. w +ℤ pos (r.1 * right_side (cut_at cs r.0))) (worth_put cs q rs)
    ∙ swap_ends (worth (cut_rows (map (named cs) rs))) (pos (q.1 * right_side (cut_at cs q.0))) (pos (r.1 * right_side (cut_at cs r.0))))

price_put : (u v : ℕ) (cs : List Cut) (q : ℕ × ℕ) (xs : List (ℕ × ℕ)) → price (cut_rows (map (named cs) (put_in q xs))) u v ≡ price (cut_rows (map (named cs) (q ∷ xs))) u v
price_put u v cs q [] = refl
price_put u v cs q (r ∷ rs) = put_cases (λ ys. price (cut_rows (map (named cs) ys)) u v ≡ price (cut_rows (map (named cs) (q ∷ r ∷ rs))) u v) q r rs (λ l. refl)
    (λ l. ap (λ w. w +ℤ pos (r.1 * coefficient (sets_of (cut_at cs r.0)) u v)) (price_put u v cs q rs)
    ∙ swap_ends (price (cut_rows (map (named cs) rs)) u v) (pos (q.1 * coefficient (sets_of (cut_at cs q.0)) u v)) (pos (r.1 * coefficient (sets_of (cut_at cs r.0)) u v)))

pub worth_same : (cs : List Cut) (qs : List (Cut × ℕ)) → AreListed cs qs → worth (cut_rows (map (named cs) (written_cuts cs qs))) ≡ worth (cut_rows qs)
worth_same cs [] h = refl
worth_same cs (q ∷ qs) h =
    let e = cut_numbered cs q.0 h.0 in
    worth_put cs (number_of cs q.0, q.1) (written_cuts cs qs)
    ∙ ap (λ w. w +ℤ pos (q.1 * right_side (cut_at cs (number_of cs q.0)))) (worth_same cs qs h.1)
    ∙ ap (λ (c : Cut). worth (cut_rows qs) +ℤ pos (q.1 * right_side c)) e

pub price_same : (u v : ℕ) (cs : List Cut) (qs : List (Cut × ℕ)) → AreListed cs qs → price (cut_rows (map (named cs) (written_cuts cs qs))) u v ≡ price (cut_rows qs) u v
price_same u v cs [] h = refl
price_same u v cs (q ∷ qs) h =
    let e = cut_numbered cs q.0 h.0 in
    price_put u v cs (number_of cs q.0, q.1) (written_cuts cs qs)
    ∙ ap (λ w. w +ℤ pos (q.1 * coefficient (sets_of (cut_at cs (number_of cs q.0))) u v)) (price_same u v cs qs h.1)
    ∙ ap (λ (c : Cut). price (cut_rows qs) u v +ℤ pos (q.1 * coefficient (sets_of c) u v)) e

swap_last : (w a b : ℕ) → (w + a) + b ≡ (w + b) + a
swap_last w a b = omega arith

dual_put : (d : Cut) (cs : List Cut) (q : ℕ × ℕ) (xs : List (ℕ × ℕ)) → dual_of_cut d (map (named cs) (put_in q xs)) ≡ dual_of_cut d (map (named cs) (q ∷ xs))
dual_put d cs q [] = refl
dual_put d cs q (r ∷ rs) = put_cases (λ ys. dual_of_cut d (map (named cs) ys) ≡ dual_of_cut d (map (named cs) (q ∷ r ∷ rs))) q r rs (λ l. refl)
    (λ l. ap (λ w. w + cond (is_same_cut d (cut_at cs r.0)) r.1 0) (dual_put d cs q rs)
    ∙ swap_last (dual_of_cut d (map (named cs) rs)) (cond (is_same_cut d (cut_at cs q.0)) q.1 0) (cond (is_same_cut d (cut_at cs r.0)) r.1 0))

pub duals_same : (d : Cut) (cs : List Cut) (qs : List (Cut × ℕ)) → AreListed cs qs → dual_of_cut d (map (named cs) (written_cuts cs qs)) ≡ dual_of_cut d qs
duals_same d cs [] h = refl
duals_same d cs (q ∷ qs) h =
    let e = cut_numbered cs q.0 h.0 in
    dual_put d cs (number_of cs q.0, q.1) (written_cuts cs qs)
    ∙ ap (λ w. w + cond (is_same_cut d (cut_at cs (number_of cs q.0))) q.1 0) (duals_same d cs qs h.1)
    ∙ ap (λ (c : Cut). dual_of_cut d qs + cond (is_same_cut d c) q.1 0) e

all_named : (P : (Cut × ℕ) → Type 0) (cs : List Cut) (xs : List (ℕ × ℕ)) → AllByRecursion (λ q. P (named cs q)) xs → AllByRecursion P (map (named cs) xs)
all_named P cs [] h = tt
all_named P cs (x ∷ xs) h = (h.0, all_named P cs xs h.1)

each_same : (P : (Cut × ℕ) → Type 0) (cs : List Cut) (qs : List (Cut × ℕ)) → AreListed cs qs → AllByRecursion P qs → AllByRecursion (λ q. P (named cs q)) (written_cuts cs qs)
each_same P cs [] h p = tt
each_same P cs (q ∷ qs) h p =
    all-put_in (λ x. P (named cs x)) (number_of cs q.0, q.1) (written_cuts cs qs)
    (subst (λ (c : Cut). P (c, q.1)) (sym (cut_numbered cs q.0 h.0)) p.0) (each_same P cs qs h.1 p.1)

pub all_same : (P : (Cut × ℕ) → Type 0) (cs : List Cut) (qs : List (Cut × ℕ)) → AreListed cs qs → AllByRecursion P qs → AllByRecursion P (map (named cs) (written_cuts cs qs))
all_same P cs qs h p = all_named P cs (written_cuts cs qs) (each_same P cs qs h p)
