use Rattle.std.proofs.Common.{◌≡◌, ℕ, ◌+◌, ◌-◌, ◌<◌, ◌≤◌, ◌⊎◌, List, [], ◌∷◌, ◌++◌, length, get_or, take, drop, refl, inl, inr, sym, ◌∙◌, ap, arith, ⊎_elim, append_assoc, length-append, length-drop}
use Rattle.std.proofs.lemmas.List.{get_or-take, get_or-drop, get_or-append_right, get_or_append_left, length-take-le, reverse-append}
use Rattle.std.proofs.lemmas.Bool.{cases_lt, cond-true, cond-false, lt-ltb, le-ltb}
use Rattle.std.proofs.lemmas.Grind.{common_steps}
use Rattle.std.specs.Prelude.{reverse}
use Rattle.flips.specs.Places.{wrap, turn}
use Rattle.flips.proofs.Words.{IsTurn}

pub wrap_low : (n x : ℕ) → x < n → wrap n x ≡ x
wrap_low n x h = cond-true _ _ _ (lt-ltb x n h)

pub wrap_high : (n x : ℕ) → n ≤ x → wrap n x ≡ x - n
wrap_high n x h = cond-false _ _ _ (le-ltb x n h)

pub wrap_is : (n x : ℕ) → ((x < n) × (wrap n x ≡ x)) ⊎ ((n ≤ x) × (wrap n x + n ≡ x))
wrap_is n x = grind (arith, wrap_low, wrap_high, cases_lt)

pub get_turn : (n i k : ℕ) (xs : List ℕ) → length xs ≡ n → i ≤ n → k < n → get_or (turn i xs) k 0 ≡ get_or xs (wrap n (i + k)) 0
get_turn n i k xs e h l =
    let d = length-drop i xs in
    ⊎_elim
    (λ (m : i + k < n).
    let w = wrap_low n (i + k) m in
    let a : get_or (drop i xs ++ take i xs) k 0 ≡ get_or (drop i xs) k 0 = get_or_append_left (drop i xs) (take i xs) 0 k (omega arith) in
    let b = get_or-drop i xs k 0 in
    cc)
    (λ (m : n ≤ i + k).
    let w = wrap_high n (i + k) m in
    let a : get_or (drop i xs ++ take i xs) k 0 ≡ get_or (take i xs) (k - (n - i)) 0 = get_or-append_right (drop i xs) (take i xs) (n - i) k 0 (omega arith) (omega arith) in
    let b = get_or-take i xs (k - (n - i)) 0 (omega arith) in
    let f : k - (n - i) ≡ i + k - n = omega arith in
    cc)
    (cases_lt (i + k) n)

pub length-turn : (i : ℕ) (xs : List ℕ) → i ≤ length xs → length (turn i xs) ≡ length xs
length-turn i xs h = omega (arith, length-append (drop i xs) (take i xs), length-drop i xs, length-take-le i xs h)

-- places on from places on
pub wrap_wrap : (n i j k : ℕ) → i < n → j ≤ n → k + j < n + n → j + k < n → wrap n (wrap n (i + j) + k) ≡ wrap n (i + (j + k))
wrap_wrap n i j k h l m o = grind (arith, wrap_is)

pub wrap_same : (n i j k : ℕ) → i < n → j < n → k < n → wrap n (i + j) ≡ wrap n (i + k) → j ≡ k
wrap_same n i j k h l m e = grind (arith, wrap_is)

pub wrap_in : (n x : ℕ) → x < n + n → wrap n x < n
wrap_in n x h = grind (arith, wrap_is)

pub take_drop : (k : ℕ) (xs : List ℕ) → take k xs ++ drop k xs ≡ xs
take_drop k xs = grind (arith, common_steps)

-- a list in two ways: the longer front holds the shorter one
pub two_fronts : (a b c d : List ℕ) → a ++ b ≡ c ++ d → ((m : List ℕ) × ((a ≡ c ++ m) × (d ≡ m ++ b))) ⊎ ((m : List ℕ) × ((c ≡ a ++ m) × (b ≡ m ++ d)))
two_fronts [] b c d e = inr (c, (refl, e))
two_fronts (x ∷ a) b [] d e = inl (x ∷ a, (refl, sym e))
two_fronts (x ∷ a) b (y ∷ c) d e =
    let h : x ≡ y = cc in
    let t : a ++ b ≡ c ++ d = cc in
    ⊎_elim
    (λ w. inl (w.0, (let f = w.1.0 in cc, w.1.1)))
    (λ w. inr (w.0, (let f = w.1.0 in cc, w.1.1)))
    (two_fronts a b c d t)

pub turn_turn : (xs ys zs : List ℕ) → IsTurn xs ys → IsTurn ys zs → IsTurn xs zs
turn_turn xs ys zs s t = ⊎_elim
    (λ w. let e = w.1.0 in let f = w.1.1 in
    record {
      front = s.front ++ t.front;
      back = w.0;
      whole = s.whole ∙ ap (λ v. s.front ++ v) e ∙ sym (append_assoc s.front t.front w.0);
      turned = t.turned ∙ ap (λ v. v ++ t.front) f ∙ append_assoc w.0 s.front t.front;
    })
    (λ w. let e = w.1.0 in let f = w.1.1 in
    record {
      front = w.0;
      back = t.back ++ s.back;
      whole = s.whole ∙ ap (λ v. v ++ s.back) f ∙ append_assoc w.0 t.back s.back;
      turned = t.turned ∙ ap (λ v. t.back ++ v) e ∙ sym (append_assoc t.back s.back w.0);
    })
    (two_fronts s.back s.front t.front t.back (sym s.turned ∙ t.whole))

pub turn_swap : (xs p q : List ℕ) → IsTurn xs (p ++ q) → IsTurn xs (q ++ p)
turn_swap xs p q s = turn_turn xs (p ++ q) (q ++ p) s (record { front = p; back = q; whole = refl; turned = refl })

pub turn_reverse : (xs p q : List ℕ) → IsTurn xs (p ++ q) → IsTurn (reverse xs) (reverse p ++ reverse q)
turn_reverse xs p q s = turn_swap (reverse xs) (reverse q) (reverse p)
    (record {
      front = reverse s.back;
      back = reverse s.front;
      whole = ap reverse s.whole ∙ reverse-append s.front s.back;
      turned = sym (reverse-append p q) ∙ ap reverse s.turned ∙ reverse-append s.back s.front;
    })
