-- What lies between two cities of a tour.
use Rattle.std.proofs.Common.{◌≡◌, ℕ, zero, suc, ◌+◌, ◌-◌, ◌<◌, ◌≤◌, Bool, true, false, leb, ◌&&◌, ◌||◌, List, [], ◌∷◌, length, get_or, take, drop, refl, sym, ◌∙◌, ap, arith, ⊎_elim}
use Rattle.std.proofs.lemmas.Bool.{cases_lt, or_left, or_right, or_from, and_from, and_left, and_right, eq-eqb, ne_eqb, le-leb, lt-leb, cond-true, cond-false}
use Rattle.flips.specs.Cycles.{place_in, is_between}
use Rattle.flips.specs.Places.{wrap, turn}
use Rattle.flips.proofs.Words.{IsTurn, Apart}
use Rattle.flips.proofs.Turns.{wrap_is, wrap_in, get_turn, length-turn, take_drop}
use Rattle.flips.proofs.Steps.{apart_turned}
use Rattle.flips.proofs.Tours.{apart_tail}

-- a city of a list without repetition stands where it is read
pub place_at : (xs : List ℕ) (a k : ℕ) → Apart xs → k < length xs → get_or xs k 0 ≡ a → place_in xs a ≡ k
place_at [] a k d h e = absurd (omega arith)
place_at (x ∷ xs) a zero d h e = cond-true _ _ _ (eq-eqb x a e)
place_at (x ∷ xs) a (suc k) d h e =
    let ne : x ≡ a → ⊥ = λ q. (let r = d 0 (suc k) (omega arith) h (q ∙ sym e) in absurd (omega arith)) in
    let ih = place_at xs a k (apart_tail x xs d) (omega arith) e in
    cond-false _ _ _ (ne_eqb x a ne) ∙ omega arith

there_and_back : (n p q : ℕ) → p < n → q < n → wrap n (p + wrap n (q + (n - p))) ≡ q
there_and_back n p q h l = grind (arith, wrap_is)

-- how far a city is from the place from which the list is read
far_at : (xs : List ℕ) (p q b : ℕ) → Apart xs → p < length xs → q < length xs → get_or xs q 0 ≡ b → place_in (turn p xs) b ≡ wrap (length xs) (q + (length xs - p))
far_at xs p q b d h l e =
    let n = length xs in
    let k = wrap n (q + (n - p)) in
    let hk : k < n = wrap_in n (q + (n - p)) (omega arith) in
    let t : IsTurn xs (turn p xs) = record { front = take p xs; back = drop p xs; whole = sym (take_drop p xs); turned = refl } in
    let lt = length-turn p xs (omega arith) in
    place_at (turn p xs) b k (apart_turned xs (turn p xs) t d) (omega arith)
    (get_turn n p k xs refl (omega arith) hk ∙ ap (λ j. get_or xs j 0) (there_and_back n p q h l) ∙ e)

between_far : (xs : List ℕ) (p q r a b c : ℕ) → Apart xs → p < length xs → q < length xs → r < length xs → get_or xs p 0 ≡ a → get_or xs q 0 ≡ b → get_or xs r 0 ≡ c
    → is_between xs a b c ≡ leb (wrap (length xs) (q + (length xs - p))) (wrap (length xs) (r + (length xs - p)))
between_far xs p q r a b c d hp hq hr ep eq er =
    let n = length xs in
    let from = place_at xs a p d hp ep in
    ap (λ j. leb (place_in (turn j xs) b) (place_in (turn j xs) c)) from
    ∙ ap (λ j. leb j (place_in (turn p xs) c)) (far_at xs p q b d hp hq eq)
    ∙ ap (λ j. leb (wrap n (q + (n - p))) j) (far_at xs p r c d hp hr er)

wrap_on : (n p q : ℕ) → p ≤ q → q < n → wrap n (q + (n - p)) ≡ q - p
wrap_on n p q h l = grind (arith, wrap_is)

wrap_round : (n p q : ℕ) → q < p → p < n → wrap n (q + (n - p)) ≡ q + (n - p)
wrap_round n p q h l = grind (arith, wrap_is)

less_test : (x y : ℕ) (b : Bool) → b ≡ true → x ≤ y → b ≡ leb x y
less_test x y b e h = e ∙ sym (le-leb x y h)

more_test : (x y : ℕ) (b : Bool) → b ≡ false → y < x → b ≡ leb x y
more_test x y b e h = e ∙ sym (lt-leb x y h)

pub between_ahead : (xs : List ℕ) (p q r a b c : ℕ) → Apart xs → p < length xs → q < length xs → r < length xs → get_or xs p 0 ≡ a → get_or xs q 0 ≡ b → get_or xs r 0 ≡ c
    → p ≤ r → (leb p q && leb q r) ≡ is_between xs a b c
between_ahead xs p q r a b c d hp hq hr ep eq er h =
    let n = length xs in
    let x = wrap n (q + (n - p)) in
    let y = wrap n (r + (n - p)) in
    let yr = wrap_on n p r h hr in
    let test : (leb p q && leb q r) ≡ leb x y =
    ⊎_elim
    (λ (l : q < p). let xq = wrap_round n p q l hp in more_test x y _ (and_left _ _ (lt-leb p q l)) (omega arith))
    (λ (l : p ≤ q). let xq = wrap_on n p q l hq in
    ⊎_elim
    (λ (m : r < q). more_test x y _ (and_right _ _ (lt-leb q r m)) (omega arith))
    (λ (m : q ≤ r). less_test x y _ (and_from _ _ (le-leb p q l) (le-leb q r m)) (omega arith))
    (cases_lt r q))
    (cases_lt q p) in
    test ∙ sym (between_far xs p q r a b c d hp hq hr ep eq er)

pub between_round : (xs : List ℕ) (p q r a b c : ℕ) → Apart xs → p < length xs → q < length xs → r < length xs → get_or xs p 0 ≡ a → get_or xs q 0 ≡ b → get_or xs r 0 ≡ c
    → r < p → (leb p q || leb q r) ≡ is_between xs a b c
between_round xs p q r a b c d hp hq hr ep eq er h =
    let n = length xs in
    let x = wrap n (q + (n - p)) in
    let y = wrap n (r + (n - p)) in
    let yr = wrap_round n p r h hp in
    let test : (leb p q || leb q r) ≡ leb x y =
    ⊎_elim
    (λ (l : q < p). let xq = wrap_round n p q l hp in
    ⊎_elim
    (λ (m : r < q). more_test x y _ (or_from _ _ (lt-leb p q l) (lt-leb q r m)) (omega arith))
    (λ (m : q ≤ r). less_test x y _ (or_right _ _ (le-leb q r m)) (omega arith))
    (cases_lt r q))
    (λ (l : p ≤ q). let xq = wrap_on n p q l hq in less_test x y _ (or_left _ _ (le-leb p q l)) (omega arith))
    (cases_lt q p) in
    test ∙ sym (between_far xs p q r a b c d hp hq hr ep eq er)
