-- Tours of a size that the program takes: the first of them, and their canonical forms.
use Rattle.std.proofs.Common.{◌≡◌, ℕ, zero, suc, ◌+◌, ◌-◌, ◌<◌, ◌≤◌, Bool, true, false, cond, ltb, List, [], ◌∷◌, ◌++◌, length, get_or, take, drop, refl, sym, ap, ◌∙◌, subst, arith, inl, inr}
use Rattle.std.specs.Prelude.{reverse}
use Rattle.std.specs.List.{AllByRecursion, range_with_len}
use Rattle.std.proofs.lemmas.Bool.{ltb-true, ltb-false, ne_eqb, or_from}
use Rattle.std.proofs.lemmas.List.{take-append-drop, drop_more, append_assoc, reverse-append, length-reverse, length-append, length-take, length-drop, get_or-reverse, get_or-take}
use Rattle.std.proofs.lemmas.List.FromFn.{length-range_with_len}
use Rattle.tspdef.specs.Sets.{has}
use Rattle.tspdef.specs.Tours.{AreDistinct, IsTour, last_city, IsCanonical, IsSameCycle, IsCanonicalForm}
use Rattle.tspdef.specs.Instances.{Instance}
use Rattle.tspdef.proofs.CycleLemmas.{same_cycle_is_same_tour}
use Rattle.cyc.specs.Tour.{IsWhole}
use Rattle.cyc.proofs.ListLemmas.{distinct_at, has_at}

-- ---- 0, 1, .. n - 1

below_range : (n a k : ℕ) → a + k ≤ n → AllByRecursion (λ c. c < n) (range_with_len a k)
below_range n a zero h = tt
below_range n a (suc k) h = (omega arith, below_range n (a + 1) k (omega arith))

has-range : (a k c : ℕ) → c < a → has (range_with_len a k) c ≡ false
has-range a zero c h = refl
has-range a (suc k) c h = or_from _ _ (ne_eqb a c (λ e. omega arith)) (has-range (a + 1) k c (omega arith))

distinct_range : (a k : ℕ) → AreDistinct (range_with_len a k)
distinct_range a zero = tt
distinct_range a (suc k) = (has-range (a + 1) k a (omega arith), distinct_range (a + 1) k)

pub numbers_are_whole : (n : ℕ) → 3 ≤ n → n ≤ 2000 → IsWhole (range_with_len 0 n)
numbers_are_whole n many few =
    let l = length-range_with_len 0 n in
    record {
      many = rw l many;
      few = rw l few;
      is_tour = rw l (record { all = l; below = below_range n 0 n (omega arith); distinct = distinct_range 0 n });
    }

-- ---- the canonical form

last_is : (b : ℕ) (cs : List ℕ) → last_city b cs ≡ get_or (b ∷ cs) (length cs) 0
last_is b [] = refl
last_is b (c ∷ cs) = last_is c cs

-- the last of a list with one more before it
last_behind : (x : ℕ) (xs : List ℕ) → 1 ≤ length xs → get_or (x ∷ xs) (length (x ∷ xs) - 1) 0 ≡ get_or xs (length xs - 1) 0
last_behind x [] some = absurd (omega arith)
last_behind x (y ∷ ys) some =
    let e : length (x ∷ y ∷ ys) - 1 ≡ suc (length ys) = omega arith in
    let f : length (y ∷ ys) - 1 ≡ length ys = omega arith in
    ap (λ k. get_or (x ∷ y ∷ ys) k 0) e ∙ sym (ap (λ k. get_or (y ∷ ys) k 0) f)

-- city 0, and behind it a list whose first city is less than its last
is_canonical : (w : List ℕ) → 1 ≤ length w → get_or w 0 0 < get_or w (length w - 1) 0 → IsCanonical (0 ∷ w)
is_canonical [] some less = absurd (omega arith)
is_canonical (b ∷ cs) some less =
    let e : length (b ∷ cs) - 1 ≡ length cs = omega arith in
    let last : b < get_or (b ∷ cs) (length cs) 0 = subst (λ k. b < get_or (b ∷ cs) k 0) e less in
    (refl, subst (λ k. b < k) (sym (last_is b cs)) last)

-- different places of a list of different cities
distinct_apart : (xs : List ℕ) (i j : ℕ) → AreDistinct xs → i < j → j < length xs → get_or xs i 0 ≡ get_or xs j 0 → ⊥
distinct_apart xs i j d less within e =
    let fresh = distinct_at xs j 0 d within in
    let there = has_at (take j xs) i 0 (simp length-take (omega arith)) in
    let same : get_or (take j xs) i 0 ≡ get_or xs j 0 = get_or-take j xs i 0 less ∙ e in
    let known : has (take j xs) (get_or xs j 0) ≡ true = subst (λ k. has (take j xs) k ≡ true) same there in cc

-- the tour from city 0 on, in its direction
forward : (tour f b : List ℕ) → tour ≡ f ++ 0 ∷ b → IsSameCycle tour (0 ∷ (b ++ f))
forward tour f b e = inl (f, 0 ∷ b, e, refl)

reverse_cons : (x : ℕ) (xs : List ℕ) → reverse (x ∷ xs) ≡ reverse xs ++ x ∷ []
reverse_cons x xs = reverse-append (x ∷ []) xs

-- and in the other direction
backward : (tour f b : List ℕ) → tour ≡ f ++ 0 ∷ b → IsSameCycle tour (0 ∷ reverse (b ++ f))
backward tour f b e = inr (
  reverse b,
  0 ∷ reverse f,
  ap reverse e ∙ reverse-append f (0 ∷ b) ∙ ap (λ xs. xs ++ reverse f) (reverse_cons 0 b) ∙ append_assoc (reverse b) (0 ∷ []) (reverse f),
  ap (λ xs. 0 ∷ xs) (reverse-append b f),
)

tour_of : List ℕ → Instance
tour_of tour = record { n = length tour; table = []; fixed = [] }

-- a form of the same cycle is a tour of as many cities
form_is_tour : (tour form : List ℕ) → IsWhole tour → IsSameCycle tour form → IsTour (length tour) form
unfolding tour_of
form_is_tour tour form whole same = (same_cycle_is_same_tour (tour_of tour) tour form (record { is_tour = whole.is_tour; holds_fixed = tt }) same).is_tour.is_tour

-- which of the two it is
faced : (tour f b : List ℕ) → IsWhole tour → tour ≡ f ++ 0 ∷ b
    → (t : Bool) → t ≡ ltb (get_or (b ++ f) (length (b ++ f) - 1) 0) (get_or (b ++ f) 0 0)
    → IsCanonicalForm tour (cond t (0 ∷ reverse (b ++ f)) (0 ∷ (b ++ f)))
faced tour f b whole e t test =
    let w = b ++ f in
    let is_tour = form_is_tour tour (0 ∷ w) whole (forward tour f b e) in
    let long : 2 ≤ length w = (let l = is_tour.all in let m = whole.many in omega arith) in
    elim t as (λ v. v ≡ ltb (get_or w (length w - 1) 0) (get_or w 0 0) → IsCanonicalForm tour (cond v (0 ∷ reverse w) (0 ∷ w))) [
      | true ↦ λ h.
          let less : get_or w (length w - 1) 0 < get_or w 0 0 = ltb-true _ _ (sym h) in
          let first = get_or-reverse w 0 0 (omega arith) in
          let last = get_or-reverse w (length w - 1) 0 (omega arith) in
          let l = length-reverse w in
          let all : length w - 1 - 0 ≡ length w - 1 = omega arith in
          let none : length w - 1 - (length w - 1) ≡ 0 = omega arith in
          record { same = backward tour f b e; canonical = is_canonical (reverse w) (omega arith) (rw (l, first, last, all, none) less) }
      | false ↦ λ h.
          let less = ltb-false _ _ (sym h) in
          let apart = distinct_apart w 0 (length w - 1) is_tour.distinct.1 (omega arith) (omega arith) in
          record { same = forward tour f b e; canonical = is_canonical w (omega arith) (omega (arith, apart)) }
    ] test

pub is_canonical_form : (tour form result : List ℕ) (p : ℕ) → IsWhole tour → p < length tour → get_or tour p 0 ≡ 0 → form ≡ drop p tour ++ take p tour
    → result ≡ cond (ltb (get_or form (length form - 1) 0) (get_or form 1 0)) (take 1 form ++ reverse (drop 1 form)) form
    → IsCanonicalForm tour result
is_canonical_form tour form result p whole within home turned facing =
    let f = take p tour in
    let b = drop (p + 1) tour in
    let w = b ++ f in
    let from_home : drop p tour ≡ 0 ∷ b = drop_more tour p 0 within ∙ ap (λ k. k ∷ b) home in
    let e : tour ≡ f ++ 0 ∷ b = sym (take-append-drop p tour) ∙ ap (λ xs. f ++ xs) from_home in
    let form_is : form ≡ 0 ∷ w = turned ∙ ap (λ xs. xs ++ f) from_home in
    let some : 1 ≤ length w = (
    let m = whole.many in let l = length-append b f in let d = length-drop (p + 1) tour in let t = length-take p tour in omega arith
    ) in
    let t = ltb (get_or (0 ∷ w) (length (0 ∷ w) - 1) 0) (get_or (0 ∷ w) 1 0) in
    let test : t ≡ ltb (get_or w (length w - 1) 0) (get_or w 0 0) = ap (λ k. ltb k (get_or w 0 0)) (last_behind 0 w some) in
    let is : result ≡ cond t (0 ∷ reverse w) (0 ∷ w) = subst
    (λ (xs : List ℕ). result ≡ cond (ltb (get_or xs (length xs - 1) 0) (get_or xs 1 0)) (take 1 xs ++ reverse (drop 1 xs)) xs)
    form_is facing in
    subst (IsCanonicalForm tour) (sym is) (faced tour f b whole e t test)

pub form_is_whole : (tour form : List ℕ) → IsWhole tour → IsCanonicalForm tour form → IsWhole form
form_is_whole tour form whole canonical =
    let is_tour = form_is_tour tour form whole canonical.same in
    let l : length form ≡ length tour = is_tour.all in
    record { many = rw l whole.many; few = rw l whole.few; is_tour = rw l is_tour }
