-- Lists of sets of cities: what tests over lists say of them.
use Rattle.std.proofs.Common.{◌≡◌, ℕ, ◌+◌, ◌<◌, ◌==◌, Bool, true, false, not, ◌||◌, List, [], ◌∷◌, ◌++◌, length, take, drop, get_or, set, subst, nat_lt, refl, sym, ap, ◌∙◌, arith, ltb, ◌↔◌, IsTrue, inl, inr}
use Rattle.std.specs.List.{list_any, list_all, AllByRecursion, All}
use Rattle.std.proofs.lemmas.Bool.Decides.{nat_tests}
use Rattle.std.proofs.lemmas.Bool.{false≢true, true≢false, and_parts, and_from, or_cases, or_parts, or_from, or_left, or_right, eq-eqb, ne_eqb, cases_eq, ltb-true, lt-ltb}
use Rattle.std.proofs.lemmas.List.{take_more, get_or-set_same, get_or-set_other, map-append, take-append-drop}
use Rattle.std.proofs.lemmas.List.Elements.{All-head, All-tail, All-cons, All-nil, All-from_recursion}
use Rattle.cyc.specs.CitySet.{Members}
use Rattle.tspdef.specs.Sets.{has, RisesFrom, IsSet, meet, leaves, meets_any, AreDisjoint}
use Rattle.cutform.specs.Cut.{cities_of_each}
use Rattle.cutform.specs.Combs.{any_two_meet, EachLeaves, EachEnters}

or_false : (b : Bool) → (b || false) ≡ b
or_false true = refl
or_false false = refl

or_assoc : (a b c : Bool) → (a || (b || c)) ≡ ((a || b) || c)
or_assoc true b c = refl
or_assoc false b c = refl

pub has-push : (xs : List ℕ) (x k : ℕ) → has (xs ++ x ∷ []) k ≡ (has xs k || (x == k))
has-push [] x k = grind (arith, nat_tests)
has-push (y ∷ ys) x k = let e = has-push ys x k in grind (arith, nat_tests)

-- a test of two lists is one over the elements of the first
pub meet-any : (t h : List ℕ) → list_any (λ c. has h c) t ≡ meet t h
meet-any [] h = refl
meet-any (c ∷ cs) h = ap (λ b. has h c || b) (meet-any cs h)

pub leaves-any : (t h : List ℕ) → list_any (λ c. not (has h c)) t ≡ leaves t h
leaves-any [] h = refl
leaves-any (c ∷ cs) h = ap (λ b. not (has h c) || b) (leaves-any cs h)

pub list_any-same : (f g : ℕ → Bool) (e : (c : ℕ) → f c ≡ g c) (xs : List ℕ) → list_any f xs ≡ list_any g xs
list_any-same f g e [] = refl
list_any-same f g e (x ∷ xs) = ap (λ b. b || list_any f xs) (e x) ∙ ap (λ b. g x || b) (list_any-same f g e xs)

-- a set of m cities is one of n cities exactly where each city is below n
pub below-rises : (n m k : ℕ) (s : List ℕ) → RisesFrom m k s → list_all (λ c. nat_lt c n) s ≡ true → RisesFrom n k s
below-rises n m k [] r e = tt
below-rises n m k (c ∷ cs) r e =
    let p = and_parts (ltb c n) (list_all (λ x. ltb x n) cs) e in
    ((r.0.0, ltb-true c n p.0), below-rises n m (c + 1) cs r.1 p.1)

pub rises-below : (n k : ℕ) (s : List ℕ) → RisesFrom n k s → list_all (λ c. nat_lt c n) s ≡ true
rises-below n k [] r = refl
rises-below n k (c ∷ cs) r = and_from _ _ (lt-ltb c n r.0.1) (rises-below n (c + 1) cs r.1)

pub rises-each : (n k : ℕ) (s : List ℕ) → RisesFrom n k s → AllByRecursion (λ c. c < n) s
rises-each n k [] r = tt
rises-each n k (c ∷ cs) r = (r.0.1, rises-each n (c + 1) cs r.1)

pub rises-all : (n : ℕ) (s : List ℕ) → IsSet n s → All (λ c. c < n) s
rises-all n s r = All-from_recursion (λ c. c < n) s (rises-each n 0 s r)

-- what holds of each set, by places and by recursion over their lists of cities
pub each-from_all : (P : List ℕ → Type 0) (ts : List Members) → All (λ t. P t.cities) ts → AllByRecursion P (cities_of_each ts)
each-from_all P [] h = tt
each-from_all P (t ∷ ts) h = (All-head (λ (t : Members). P t.cities) t ts h, each-from_all P ts (All-tail (λ (t : Members). P t.cities) t ts h))

pub all_from-each : (P : List ℕ → Type 0) (ts : List Members) → AllByRecursion P (cities_of_each ts) → All (λ t. P t.cities) ts
all_from-each P [] h = All-nil (λ (t : Members). P t.cities)
all_from-each P (t ∷ ts) h = All-cons (λ (t : Members). P t.cities) t ts h.0 (all_from-each P ts h.1)

-- a test passes on each of the sets
pub each-test : (f : List ℕ → Bool) (g : Members → Bool) (e : (t : Members) → g t ≡ f t.cities) (ts : List Members) → list_all g ts ≡ true → AllByRecursion (λ s. f s ≡ true) (cities_of_each ts)
each-test f g e [] h = tt
each-test f g e (t ∷ ts) h =
    let p = and_parts (g t) (list_all g ts) h in
    (sym (e t) ∙ p.0, each-test f g e ts p.1)

pub each_test-not : (f : List ℕ → Bool) (g : Members → Bool) (e : (t : Members) → g t ≡ f t.cities) (ts : List Members) → list_all g ts ≡ false → AllByRecursion (λ s. f s ≡ true) (cities_of_each ts) → ⊥
each_test-not f g e [] h a = true≢false h
each_test-not f g e (t ∷ ts) h a = true≢false (sym (and_from (g t) (list_all g ts) (e t ∙ a.0) (list_all-each ts a.1)) ∙ h) where
  list_all-each : (us : List Members) → AllByRecursion (λ s. f s ≡ true) (cities_of_each us) → list_all g us ≡ true
  list_all-each [] b = refl
  list_all-each (u ∷ us) b = and_from (g u) (list_all g us) (e u ∙ b.0) (list_all-each us b.1)

-- one of the sets has the city
abbrev pub in_any : List (List ℕ) → ℕ → Bool
in_any [] c = false
in_any (s ∷ ss) c = has s c || in_any ss c

pub in_any-push : (ss : List (List ℕ)) (t : List ℕ) (c : ℕ) → in_any (ss ++ t ∷ []) c ≡ (in_any ss c || has t c)
in_any-push [] t c = or_false (has t c)
in_any-push (s ∷ ss) t c = ap (λ b. has s c || b) (in_any-push ss t c) ∙ or_assoc (has s c) (in_any ss c) (has t c)

-- meeting is symmetric
meet-nil : (t : List ℕ) → meet t [] ≡ false
meet-nil [] = refl
meet-nil (c ∷ cs) = meet-nil cs

swap_heads : (a a' b c d : Bool) → a ≡ a' → ((a || b) || (c || d)) ≡ ((a' || c) || (b || d))
swap_heads true a' b c d e = rw (sym e) refl
swap_heads false a' b c d e = rw (sym e) (elim b as (λ b. (b || (c || d)) ≡ (c || (b || d))) [ true ↦ elim c as (λ c. true ≡ (c || true)) [ true ↦ refl | false ↦ refl ] | false ↦ refl ])

eqb-sym : (x y : ℕ) → (x == y) ≡ (y == x)
eqb-sym x y = grind (arith, nat_tests)

meet-cons : (t : List ℕ) (c : ℕ) (cs : List ℕ) → meet t (c ∷ cs) ≡ (has t c || meet t cs)
meet-cons [] c cs = refl
meet-cons (d ∷ ds) c cs = ap (λ b. ((c == d) || has cs d) || b) (meet-cons ds c cs) ∙ swap_heads (c == d) (d == c) (has cs d) (has ds c) (meet ds cs) (eqb-sym c d)

pub meet-sym : (s t : List ℕ) → meet s t ≡ meet t s
meet-sym [] t = sym (meet-nil t)
meet-sym (c ∷ cs) t = ap (λ b. has t c || b) (meet-sym cs t) ∙ sym (meet-cons t c cs)

-- the sets that were marked and one more
or_four : (a b c d : Bool) → ((a || b) || (c || d)) ≡ ((a || c) || (b || d))
or_four a b c d = swap_heads a a b c d refl

any-two : (f g : ℕ → Bool) (xs : List ℕ) → list_any (λ c. f c || g c) xs ≡ (list_any f xs || list_any g xs)
any-two f g [] = refl
any-two f g (x ∷ xs) = ap (λ b. (f x || g x) || b) (any-two f g xs) ∙ or_four (f x) (g x) (list_any f xs) (list_any g xs)

none-any : (xs : List ℕ) → list_any (λ c. false) xs ≡ false
none-any [] = refl
none-any (x ∷ xs) = none-any xs

meets_any-push : (s : List ℕ) (ts : List (List ℕ)) (t : List ℕ) → meets_any s (ts ++ t ∷ []) ≡ (meets_any s ts || meet s t)
meets_any-push s [] t = or_false (meet s t)
meets_any-push s (u ∷ us) t = ap (λ b. meet s u || b) (meets_any-push s us t) ∙ or_assoc (meet s u) (meets_any s us) (meet s t)

-- of sets and one behind them two meet where two of the sets do, or where one of them has a city of the last
pub any_two-push : (ss : List (List ℕ)) (t : List ℕ) → any_two_meet (ss ++ t ∷ []) ≡ (any_two_meet ss || list_any (λ c. in_any ss c) t)
any_two-push [] t = sym (none-any t)
any_two-push (s ∷ ss) t =
    ap (λ b. b || any_two_meet (ss ++ t ∷ [])) (meets_any-push s ss t)
    ∙ (ap (λ b. (meets_any s ss || meet s t) || b) (any_two-push ss t)
    ∙ (or_four (meets_any s ss) (meet s t) (any_two_meet ss) (list_any (λ c. in_any ss c) t)
    ∙ ap (λ b. (meets_any s ss || any_two_meet ss) || b) (sym (any-two (λ c. has s c) (λ c. in_any ss c) t ∙ ap (λ b. b || list_any (λ c. in_any ss c) t) (meet-any t s ∙ meet-sym t s)))))

pub meets_any-append : (s : List ℕ) (front back : List (List ℕ)) → meets_any s front ≡ true → meets_any s (front ++ back) ≡ true
meets_any-append s [] back e = absurd (false≢true e)
meets_any-append s (a ∷ front) back e =
    elim (or_cases (meet s a) (meets_any s front) e) [ inl h ↦ or_left _ _ h | inr h ↦ or_right _ _ (meets_any-append s front back h) ]

pub any_two-append : (front back : List (List ℕ)) → any_two_meet front ≡ true → any_two_meet (front ++ back) ≡ true
any_two-append [] back e = absurd (false≢true e)
any_two-append (a ∷ front) back e =
    elim (or_cases (meets_any a front) (any_two_meet front) e) [ inl h ↦ or_left _ _ (meets_any-append a front back h) | inr h ↦ or_right _ _ (any_two-append front back h) ]

pub disjoint-from_none : (ss : List (List ℕ)) → any_two_meet ss ≡ false → AreDisjoint ss
disjoint-from_none [] e = tt
disjoint-from_none (s ∷ ss) e = let p = or_parts (meets_any s ss) (any_two_meet ss) e in (p.0, disjoint-from_none ss p.1)

pub disjoint_not-from_some : (ss : List (List ℕ)) → any_two_meet ss ≡ true → AreDisjoint ss → ⊥
disjoint_not-from_some [] e d = false≢true e
disjoint_not-from_some (s ∷ ss) e d =
    elim (or_cases (meets_any s ss) (any_two_meet ss) e) [ inl h ↦ false≢true (sym d.0 ∙ h) | inr h ↦ disjoint_not-from_some ss h d.1 ]

-- marks on one city more
pub marked-set : (marks : List Bool) (i k : ℕ) → i < length marks → get_or (set marks i true) k false ≡ (get_or marks k false || (i == k))
marked-set marks i k h = elim (cases_eq i k) [
  | inl e ↦ subst (λ x. get_or (set marks i true) x false ≡ (get_or marks x false || (i == x))) e (get_or-set_same' ∙ sym (or_right _ _ (eq-eqb i i refl)))
  | inr ne ↦ get_or-set_other marks i k true false (λ e. ne (sym e)) ∙ (sym (or_false (get_or marks k false)) ∙ ap (λ b. get_or marks k false || b) (sym (ne_eqb i k ne)))
] where
  get_or-set_same' : get_or (set marks i true) i false ≡ true
  get_or-set_same' = get_or-set_same marks i true false h

pub marked-more : (old marks : List Bool) (xs : List ℕ) (i k : ℕ) → i < length xs → get_or xs i 0 < length marks
    → get_or marks k false ≡ (get_or old k false || has (take i xs) k)
    → get_or (set marks (get_or xs i 0) true) k false ≡ (get_or old k false || has (take (i + 1) xs) k)
marked-more old marks xs i k h within e =
    let x = get_or xs i 0 in
    marked-set marks x k within
    ∙ (ap (λ b. b || (x == k)) e
    ∙ (sym (or_assoc (get_or old k false) (has (take i xs) k) (x == k))
    ∙ ap (λ b. get_or old k false || b) (sym (ap (λ ys. has ys k) (take_more xs i 0 h) ∙ has-push (take i xs) x k))))

-- the cities of the sets up to the next one
pub cities-more : (ts : List Members) (i : ℕ) (t : Members) → i < length ts → t ≡ get_or ts i t → cities_of_each (take (i + 1) ts) ≡ cities_of_each (take i ts) ++ t.cities ∷ []
cities-more ts i t h e =
    ap cities_of_each (take_more ts i t h ∙ ap (λ u. take i ts ++ u ∷ []) (sym e)) ∙ map-append (λ (s : Members). s.cities) (take i ts) (t ∷ [])

-- the next set after those whose cities are marked: whether it has a marked city, and what is marked with it
module _ (marks : List Bool) (ts : List Members) (i : ℕ) (t : Members) (here : i < length ts) (is : t ≡ get_or ts i t) (marked : (c : ℕ) → get_or marks c false ≡ in_any (cities_of_each (take i ts)) c) where
  pub marked-next : (new : List Bool) (c : ℕ) → get_or new c false ≡ (get_or marks c false || has t.cities c) → get_or new c false ≡ in_any (cities_of_each (take (i + 1) ts)) c
  marked-next new c e =
      e ∙ (ap (λ b. b || has t.cities c) (marked c) ∙ (sym (in_any-push (cities_of_each (take i ts)) t.cities c) ∙ sym (ap (λ ss. in_any ss c) (cities-more ts i t here is))))

  next-meets : any_two_meet (cities_of_each (take (i + 1) ts)) ≡ (any_two_meet (cities_of_each (take i ts)) || list_any (λ c. get_or marks c false) t.cities)
  next-meets =
      ap any_two_meet (cities-more ts i t here is)
      ∙ (any_two-push (cities_of_each (take i ts)) t.cities
      ∙ ap (λ b. any_two_meet (cities_of_each (take i ts)) || b) (sym (list_any-same (λ c. get_or marks c false) (λ c. in_any (cities_of_each (take i ts)) c) marked t.cities)))

  pub apart-next : any_two_meet (cities_of_each (take i ts)) ≡ false → list_any (λ c. get_or marks c false) t.cities ≡ false → any_two_meet (cities_of_each (take (i + 1) ts)) ≡ false
  apart-next apart none = next-meets ∙ or_from _ _ apart none

  pub next-meets_one : list_any (λ c. get_or marks c false) t.cities ≡ true → any_two_meet (cities_of_each ts) ≡ true
  next-meets_one one =
      let front = next-meets ∙ or_right _ _ one in
      subst (λ us. any_two_meet (cities_of_each us) ≡ true) (take-append-drop (i + 1) ts)
      (subst (λ ss. any_two_meet ss ≡ true) (sym (map-append (λ (s : Members). s.cities) (take (i + 1) ts) (drop (i + 1) ts)))
      (any_two-append (cities_of_each (take (i + 1) ts)) (cities_of_each (drop (i + 1) ts)) front))

-- what a test of all the sets answers
pub each-decided : (f : List ℕ → Bool) (g : Members → Bool) (e : (t : Members) → g t ≡ f t.cities) (ts : List Members) (r : Bool) → r ≡ list_all g ts → IsTrue r ↔ AllByRecursion (λ s. f s ≡ true) (cities_of_each ts)
each-decided f g e ts true h = (λ x. each-test f g e ts (sym h), λ a. refl)
each-decided f g e ts false h = (λ x. absurd (false≢true x), λ a. absurd (each_test-not f g e ts (sym h) a))

pub enters-decided : (handle : List ℕ) (ts : List Members) (r : Bool) → r ≡ list_all (λ t. list_any (λ c. has handle c) t.cities) ts → IsTrue r ↔ EachEnters handle (cities_of_each ts)
enters-decided handle ts r h = each-decided (λ s. meet s handle) (λ (t : Members). list_any (λ c. has handle c) t.cities) (λ t. meet-any t.cities handle) ts r h

pub leaves-decided : (handle : List ℕ) (ts : List Members) (r : Bool) → r ≡ list_all (λ t. list_any (λ c. not (has handle c)) t.cities) ts → IsTrue r ↔ EachLeaves handle (cities_of_each ts)
leaves-decided handle ts r h = each-decided (λ s. leaves s handle) (λ (t : Members). list_any (λ c. not (has handle c)) t.cities) (λ t. leaves-any t.cities handle) ts r h

pub disjoint-decided : (ss : List (List ℕ)) (r : Bool) → r ≡ any_two_meet ss → IsTrue (not r) ↔ AreDisjoint ss
disjoint-decided ss true h = (λ x. absurd (false≢true x), λ d. absurd (disjoint_not-from_some ss (sym h) d))
disjoint-decided ss false h = (λ x. disjoint-from_none ss (sym h), λ d. refl)
