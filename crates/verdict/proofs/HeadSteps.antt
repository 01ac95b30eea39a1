-- a line of the head, forth and back
use Rattle.std.proofs.Common.{◌≡◌, ℕ, Bool, true, false, cond, List, [], ◌∷◌, refl, sym, ap, ◌∙◌, subst}
use Rattle.std.specs.Prelude.{◌==◌}
use Rattle.certdef.specs.Items.{Item, title_line, size_line, length_line, bound_line, tour_line, cuts_line, subtour_line, comb_line, handle_line, tooth_line, odd_line, pair_line, edge_line, clique_line, leaf_line, city_line, cut_line, condition_line, open_line}
use Rattle.certdef.specs.Tests.{Tests}
use Rattle.certdef.specs.Verdicts.{Head, wants_length, wants_bound, wants_tour, wants_count, go, refused, on_title, on_size, on_length, on_bound, on_tour, on_count}
use Rattle.verdict.proofs.Left.{CutsLeft, CountLeft, TourLeft, BoundLeft, LengthThen, LengthLeft, SizeLeft, TitleLeft, LeftOf}
use Rattle.verdict.proofs.CutSteps.{passed, passed_on, passes, cuts_forth, cuts_back}

pub on_title_forth : (j : Tests) (l : ℕ × ℕ) (at : ℕ) (x : Item) (xs : List Item) → TitleLeft j l (x ∷ xs) → LeftOf j l (on_title at x) xs
on_title_forth j l at x xs k =
    let said = k.said in
    let head : title_line k.version ≡ x = cc in
    let tail : k.rest ≡ xs = cc in
    subst (λ y. LeftOf j l (on_title at y) xs) head (subst (λ r. SizeLeft j k.version l r) tail k.left)

pub on_title_back : (j : Tests) (l : ℕ × ℕ) (at : ℕ) (x : Item) (xs : List Item) → LeftOf j l (on_title at x) xs → TitleLeft j l (x ∷ xs)
on_title_back j l at (title_line z) xs k = record { version = z; rest = xs; said = refl; left = k }
on_title_back j l at (size_line z) xs k = absurd k
on_title_back j l at (length_line z) xs k = absurd k
on_title_back j l at (bound_line z) xs k = absurd k
on_title_back j l at (tour_line cs) xs k = absurd k
on_title_back j l at (cuts_line z) xs k = absurd k
on_title_back j l at (subtour_line q) xs k = absurd k
on_title_back j l at (comb_line z) xs k = absurd k
on_title_back j l at (handle_line q) xs k = absurd k
on_title_back j l at (tooth_line q) xs k = absurd k
on_title_back j l at (odd_line z) xs k = absurd k
on_title_back j l at (pair_line u v) xs k = absurd k
on_title_back j l at (edge_line u v) xs k = absurd k
on_title_back j l at (clique_line q) xs k = absurd k
on_title_back j l at (leaf_line x y z) xs k = absurd k
on_title_back j l at (city_line v w) xs k = absurd k
on_title_back j l at (cut_line y z) xs k = absurd k
on_title_back j l at (condition_line y z) xs k = absurd k
on_title_back j l at open_line xs k = absurd k

pub on_size_forth : (j : Tests) (l : ℕ × ℕ) (v at : ℕ) (x : Item) (xs : List Item) → SizeLeft j v l (x ∷ xs) → LeftOf j l (on_size j v at x) xs
on_size_forth j l v at x xs k =
    let said = k.said in
    let head : size_line k.cities ≡ x = cc in
    let tail : k.rest ≡ xs = cc in
    subst (λ y. LeftOf j l (on_size j v at y) xs) head (passes j l (j.size k.cities) (go (wants_length v)) (refused 2 at) xs k.same (subst (λ r. LengthLeft j v l r) tail k.left))

pub on_size_back : (j : Tests) (l : ℕ × ℕ) (v at : ℕ) (x : Item) (xs : List Item) → LeftOf j l (on_size j v at x) xs → SizeLeft j v l (x ∷ xs)
on_size_back j l v at (size_line z) xs k =
    let p = passed j l (j.size z) (wants_length v) 2 at xs k in
    record { cities = z; rest = xs; said = refl; same = p.0; left = p.1 }
on_size_back j l v at (title_line z) xs k = absurd k
on_size_back j l v at (length_line z) xs k = absurd k
on_size_back j l v at (bound_line z) xs k = absurd k
on_size_back j l v at (tour_line cs) xs k = absurd k
on_size_back j l v at (cuts_line z) xs k = absurd k
on_size_back j l v at (subtour_line q) xs k = absurd k
on_size_back j l v at (comb_line z) xs k = absurd k
on_size_back j l v at (handle_line q) xs k = absurd k
on_size_back j l v at (tooth_line q) xs k = absurd k
on_size_back j l v at (odd_line z) xs k = absurd k
on_size_back j l v at (pair_line u w) xs k = absurd k
on_size_back j l v at (edge_line u w) xs k = absurd k
on_size_back j l v at (clique_line q) xs k = absurd k
on_size_back j l v at (leaf_line x y z) xs k = absurd k
on_size_back j l v at (city_line c w) xs k = absurd k
on_size_back j l v at (cut_line y z) xs k = absurd k
on_size_back j l v at (condition_line y z) xs k = absurd k
on_size_back j l v at open_line xs k = absurd k

then_forth : (j : Tests) (l : ℕ × ℕ) (b : Bool) (xs : List Item) → LengthThen j b l xs → LeftOf j l (cond b (go (wants_tour l.0 l.0)) (go (wants_bound l.0))) xs
then_forth j l true xs (e, k) = (ap (λ r. (l.0, r)) (sym e), subst (λ r. TourLeft j (l.0, r) xs) e k)
then_forth j l false xs k = (refl, k)

then_back : (j : Tests) (l : ℕ × ℕ) (m : ℕ) (b : Bool) (xs : List Item) → LeftOf j l (cond b (go (wants_tour m m)) (go (wants_bound m))) xs → (m ≡ l.0) × LengthThen j b l xs
then_back j l m true xs (e, k) = (ap (λ r. r.0) e, (sym (ap (λ r. r.1) e) ∙ ap (λ r. r.0) e, subst (λ r. TourLeft j r xs) e k))
then_back j l m false xs (e, k) = (e, subst (λ r. BoundLeft j r l.1 xs) e k)

pub on_length_forth : (j : Tests) (l : ℕ × ℕ) (v at : ℕ) (x : Item) (xs : List Item) → LengthLeft j v l (x ∷ xs) → LeftOf j l (on_length v at x) xs
on_length_forth j l v at x xs k =
    let said = k.said in
    let head : length_line l.0 ≡ x = cc in
    let tail : k.rest ≡ xs = cc in
    subst (λ y. LeftOf j l (on_length v at y) xs) head (then_forth j l (v == 1) xs (subst (λ r. LengthThen j (v == 1) l r) tail k.left))

pub on_length_back : (j : Tests) (l : ℕ × ℕ) (v at : ℕ) (x : Item) (xs : List Item) → LeftOf j l (on_length v at x) xs → LengthLeft j v l (x ∷ xs)
on_length_back j l v at (length_line z) xs k =
    let b = then_back j l z (v == 1) xs k in
    record { rest = xs; said = ap (λ r. length_line r ∷ xs) b.0; left = b.1 }
on_length_back j l v at (title_line z) xs k = absurd k
on_length_back j l v at (size_line z) xs k = absurd k
on_length_back j l v at (bound_line z) xs k = absurd k
on_length_back j l v at (tour_line cs) xs k = absurd k
on_length_back j l v at (cuts_line z) xs k = absurd k
on_length_back j l v at (subtour_line q) xs k = absurd k
on_length_back j l v at (comb_line z) xs k = absurd k
on_length_back j l v at (handle_line q) xs k = absurd k
on_length_back j l v at (tooth_line q) xs k = absurd k
on_length_back j l v at (odd_line z) xs k = absurd k
on_length_back j l v at (pair_line u w) xs k = absurd k
on_length_back j l v at (edge_line u w) xs k = absurd k
on_length_back j l v at (clique_line q) xs k = absurd k
on_length_back j l v at (leaf_line x y z) xs k = absurd k
on_length_back j l v at (city_line c w) xs k = absurd k
on_length_back j l v at (cut_line y z) xs k = absurd k
on_length_back j l v at (condition_line y z) xs k = absurd k
on_length_back j l v at open_line xs k = absurd k

pub on_bound_forth : (j : Tests) (l : ℕ × ℕ) (m at : ℕ) (x : Item) (xs : List Item) → m ≡ l.0 → BoundLeft j m l.1 (x ∷ xs) → LeftOf j l (on_bound j m at x) xs
on_bound_forth j l m at x xs e k =
    let said = k.said in
    let head : bound_line l.1 ≡ x = cc in
    let tail : k.rest ≡ xs = cc in
    subst (λ y. LeftOf j l (on_bound j m at y) xs) head (passes j l (j.below l.1 m) (go (wants_tour m l.1)) (refused 11 at) xs k.below (ap (λ r. (r, l.1)) e, subst (λ r. TourLeft j (m, l.1) r) tail k.left))

pub on_bound_back : (j : Tests) (l : ℕ × ℕ) (m at : ℕ) (x : Item) (xs : List Item) → LeftOf j l (on_bound j m at x) xs → (m ≡ l.0) × BoundLeft j m l.1 (x ∷ xs)
on_bound_back j l m at (bound_line z) xs k =
    let p = passed j l (j.below z m) (wants_tour m z) 11 at xs k in
    let e : z ≡ l.1 = ap (λ r. r.1) p.1.0 in
    (ap (λ r. r.0) p.1.0, record { rest = xs; said = ap (λ r. bound_line r ∷ xs) e; below = subst (λ r. j.below r m ≡ true) e p.0; left = subst (λ r. TourLeft j (m, r) xs) e p.1.1 })
on_bound_back j l m at (title_line z) xs k = absurd k
on_bound_back j l m at (size_line z) xs k = absurd k
on_bound_back j l m at (length_line z) xs k = absurd k
on_bound_back j l m at (tour_line cs) xs k = absurd k
on_bound_back j l m at (cuts_line z) xs k = absurd k
on_bound_back j l m at (subtour_line q) xs k = absurd k
on_bound_back j l m at (comb_line z) xs k = absurd k
on_bound_back j l m at (handle_line q) xs k = absurd k
on_bound_back j l m at (tooth_line q) xs k = absurd k
on_bound_back j l m at (odd_line z) xs k = absurd k
on_bound_back j l m at (pair_line u v) xs k = absurd k
on_bound_back j l m at (edge_line u v) xs k = absurd k
on_bound_back j l m at (clique_line q) xs k = absurd k
on_bound_back j l m at (leaf_line x y z) xs k = absurd k
on_bound_back j l m at (city_line v w) xs k = absurd k
on_bound_back j l m at (cut_line y z) xs k = absurd k
on_bound_back j l m at (condition_line y z) xs k = absurd k
on_bound_back j l m at open_line xs k = absurd k

pub on_tour_forth : (j : Tests) (l : ℕ × ℕ) (m b at : ℕ) (x : Item) (xs : List Item) → (m, b) ≡ l → TourLeft j (m, b) (x ∷ xs) → LeftOf j l (on_tour j m b at x) xs
on_tour_forth j l m b at x xs e k =
    let said = k.said in
    let head : tour_line k.cities ≡ x = cc in
    let tail : k.rest ≡ xs = cc in
    subst (λ y. LeftOf j l (on_tour j m b at y) xs) head
    (passes j l (j.tour k.cities) (cond (j.has_length k.cities m) (go (wants_count m b)) (refused 4 at)) (refused 3 at) xs k.is_tour
    (passes j l (j.has_length k.cities m) (go (wants_count m b)) (refused 4 at) xs k.long (e, subst (λ r. CountLeft j (m, b) r) tail k.left)))

pub on_tour_back : (j : Tests) (l : ℕ × ℕ) (m b at : ℕ) (x : Item) (xs : List Item) → LeftOf j l (on_tour j m b at x) xs → ((m, b) ≡ l) × TourLeft j (m, b) (x ∷ xs)
on_tour_back j l m b at (tour_line zs) xs k =
    let p = passed_on j l (j.tour zs) (cond (j.has_length zs m) (go (wants_count m b)) (refused 4 at)) 3 at xs k in
    let q = passed j l (j.has_length zs m) (wants_count m b) 4 at xs p.1 in
    (q.1.0, record { cities = zs; rest = xs; said = refl; is_tour = p.0; long = q.0; left = q.1.1 })
on_tour_back j l m b at (title_line z) xs k = absurd k
on_tour_back j l m b at (size_line z) xs k = absurd k
on_tour_back j l m b at (length_line z) xs k = absurd k
on_tour_back j l m b at (bound_line z) xs k = absurd k
on_tour_back j l m b at (cuts_line z) xs k = absurd k
on_tour_back j l m b at (subtour_line q) xs k = absurd k
on_tour_back j l m b at (comb_line z) xs k = absurd k
on_tour_back j l m b at (handle_line q) xs k = absurd k
on_tour_back j l m b at (tooth_line q) xs k = absurd k
on_tour_back j l m b at (odd_line z) xs k = absurd k
on_tour_back j l m b at (pair_line u v) xs k = absurd k
on_tour_back j l m b at (edge_line u v) xs k = absurd k
on_tour_back j l m b at (clique_line q) xs k = absurd k
on_tour_back j l m b at (leaf_line x y z) xs k = absurd k
on_tour_back j l m b at (city_line v w) xs k = absurd k
on_tour_back j l m b at (cut_line y z) xs k = absurd k
on_tour_back j l m b at (condition_line y z) xs k = absurd k
on_tour_back j l m b at open_line xs k = absurd k

pub on_count_forth : (j : Tests) (l : ℕ × ℕ) (m b at : ℕ) (x : Item) (xs : List Item) → (m, b) ≡ l → CountLeft j (m, b) (x ∷ xs) → LeftOf j l (on_count j m b at x) xs
on_count_forth j l m b at x xs e k =
    let said = k.said in
    let head : cuts_line k.cuts ≡ x = cc in
    let tail : k.rest ≡ xs = cc in
    let h : Head = record { long = m; bound = b; cuts = [] } in
    subst (λ y. LeftOf j l (on_count j m b at y) xs) head (cuts_forth j l h k.cuts xs e (subst (λ r. CutsLeft j h k.cuts r) tail k.left))

pub on_count_back : (j : Tests) (l : ℕ × ℕ) (m b at : ℕ) (x : Item) (xs : List Item) → LeftOf j l (on_count j m b at x) xs → ((m, b) ≡ l) × CountLeft j (m, b) (x ∷ xs)
on_count_back j l m b at (cuts_line z) xs k =
    let p = cuts_back j l (record { long = m; bound = b; cuts = [] }) z xs k in
    (p.0, record { cuts = z; rest = xs; said = refl; left = p.1 })
on_count_back j l m b at (title_line z) xs k = absurd k
on_count_back j l m b at (size_line z) xs k = absurd k
on_count_back j l m b at (length_line z) xs k = absurd k
on_count_back j l m b at (bound_line z) xs k = absurd k
on_count_back j l m b at (tour_line cs) xs k = absurd k
on_count_back j l m b at (subtour_line q) xs k = absurd k
on_count_back j l m b at (comb_line z) xs k = absurd k
on_count_back j l m b at (handle_line q) xs k = absurd k
on_count_back j l m b at (tooth_line q) xs k = absurd k
on_count_back j l m b at (odd_line z) xs k = absurd k
on_count_back j l m b at (pair_line u v) xs k = absurd k
on_count_back j l m b at (edge_line u v) xs k = absurd k
on_count_back j l m b at (clique_line q) xs k = absurd k
on_count_back j l m b at (leaf_line x y z) xs k = absurd k
on_count_back j l m b at (city_line v w) xs k = absurd k
on_count_back j l m b at (cut_line y z) xs k = absurd k
on_count_back j l m b at (condition_line y z) xs k = absurd k
on_count_back j l m b at open_line xs k = absurd k
