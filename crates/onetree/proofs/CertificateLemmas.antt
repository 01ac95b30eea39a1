-- The lines of certificates stand apart.
use Rattle.std.proofs.Common.{◌≡◌, ℕ, zero, suc, ◌-◌, ◌^◌, ◌<◌, ◌≤◌, true, List, [], ◌∷◌, ◌++◌, length, drop, take, Some, None, refl, sym, ap, ◌∙◌, arith, eqb}
use Rattle.std.specs.Prelude.{nat_le, nat_lt, slice_index, ℤ}
use Rattle.std.specs.List.{AllByRecursion}
use Rattle.std.proofs.lemmas.Bool.Decides.{nat_tests}
use Rattle.std.proofs.lemmas.List.{take_all, length-drop, append-nil}
use Rattle.std.proofs.lemmas.Fmt.{length-decimal-le}
use Rattle.certdef.specs.Items.{Item, size_line, bound_line, city_line, line, fits, item_of}
use Rattle.certdef.specs.Proofs.{ended}
use Rattle.verdict.proofs.Lines.{small_if, InLine, line_plain, item_said, item_again}
use Rattle.onetree.specs.Certificates.{Certificate, title, items, HasForm, StopsAt}
use Rattle.onetree.specs.Readings.{BeginsWith}

-- ---- lines end at their first line end

abbrev pub NoEnd : List ℕ → Type 0
NoEnd w = AllByRecursion (λ b. b ≡ 10 → ⊥) w

plain_ends : (w : List ℕ) → AllByRecursion InLine w → NoEnd w
plain_ends [] h = tt
plain_ends (b ∷ w) h = ((λ e. let low = h.0.0 in omega arith), plain_ends w h.1)

pub line_ends : (n : ℕ) (x : Item) → n < 2 ^ 32 → fits n x ≡ true → NoEnd (line x)
line_ends n x l f = plain_ends (line x) (line_plain x (small_if n x l f))

pub same_line : (w v xs ys : List ℕ) → NoEnd w → NoEnd v → ended w ++ xs ≡ ended v ++ ys → (w ≡ v) × (xs ≡ ys)
same_line [] [] xs ys h k e = (refl, cc)
same_line [] (b ∷ v) xs ys h k e = let same : b ≡ 10 = cc in absurd (k.0 same)
same_line (a ∷ w) [] xs ys h k e = let same : a ≡ 10 = cc in absurd (h.0 same)
same_line (a ∷ w) (b ∷ v) xs ys h k e =
    let head : a ≡ b = cc in
    let tail : ended w ++ xs ≡ ended v ++ ys = cc in
    let r = same_line w v xs ys h.1 k.1 tail in
    (ap (λ c. c ∷ w) head ∙ ap (λ u. b ∷ u) r.0, r.1)

same_option : (n : ℕ) (x y : Item) → Some x ≡ Some y → x ≡ y
same_option n x y e = cc

-- a text begins with one item
pub one_item : (n : ℕ) (text : List ℕ) (x y : Item) (xs ys : List ℕ) → n < 2 ^ 32 → BeginsWith n text x xs → BeginsWith n text y ys → (x ≡ y) × (xs ≡ ys)
one_item n text x y xs ys l h k =
    let r = same_line (line x) (line y) xs ys (line_ends n x l h.1) (line_ends n y l k.1) (sym h.0 ∙ k.0) in
    (same_option n x y (sym (item_again n x l h.1) ∙ ap (item_of n) r.0 ∙ item_again n y l k.1), r.1)

-- ---- a line of a text

ends_at : (text w : List ℕ) (k : ℕ) (rest : List ℕ) → NoEnd w → text ≡ ended w ++ rest → ((j : ℕ) → j < length text → slice_index text j ≡ 10 → ⊥) → ⊥
ends_at text [] k rest h e none = none 0 (rw e (omega arith)) (rw e refl)
ends_at text (b ∷ w) k rest h e none = ends_at (ended w ++ rest) w k rest h.1 refl (λ j l s. none (suc j) (rw e (omega arith)) (rw e s))

-- no line ends, so that no item stands there
pub no_line : (n : ℕ) (text : List ℕ) (x : Item) (more : List ℕ) → n < 2 ^ 32 → ((j : ℕ) → j < length text → slice_index text j ≡ 10 → ⊥) → BeginsWith n text x more → ⊥
no_line n text x more l none h = ends_at text (line x) 0 more (line_ends n x l h.1) h.0 none

front_ends : (text : List ℕ) (k : ℕ) → ((j : ℕ) → j < k → j < length text → slice_index text j ≡ 10 → ⊥) → NoEnd (take k text)
front_ends text zero h = tt
front_ends [] (suc k) h = tt
front_ends (b ∷ text) (suc k) h = ((λ e. h 0 (omega arith) (omega arith) e), front_ends text k (λ j l m e. h (suc j) (omega arith) (omega arith) e))

pub split_first : (text : List ℕ) (k : ℕ) → k < length text → slice_index text k ≡ 10 → text ≡ ended (take k text) ++ drop 1 (drop k text)
split_first [] k l e = absurd (omega arith)
split_first (b ∷ text) zero l e = ap (λ c. c ∷ text) e
split_first (b ∷ text) (suc k) l e = ap (λ t. b ∷ t) (split_first text k (omega arith) e)

-- the first line says nothing of the form
pub no_item_there : (n : ℕ) (text : List ℕ) (k : ℕ) (x : Item) (more : List ℕ) → n < 2 ^ 32 → k < length text → slice_index text k ≡ 10 → ((j : ℕ) → j < k → j < length text → slice_index text j ≡ 10 → ⊥)
    → item_of n (take k text) ≡ None → BeginsWith n text x more → ⊥
no_item_there n text k x more l in_text at before none h =
    let r = same_line (take k text) (line x) (drop 1 (drop k text)) more (front_ends text k before) (line_ends n x l h.1) (sym (split_first text k in_text at) ∙ h.0) in
    let e : None ≡ Some x = sym none ∙ ap (item_of n) r.0 ∙ item_again n x l h.1 in
    cc

pub is_line_end : (b : ℕ) → (eqb b 10) ≡ true → b ≡ 10
is_line_end b e = grind (arith, nat_tests)

pub line_end_is : (b : ℕ) → b ≡ 10 → (eqb b 10) ≡ true
line_end_is b e = grind (arith, nat_tests)

-- the item of the first line, as it is read
pub first_item : (n : ℕ) (text run tail : List ℕ) (k : ℕ) (x : Item) → run ≡ take k text → tail ≡ drop k text → k < length text → (eqb (slice_index text k) 10) ≡ true
    → Some x ≡ item_of n run → text ≡ ended (line x) ++ take (length tail - 1) (drop 1 tail)
first_item n text run tail k x e f l at is =
    let run_is : run ≡ line x = (item_said n run x (sym is)).0 in
    let rest : take (length tail - 1) (drop 1 tail) ≡ drop 1 (drop k text) = take_all (length tail - 1) (drop 1 tail) (rw (length-drop 1 tail) (omega arith)) ∙ ap (drop 1) f in
    split_first text k l (is_line_end (slice_index text k) at) ∙ (ap (λ w. ended w ++ drop 1 (drop k text)) (sym e ∙ run_is) ∙ ap (λ t. ended (line x) ++ t) (sym rest))

-- ---- certificates that have some first items

pub size_fits : (n : ℕ) → n ≤ 2000 → fits n (size_line n) ≡ true
size_fits n l =
    let a : nat_lt n (2 ^ 32) ≡ true = grind (arith, nat_tests) in
    let s = length-decimal-le 10 n (omega arith) (omega arith) (omega arith) in
    let b : nat_le (length (line (size_line n))) 16384 ≡ true = grind (arith, nat_tests) in
    rw (a, b) refl

pub bound_fits : (n b : ℕ) → b ≤ 2 ^ 42 → fits n (bound_line b) ≡ true
bound_fits n b l =
    let a : nat_le b (2 ^ 42) ≡ true = grind (arith, nat_tests) in
    let s = length-decimal-le 20 b (omega arith) (omega arith) (omega arith) in
    let c : nat_le (length (line (bound_line b))) 16384 ≡ true = grind (arith, nat_tests) in
    rw (a, c) refl

-- a certificate of these parts
abbrev pub certificate : ℕ → ℕ → List (ℕ × ℤ) → Certificate
certificate n b ps = record { cities = n; bound = b; duals = ps }

pub zero_form : (n : ℕ) → n ≤ 2000 → HasForm n (certificate n 0 [])
zero_form n l = record { fit = (size_fits n l, (bound_fits n 0 (omega arith), tt)); rise = refl }

-- ---- the first refusals

pub stops_at_size : (n : ℕ) (bytes behind : List ℕ) → n ≤ 2000 → bytes ≡ ended title ++ behind → ((m : ℕ) (more : List ℕ) → BeginsWith n behind (size_line m) more → ⊥) → StopsAt n bytes 2
stops_at_size n bytes behind l e none = record {
  before = [];
  rest = behind;
  whole = e;
  place = refl;
  begins = (certificate n 0 [], zero_form n l, refl, (items (certificate n 0 []), refl));
  stuck = λ c x later more f g h. let same : size_line c.cities ≡ x = cc in none c.cities more (g ∙ ap (λ y. ended (line y) ++ more) (sym same), f.fit.0);
  unfinished = λ c f g h. cc;
}

pub stops_at_bound : (n : ℕ) (bytes one two : List ℕ) → n ≤ 2000 → bytes ≡ ended title ++ one → BeginsWith n one (size_line n) two → ((b : ℕ) (more : List ℕ) → BeginsWith n two (bound_line b) more → ⊥) → StopsAt n bytes 3
stops_at_bound n bytes one two l e s none = record {
  before = size_line n ∷ [];
  rest = two;
  whole = e ∙ ap (λ r. ended title ++ r) (s.0 ∙ ap (λ r. r ++ two) (sym (append-nil (ended (line (size_line n))))));
  place = refl;
  begins = (certificate n 0 [], zero_form n l, refl, (bound_line 0 ∷ [], refl));
  stuck = λ c x later more f g h. let same : bound_line c.bound ≡ x = cc in none c.bound more (g ∙ ap (λ y. ended (line y) ++ more) (sym same), f.fit.1.0);
  unfinished = λ c f g h. cc;
}

pub same_city : (v w : ℕ) (x y : ℤ) → city_line v x ≡ city_line w y → v ≡ w
same_city v w x y e = cc
