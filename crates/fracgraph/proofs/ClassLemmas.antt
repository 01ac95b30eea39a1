-- The cities of one label, and the components that they are.
use Rattle.std.proofs.Common.{◌≡◌, ℕ, ◌<◌, ◌≤◌, ◌+◌, Bool, true, false, eqb, ◌||◌, List, [], ◌∷◌, ◌++◌, length, get_or, refl, sym, ap, subst, ◌∙◌, arith, ⊎_elim}
use Rattle.std.specs.Prelude.{slice_index}
use Rattle.std.specs.List.{AllByRecursion}
use Rattle.std.proofs.lemmas.Bool.{cases_eq, cases_lt, eq-eqb, ne_eqb, eqb-true, or_cases, or_left, or_right}
use Rattle.tspdef.specs.Sets.{has, RisesFrom}
use Rattle.cyc.specs.CitySet.{Members}
use Rattle.cyc.specs.Frac.{Values}
use Rattle.cyc.proofs.ListLemmas.{has-push, has_at}
use Rattle.fracgraph.specs.Components.{IsLinked, IsComponent, DoFirstsRise, first_city, is_in_any}
use Rattle.fracgraph.specs.Labels.{AreLabels, IsClass, IsFirst}

-- ---- cities one by one

set_push : (k m : ℕ) (xs : List ℕ) → m ≤ k → RisesFrom k m xs → RisesFrom (k + 1) m (xs ++ k ∷ [])
set_push k m [] le r = ((le, omega arith), tt)
set_push k m (x ∷ xs) le r = let a = r.0.0 in let b = r.0.1 in ((a, omega arith), set_push k (x + 1) xs (omega arith) r.1)

set_wider : (k n m : ℕ) (xs : List ℕ) → k ≤ n → RisesFrom k m xs → RisesFrom n m xs
set_wider k n m [] l r = tt
set_wider k n m (x ∷ xs) l r = let a = r.0.0 in let b = r.0.1 in ((a, omega arith), set_wider k n (x + 1) xs l r.1)

or_false : (b c : Bool) → b ≡ false → (b || c) ≡ c
or_false true c e = absurd cc
or_false false c e = refl

-- the next city has the label
pub class_push : (k : ℕ) (labels : List ℕ) (label : ℕ) (xs : List ℕ) → IsClass k labels label xs → slice_index labels k ≡ label → IsClass (k + 1) labels label (xs ++ k ∷ [])
class_push k labels label xs a t = record {
  set = set_push k 0 xs (omega arith) a.set;
  inside = λ j h. ⊎_elim
      (λ (e : j ≡ k). has-push xs k j ∙ (or_left (eqb k j) (has xs j) (eq-eqb k j (sym e)) ∙ sym (eq-eqb (slice_index labels j) label (ap (slice_index labels) e ∙ t))))
      (λ (ne : j ≡ k → ⊥). has-push xs k j ∙ (or_false (eqb k j) (has xs j) (ne_eqb k j (λ e. ne (sym e))) ∙ a.inside j (omega arith)))
      (cases_eq j k);
  outside = λ j h. has-push xs k j ∙ (or_false (eqb k j) (has xs j) (ne_eqb k j (omega arith)) ∙ a.outside j (omega arith));
}

-- none of the next cities has it
pub class_skip : (k m : ℕ) (labels : List ℕ) (label : ℕ) (xs : List ℕ) → k ≤ m → IsClass k labels label xs → ((c : ℕ) → k ≤ c → c < m → slice_index labels c ≡ label → ⊥)
    → IsClass m labels label xs
class_skip k m labels label xs l a f = record {
  set = set_wider k m 0 xs l a.set;
  inside = λ j h. ⊎_elim
      (λ (e : j < k). a.inside j e)
      (λ (p : k ≤ j). a.outside j p ∙ sym (ne_eqb (slice_index labels j) label (f j p h)))
      (cases_lt j k);
  outside = λ j h. a.outside j (omega arith);
}

-- ---- lists of cities

-- a rising list has no city below its start, and begins with its least
none_below : (n m c : ℕ) (xs : List ℕ) → RisesFrom n m xs → has xs c ≡ true → m ≤ c
none_below n m c [] r h = absurd cc
none_below n m c (x ∷ xs) r h =
    let a = r.0.0 in
    ⊎_elim
    (λ e. let same = eqb-true x c e in omega arith)
    (λ t. let later = none_below n (x + 1) c xs r.1 t in omega arith)
    (or_cases (eqb x c) (has xs c) h)

first_least : (n m c : ℕ) (xs : List ℕ) → RisesFrom n m xs → has xs c ≡ true → get_or xs 0 0 ≤ c
first_least n m c [] r h = absurd cc
first_least n m c (x ∷ xs) r h = none_below n x c (x ∷ xs) ((omega arith, r.0.1), r.1) h

-- a list with two cities is of length two at least
two_in : (xs : List ℕ) (u v : ℕ) → (u ≡ v → ⊥) → has xs u ≡ true → has xs v ≡ true → 2 ≤ length xs
two_in [] u v ne a b = absurd cc
two_in (x ∷ []) u v ne a b =
    let one : (c : ℕ) → has (x ∷ []) c ≡ true → x ≡ c = λ c h. ⊎_elim (λ e. eqb-true x c e) (λ f. absurd cc) (or_cases (eqb x c) false h) in
    absurd (ne (sym (one u a) ∙ one v b))
two_in (x ∷ y ∷ xs) u v ne a b = omega arith

-- ---- classes as components

class_in : (n : ℕ) (labels : List ℕ) (label : ℕ) (xs : List ℕ) (u : ℕ) → IsClass n labels label xs → has xs u ≡ true → (u < n) × (slice_index labels u ≡ label)
class_in n labels label xs u a h = ⊎_elim
    (λ (l : u < n). (l, eqb-true _ _ (sym (a.inside u l) ∙ h)))
    (λ (l : n ≤ u). let f = a.outside u l in absurd cc)
    (cases_lt u n)

class_has : (n : ℕ) (labels : List ℕ) (label : ℕ) (xs : List ℕ) (u : ℕ) → IsClass n labels label xs → u < n → slice_index labels u ≡ label → has xs u ≡ true
class_has n labels label xs u a l e = a.inside u l ∙ eq-eqb _ _ e

one_label : (x : Values) (low high : ℕ) (labels : List ℕ) (u v : ℕ) → AreLabels x low high x.entries labels → IsLinked x low high u v → slice_index labels u ≡ slice_index labels v
one_label x low high labels u v is link = is.each.linked u v link.u_below link.v_below link.above link.below

class_is_component : (x : Values) (low high : ℕ) (labels : List ℕ) (label : ℕ) (xs : List ℕ) → AreLabels x low high x.entries labels → IsClass x.n labels label xs → 2 ≤ length xs
    → IsComponent x low high (record { n = x.n; cities = xs })
class_is_component x low high labels label xs is a many = record {
  cities = refl;
  set = a.set;
  some = many;
  joined = λ u v p q.
      let r = class_in x.n labels label xs u a p in
      let s = class_in x.n labels label xs v a q in
      is.each.joined u v r.0 s.0 (r.1 ∙ sym s.1);
  closed = λ u v p link.
      let r = class_in x.n labels label xs u a p in
      class_has x.n labels label xs v a link.v_below (sym (one_label x low high labels u v is link) ∙ r.1);
}

some_in : (xs : List ℕ) (c : ℕ) → has xs c ≡ true → 0 < length xs
some_in [] c h = absurd cc
some_in (x ∷ xs) c h = omega arith

class_first : (x : Values) (low high : ℕ) (labels : List ℕ) (city : ℕ) (xs : List ℕ) → AreLabels x low high x.entries labels → IsClass x.n labels city xs → city < x.n → slice_index labels city ≡ city
    → get_or xs 0 0 ≡ city
class_first x low high labels city xs is a l own =
    let holds = class_has x.n labels city xs city a l own in
    let below = first_least x.n 0 city xs a.set holds in
    let first = class_in x.n labels city xs (get_or xs 0 0) a (has_at xs 0 0 (some_in xs city holds)) in
    let least = is.each.least (get_or xs 0 0) first.0 in
    let e = first.1 in
    omega arith

-- ---- components one by one

all_push : {X : Type 0} (P : X → Type 0) (xs : List X) (x : X) → AllByRecursion P xs → P x → AllByRecursion P (xs ++ x ∷ [])
all_push P [] x a h = (h, tt)
all_push P (y ∷ ys) x a h = (a.0, all_push P ys x a.1 h)

all_weaker : {X : Type 0} (P Q : X → Type 0) (xs : List X) → ((x : X) → P x → Q x) → AllByRecursion P xs → AllByRecursion Q xs
all_weaker P Q [] f a = tt
all_weaker P Q (y ∷ ys) f a = (f y a.0, all_weaker P Q ys f a.1)

rise_push : (sets : List Members) (s : Members) → DoFirstsRise sets → AllByRecursion (λ t. first_city t < first_city s) sets → DoFirstsRise (sets ++ s ∷ [])
rise_push [] s r b = (tt, tt)
rise_push (t ∷ ts) s r b = (all_push (λ w. first_city t < first_city w) ts s r.0 b.0, rise_push ts s r.1 b.1)

in_any_old : (sets : List Members) (s : Members) (c : ℕ) → is_in_any sets c ≡ true → is_in_any (sets ++ s ∷ []) c ≡ true
in_any_old [] s c h = absurd cc
in_any_old (t ∷ ts) s c h = ⊎_elim
    (λ a. or_left (has t.cities c) _ a)
    (λ b. or_right (has t.cities c) _ (in_any_old ts s c b))
    (or_cases (has t.cities c) (is_in_any ts c) h)

in_any_last : (sets : List Members) (s : Members) (c : ℕ) → has s.cities c ≡ true → is_in_any (sets ++ s ∷ []) c ≡ true
in_any_last [] s c h = or_left (has s.cities c) false h
in_any_last (t ∷ ts) s c h = or_right (has t.cities c) _ (in_any_last ts s c h)

-- the components whose least cities are below a city
pub record AreFound (x : Values) (low high : ℕ) (labels : List ℕ) (city : ℕ) (sets : List Members) : Type 0 where
  pub each : AllByRecursion (IsComponent x low high) sets
  pub rising : DoFirstsRise sets
  pub before : AllByRecursion (λ s. first_city s < city) sets
  pub all : (u v : ℕ) → IsLinked x low high u v → slice_index labels u < city → is_in_any sets u ≡ true

-- no linked city has the next city as its label
found_same : (x : Values) (low high : ℕ) (labels : List ℕ) (city : ℕ) (sets : List Members) → AreFound x low high labels city sets
    → ((u v : ℕ) → IsLinked x low high u v → slice_index labels u ≡ city → ⊥) → AreFound x low high labels (city + 1) sets
found_same x low high labels city sets f none = record {
  each = f.each;
  rising = f.rising;
  before = all_weaker _ _ sets (λ s l. omega arith) f.before;
  all = λ u v link l. ⊎_elim
      (λ e. absurd (none u v link e))
      (λ ne. f.all u v link (omega arith))
      (cases_eq (slice_index labels u) city);
}

-- the next city is the least of no class
pub found_other : (x : Values) (low high : ℕ) (labels : List ℕ) (city : ℕ) (sets : List Members) → AreLabels x low high x.entries labels → (slice_index labels city ≡ city → ⊥)
    → AreFound x low high labels city sets → AreFound x low high labels (city + 1) sets
found_other x low high labels city sets is ne f =
    found_same x low high labels city sets f (λ u v link e. ne (ap (slice_index labels) (sym e) ∙ (is.each.root u link.u_below ∙ e)))

-- or of one that is a single city
pub found_single : (x : Values) (low high : ℕ) (labels : List ℕ) (city next : ℕ) (sets : List Members) → AreLabels x low high x.entries labels → IsFirst x.n labels city (city + 1) next → x.n ≤ next
    → AreFound x low high labels city sets → AreFound x low high labels (city + 1) sets
found_single x low high labels city next sets is first past f =
    found_same x low high labels city sets f (λ u v link e.
    let other = sym (one_label x low high labels u v is link) ∙ e in
    link.apart (alone u link.u_below e ∙ sym (alone v link.v_below other)))
  where
    alone : (c : ℕ) → c < x.n → slice_index labels c ≡ city → c ≡ city
    alone c h e =
        let least = is.each.least c h in
        ⊎_elim
        (λ (l : c < city + 1). omega arith)
        (λ (l : city + 1 ≤ c). absurd (first.none c l (omega arith) e))
        (cases_lt c (city + 1))

-- or of a component
pub found_push : (x : Values) (low high : ℕ) (labels : List ℕ) (city next : ℕ) (xs : List ℕ) (sets : List Members) → AreLabels x low high x.entries labels → IsClass x.n labels city xs
    → IsFirst x.n labels city (city + 1) next → next < x.n → city < x.n → slice_index labels city ≡ city → AreFound x low high labels city sets → AreFound x low high labels (city + 1) (sets ++ record { n = x.n; cities = xs } ∷ [])
found_push x low high labels city next xs sets is a after within l own f =
    let later = after.after in
    let many = two_in xs city next (λ e. omega arith) (class_has x.n labels city xs city a l own) (class_has x.n labels city xs next a within (after.same within)) in
    let s : Members = record { n = x.n; cities = xs } in
    let first : first_city s ≡ city = class_first x low high labels city xs is a l own in
    record {
      each = all_push (IsComponent x low high) sets s f.each (class_is_component x low high labels city xs is a many);
      rising = rise_push sets s f.rising (subst (λ k. AllByRecursion (λ t. first_city t < k) sets) (sym first) f.before);
      before = all_push (λ t. first_city t < city + 1) sets s (all_weaker _ _ sets (λ t l. omega arith) f.before) (omega arith);
      all = λ u v link h. ⊎_elim
          (λ e. in_any_last sets s u (class_has x.n labels city xs u a link.u_below e))
          (λ ne. in_any_old sets s u (f.all u v link (omega arith)))
          (cases_eq (slice_index labels u) city);
    }
