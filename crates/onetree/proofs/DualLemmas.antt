-- Lines of duals, read one by one.
use Rattle.std.proofs.Common.{◌≡◌, ℕ, zero, suc, ◌+◌, ◌-◌, ◌^◌, ◌<◌, ◌≤◌, true, cond, ◌&&◌, List, [], ◌∷◌, ◌++◌, length, map, set, refl, sym, ap, subst, ◌∙◌, arith, append_assoc, eqb, ⊎_elim}
use Rattle.std.specs.Prelude.{nat_le, nat_lt, ℤ, pos, nat_abs}
use Rattle.std.specs.List.{AllByRecursion}
use Rattle.std.proofs.lemmas.Bool.{cond-true, cond-false, cases_eq, eq-eqb, ne_eqb, and_parts}
use Rattle.std.proofs.lemmas.Bool.Decides.{nat_tests}
use Rattle.std.proofs.lemmas.List.{append-nil, map-append}
use Rattle.certdef.specs.Items.{Item, city_line, line, fits, in_bounds, rises}
use Rattle.certdef.specs.Proofs.{city_item, ended}
use Rattle.certdef.specs.Accepted.{dual_of, duals_from}
use Rattle.onetree.specs.OneTrees.{AreDuals}
use Rattle.onetree.specs.Ascents.{zeros}
use Rattle.onetree.specs.Certificates.{said, AreRising}
use Rattle.onetree.specs.Readings.{BeginsWith, next_city}
use Rattle.onetree.proofs.LineLemmas.{said-append}

-- what the form of a line says
pub record IsDualOf (n v : ℕ) (y : ℤ) : Type 0 where
  pub some : 1 ≤ v
  pub within : v ≤ n
  pub size : nat_abs y ≤ 2 ^ 62

pub city_form : (n v : ℕ) (y : ℤ) → fits n (city_line v y) ≡ true → IsDualOf n v y
city_form n v y f =
    let a = and_parts (in_bounds n (city_line v y)) _ f in
    let b = and_parts (nat_lt 0 v && nat_le v n) _ a.0 in
    let d = and_parts (nat_lt 0 v) (nat_le v n) b.0 in
    let e = and_parts (nat_lt 0 (nat_abs y)) (nat_le (nat_abs y) (2 ^ 62)) b.1 in
    let d0 = d.0 in
    let d1 = d.1 in
    let e1 = e.1 in
    record { some = grind (arith, nat_tests); within = grind (arith, nat_tests); size = grind (arith, nat_tests) }

-- ---- rising cities

no_lower : (from n : ℕ) (ps : List (ℕ × ℤ)) → rises from n (map (λ p. p.0) ps) ≡ true → from ≤ next_city from ps
no_lower from n [] h = omega arith
no_lower from n (p ∷ ps) h =
    let a = and_parts (nat_le from p.0 && nat_le p.0 n) _ h in
    let b = and_parts (nat_le from p.0) (nat_le p.0 n) a.0 in
    let low : from ≤ p.0 = let b0 = b.0 in grind (arith, nat_tests) in
    let more = no_lower (p.0 + 1) n ps a.1 in
    omega arith

rise_pushed : (from n : ℕ) (ps : List (ℕ × ℤ)) (v : ℕ) (y : ℤ) → rises from n (map (λ p. p.0) ps) ≡ true → next_city from ps ≤ v → v ≤ n → rises from n (map (λ p. p.0) (ps ++ (v, y) ∷ [])) ≡ true
rise_pushed from n [] v y h l m =
    let a : nat_le from v ≡ true = grind (arith, nat_tests) in
    let b : nat_le v n ≡ true = grind (arith, nat_tests) in
    rw (a, b) refl
rise_pushed from n (p ∷ ps) v y h l m =
    let a = and_parts (nat_le from p.0 && nat_le p.0 n) _ h in
    let ih = rise_pushed (p.0 + 1) n ps v y a.1 l m in
    rw (a.0, ih) refl

pub next_pushed : (from : ℕ) (ps : List (ℕ × ℤ)) (v : ℕ) (y : ℤ) → next_city from (ps ++ (v, y) ∷ []) ≡ v + 1
next_pushed from [] v y = refl
next_pushed from (p ∷ ps) v y = next_pushed (p.0 + 1) ps v y

rise_last : (from n : ℕ) (ps : List (ℕ × ℤ)) (v : ℕ) (y : ℤ) → rises from n (map (λ p. p.0) (ps ++ (v, y) ∷ [])) ≡ true → next_city from ps ≤ v
rise_last from n [] v y h =
    let a = and_parts (nat_le from v && nat_le v n) _ h in
    let b = and_parts (nat_le from v) (nat_le v n) a.0 in
    let b0 = b.0 in
    grind (arith, nat_tests)
rise_last from n (p ∷ ps) v y h = rise_last (p.0 + 1) n ps v y (and_parts (nat_le from p.0 && nat_le p.0 n) _ h).1

all_pushed : (P : Item → Type 0) (xs : List Item) (x : Item) → AllByRecursion P xs → P x → AllByRecursion P (xs ++ x ∷ [])
all_pushed P [] x h k = (k, tt)
all_pushed P (y ∷ xs) x h k = (h.0, all_pushed P xs x h.1 k)

pub rising_pushed : (n : ℕ) (ps : List (ℕ × ℤ)) (v : ℕ) (y : ℤ) → AreRising n ps → fits n (city_line v y) ≡ true → next_city 1 ps ≤ v → AreRising n (ps ++ (v, y) ∷ [])
rising_pushed n ps v y r f l = record {
  fit = subst (λ xs. AllByRecursion (λ x. fits n x ≡ true) xs) (sym (map-append city_item ps ((v, y) ∷ []))) (all_pushed (λ x. fits n x ≡ true) (map city_item ps) (city_line v y) r.fit f);
  rise = rise_pushed 1 n ps v y r.rise l (city_form n v y f).within;
}

pub rising_last : (n : ℕ) (ps : List (ℕ × ℤ)) (v : ℕ) (y : ℤ) → AreRising n (ps ++ (v, y) ∷ []) → next_city 1 ps ≤ v
rising_last n ps v y r = rise_last 1 n ps v y r.rise

-- ---- their duals

dual_kept : (ps : List (ℕ × ℤ)) (v k : ℕ) (y : ℤ) → (v ≡ k → ⊥) → dual_of (ps ++ (v, y) ∷ []) k ≡ dual_of ps k
dual_kept [] v k y ne = cond-false (eqb v k) y (pos 0) (ne_eqb v k ne)
dual_kept (p ∷ ps) v k y ne = ap (λ z. cond (eqb p.0 k) p.1 z) (dual_kept ps v k y ne)

dual_new : (from n : ℕ) (ps : List (ℕ × ℤ)) (v : ℕ) (y : ℤ) → rises from n (map (λ p. p.0) ps) ≡ true → next_city from ps ≤ v → dual_of (ps ++ (v, y) ∷ []) v ≡ y
dual_new from n [] v y h l = cond-true (eqb v v) y (pos 0) (eq-eqb v v refl)
dual_new from n (p ∷ ps) v y h l =
    let a = and_parts (nat_le from p.0 && nat_le p.0 n) _ h in
    let low = no_lower (p.0 + 1) n ps a.1 in
    cond-false (eqb p.0 v) p.1 (dual_of (ps ++ (v, y) ∷ []) v) (ne_eqb p.0 v (λ e. omega arith)) ∙ dual_new (p.0 + 1) n ps v y a.1 l

kept_behind : (ps : List (ℕ × ℤ)) (w m v : ℕ) (y : ℤ) → v < w → duals_from (ps ++ (v, y) ∷ []) w m ≡ duals_from ps w m
kept_behind ps w zero v y l = refl
kept_behind ps w (suc m) v y l =
    let a = dual_kept ps v w y (λ e. omega arith) in
    let b = kept_behind ps (w + 1) m v y (omega arith) in
    ap (λ z. z ∷ duals_from (ps ++ (v, y) ∷ []) (w + 1) m) a ∙ ap (λ zs. dual_of ps w ∷ zs) b

set_at : (ps : List (ℕ × ℤ)) (w m v : ℕ) (y : ℤ) (j : ℕ) → v ≡ w + j → j < m → dual_of (ps ++ (v, y) ∷ []) v ≡ y → duals_from (ps ++ (v, y) ∷ []) w m ≡ set (duals_from ps w m) j y
set_at ps w zero v y j e l new = absurd (omega arith)
set_at ps w (suc m) v y zero e l new =
    let same : w ≡ v = omega arith in
    let head : dual_of (ps ++ (v, y) ∷ []) w ≡ y = ap (λ k. dual_of (ps ++ (v, y) ∷ []) k) same ∙ new in
    ap (λ z. z ∷ duals_from (ps ++ (v, y) ∷ []) (w + 1) m) head ∙ ap (λ zs. y ∷ zs) (kept_behind ps (w + 1) m v y (omega arith))
set_at ps w (suc m) v y (suc j) e l new =
    ap (λ z. z ∷ duals_from (ps ++ (v, y) ∷ []) (w + 1) m) (dual_kept ps v w y (λ f. omega arith)) ∙ ap (λ zs. dual_of ps w ∷ zs) (set_at ps (w + 1) m v y j (omega arith) (omega arith) new)

pub duals_pushed : (n : ℕ) (ps : List (ℕ × ℤ)) (v : ℕ) (y : ℤ) → AreRising n ps → fits n (city_line v y) ≡ true → next_city 1 ps ≤ v → duals_from (ps ++ (v, y) ∷ []) 1 n ≡ set (duals_from ps 1 n) (v - 1) y
duals_pushed n ps v y r f l =
    let b = city_form n v y f in
    set_at ps 1 n v y (v - 1) (omega arith) (omega arith) (dual_new 1 n ps v y r.rise l)

pub length_duals : (ps : List (ℕ × ℤ)) (w m : ℕ) → length (duals_from ps w m) ≡ m
length_duals ps w zero = refl
length_duals ps w (suc m) = let ih = length_duals ps (w + 1) m in omega arith

pub none_yet : (w m : ℕ) → zeros m ≡ duals_from [] w m
none_yet w zero = refl
none_yet w (suc m) = ap (λ zs. pos 0 ∷ zs) (none_yet (w + 1) m)

small_dual : (n : ℕ) (ps : List (ℕ × ℤ)) (v : ℕ) → AllByRecursion (λ x. fits n x ≡ true) (map city_item ps) → nat_abs (dual_of ps v) ≤ 2 ^ 62
small_dual n [] v h = omega arith
small_dual n (p ∷ ps) v h = ⊎_elim
    (λ e. let a : cond (eqb p.0 v) p.1 (dual_of ps v) ≡ p.1 = cond-true _ _ _ (eq-eqb p.0 v e) in subst (λ y. nat_abs y ≤ 2 ^ 62) (sym a) (city_form n p.0 p.1 h.0).size)
    (λ e. let a : cond (eqb p.0 v) p.1 (dual_of ps v) ≡ dual_of ps v = cond-false _ _ _ (ne_eqb p.0 v e) in subst (λ y. nat_abs y ≤ 2 ^ 62) (sym a) (small_dual n ps v h.1))
    (cases_eq p.0 v)

small_duals : (n : ℕ) (ps : List (ℕ × ℤ)) (w m : ℕ) → AllByRecursion (λ x. fits n x ≡ true) (map city_item ps) → AllByRecursion (λ y. nat_abs y ≤ 2 ^ 62) (duals_from ps w m)
small_duals n ps w zero h = tt
small_duals n ps w (suc m) h = (small_dual n ps w h, small_duals n ps (w + 1) m h)

pub said_are_duals : (n : ℕ) (ps : List (ℕ × ℤ)) → AreRising n ps → AreDuals n (duals_from ps 1 n)
said_are_duals n ps r = record { all = length_duals ps 1 n; sizes = small_duals n ps 1 n r.fit }

-- ---- the text so far

pub text_pushed : (text rest behind : List ℕ) (ps : List (ℕ × ℤ)) (v : ℕ) (y : ℤ) → text ≡ said (map city_item ps) ++ rest → rest ≡ ended (line (city_line v y)) ++ behind
    → text ≡ said (map city_item (ps ++ (v, y) ∷ [])) ++ behind
text_pushed text rest behind ps v y e f =
    let one = ended (line (city_line v y)) in
    e ∙ ap (λ r. said (map city_item ps) ++ r) f
    ∙ sym (append_assoc (said (map city_item ps)) one behind)
    ∙ ap (λ r. (said (map city_item ps) ++ r) ++ behind) (sym (append-nil one))
    ∙ ap (λ r. r ++ behind) (sym (said-append (map city_item ps) (city_line v y ∷ [])))
    ∙ ap (λ xs. said xs ++ behind) (sym (map-append city_item ps ((v, y) ∷ [])))

pub shorter : (n : ℕ) (rest behind : List ℕ) (x : Item) → BeginsWith n rest x behind → length behind < length rest
shorter n rest behind x h = let e = ap length h.0 in omega (arith, long (line x) behind) where
  long : (w r : List ℕ) → length r < length (ended w ++ r)
  long [] r = omega arith
  long (b ∷ w) r = let ih = long w r in omega arith
