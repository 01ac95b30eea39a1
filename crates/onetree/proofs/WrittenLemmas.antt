-- What is written is accepted.
use Rattle.std.proofs.Common.{◌≡◌, ℕ, zero, suc, ◌+◌, ◌*◌, ◌^◌, ◌<◌, ◌≤◌, true, false, List, [], ◌∷◌, length, map, refl, sym, ap, subst, ◌∙◌, arith, decimal}
use Rattle.std.specs.Prelude.{nat_le, nat_lt, nat_abs, ◌==◌, ℤ, pos, negsuc}
use Rattle.std.specs.Fmt.{signed_decimal}
use Rattle.std.specs.Int.Signed.{mag}
use Rattle.std.specs.List.{AllByRecursion, range_with_len}
use Rattle.std.proofs.lemmas.Int.{ints}
use Rattle.std.proofs.lemmas.Bool.{cond-true, cond-false, cond_both, eq-eqb, ne_eqb, eqb-true}
use Rattle.std.proofs.lemmas.Bool.Decides.{nat_tests}
use Rattle.std.proofs.lemmas.List.{length-append}
use Rattle.std.proofs.lemmas.List.FromFn.{length-range_with_len}
use Rattle.std.proofs.lemmas.Fmt.{length-decimal-le, length_signed_le}
use Rattle.tspdef.specs.Tours.{IsTour, steps, travelled}
use Rattle.tspdef.specs.Instances.{Instance, IsInstance, dist}
use Rattle.certdef.specs.Items.{size_line, city_line, line, fits, rises}
use Rattle.certdef.specs.Proofs.{city_item}
use Rattle.certdef.specs.Accepted.{dual_of, duals_from}
use Rattle.cyc.proofs.WholeTours.{numbers_are_whole}
use Rattle.onetree.specs.OneTrees.{AreDuals, IsHeldKarp}
use Rattle.onetree.specs.Certificates.{HasForm, IsAccepted, IsBoundOf, text, certificate_of, written_duals}
use Rattle.onetree.proofs.Tours.{below_each_tour, steps_of}
use Rattle.onetree.proofs.CertificateLemmas.{size_fits, bound_fits}

-- ---- lines of duals

small_mag : (y : ℤ) → nat_abs y ≤ 2 ^ 62 → mag y ≤ 2 ^ 62
small_mag (pos n) h = h
small_mag (negsuc n) h = omega arith

dual_fits : (n v : ℕ) (y : ℤ) → 0 < v → v ≤ n → n ≤ 2000 → (nat_abs y ≡ 0 → ⊥) → nat_abs y ≤ 2 ^ 62 → fits n (city_line v y) ≡ true
dual_fits n v y some within few ne size =
    let m = small_mag y size in
    let a : nat_lt 0 v ≡ true = grind (arith, nat_tests) in
    let b : nat_le v n ≡ true = grind (arith, nat_tests) in
    let c : nat_lt 0 (nat_abs y) ≡ true = grind (arith, nat_tests) in
    let d : nat_le (nat_abs y) (2 ^ 62) ≡ true = grind (arith, nat_tests) in
    let s = length-decimal-le 10 v (omega arith) (omega arith) (omega arith) in
    let t = length_signed_le 20 y (omega arith) (omega arith) in
    let l = length-append (decimal v) (32 ∷ signed_decimal y) in
    let e : nat_le (length (line (city_line v y))) 16384 ≡ true = grind (arith, nat_tests) in
    rw (a, b, c, d, e) refl

lines_fit : (n v : ℕ) (ys : List ℤ) → 0 < v → v + length ys ≤ n + 1 → n ≤ 2000 → AllByRecursion (λ y. nat_abs y ≤ 2 ^ 62) ys → AllByRecursion (λ x. fits n x ≡ true) (map city_item (written_duals v ys))
lines_fit n v [] some l few h = tt
lines_fit n v (y ∷ ys) some l few h = cond_both (nat_abs y == 0) (written_duals (v + 1) ys) ((v, y) ∷ written_duals (v + 1) ys) (λ ps. AllByRecursion (λ x. fits n x ≡ true) (map city_item ps))
    (λ e. lines_fit n (v + 1) ys (omega arith) (omega arith) few h.1)
    (λ e. (dual_fits n v y some (omega arith) few (λ z. let f = eq-eqb (nat_abs y) 0 z in let g : true ≡ false = sym f ∙ e in cc) h.0, lines_fit n (v + 1) ys (omega arith) (omega arith) few h.1))

rises_lower : (from to n : ℕ) (cs : List ℕ) → from ≤ to → rises to n cs ≡ true → rises from n cs ≡ true
rises_lower from to n [] l h = refl
rises_lower from to n (c ∷ cs) l h = grind (arith, nat_tests)

cities_rise : (n v : ℕ) (ys : List ℤ) → v + length ys ≤ n + 1 → rises v n (map (λ p. p.0) (written_duals v ys)) ≡ true
cities_rise n v [] l = refl
cities_rise n v (y ∷ ys) l = cond_both (nat_abs y == 0) (written_duals (v + 1) ys) ((v, y) ∷ written_duals (v + 1) ys) (λ ps. rises v n (map (λ p. p.0) ps) ≡ true)
    (λ e. rises_lower v (v + 1) n (map (λ p. p.0) (written_duals (v + 1) ys)) (omega arith) (cities_rise n (v + 1) ys (omega arith)))
    (λ e. let a : nat_le v v ≡ true = grind (arith, nat_tests) in let b : nat_le v n ≡ true = grind (arith, nat_tests) in rw (a, b, cities_rise n (v + 1) ys (omega arith)) refl)

-- ---- the duals again

none_behind : (v w : ℕ) (ys : List ℤ) → v < w → dual_of (written_duals w ys) v ≡ pos 0
none_behind v w [] l = refl
none_behind v w (y ∷ ys) l = cond_both (nat_abs y == 0) (written_duals (w + 1) ys) ((w, y) ∷ written_duals (w + 1) ys) (λ ps. dual_of ps v ≡ pos 0)
    (λ e. none_behind v (w + 1) ys (omega arith))
    (λ e. cond-false (w == v) y (dual_of (written_duals (w + 1) ys) v) (ne_eqb w v (omega arith)) ∙ none_behind v (w + 1) ys (omega arith))

passed_over : (p : ℕ × ℤ) (ps : List (ℕ × ℤ)) (v m : ℕ) → p.0 < v → duals_from (p ∷ ps) v m ≡ duals_from ps v m
passed_over p ps v zero l = refl
passed_over p ps v (suc m) l =
    let e = cond-false (p.0 == v) p.1 (dual_of ps v) (ne_eqb p.0 v (omega arith)) in
    let ih = passed_over p ps (v + 1) m (omega arith) in cc

abs_zero : (y : ℤ) → nat_abs y ≡ 0 → y ≡ pos 0
abs_zero (pos n) e = ap pos e
abs_zero (negsuc n) e = absurd (omega arith)

duals_again : (v : ℕ) (ys : List ℤ) → duals_from (written_duals v ys) v (length ys) ≡ ys
duals_again v [] = refl
duals_again v (y ∷ ys) = cond_both (nat_abs y == 0) (written_duals (v + 1) ys) ((v, y) ∷ written_duals (v + 1) ys) (λ ps. duals_from ps v (suc (length ys)) ≡ y ∷ ys)
    (λ e. let z = none_behind v (v + 1) ys (omega arith) ∙ sym (abs_zero y (eqb-true (nat_abs y) 0 e)) in let ih = duals_again (v + 1) ys in cc)
    (λ e. let z = cond-true (v == v) y (dual_of (written_duals (v + 1) ys) v) (eq-eqb v v refl) in
    let t = passed_over (v, y) (written_duals (v + 1) ys) (v + 1) (length ys) (omega arith) in let ih = duals_again (v + 1) ys in cc)

-- ---- a bound is at most the length of a tour

walk_small : (d : ℕ → ℕ → ℕ) (es : List (ℕ × ℕ)) → ((u v : ℕ) → d u v < 2 ^ 30) → travelled d es ≤ 2 ^ 30 * length es
walk_small d [] h = omega arith
walk_small d (e ∷ es) h = let a = h e.0 e.1 in let ih = walk_small d es h in omega arith

small_bound : (i : Instance) (p : List ℤ) (b : ℕ) → IsInstance i → IsBoundOf i p b → b ≤ 2 ^ 42
small_bound i p b is r =
    let tour = range_with_len 0 i.n in
    let long : length tour ≡ i.n = length-range_with_len 0 i.n in
    let t : IsTour i.n tour = subst (λ k. IsTour k tour) long (numbers_are_whole i.n is.many is.few).is_tour in
    let below = below_each_tour i p r.value tour is.many t r.value_is in
    let all = walk_small (dist i) (steps tour) (λ u v. is.small _) in
    let many = is.few in
    let each = steps_of i.n tour t in
    let got = r.proved in
    omega (arith, ints)

pub written_is_accepted : (i : Instance) (p : List ℤ) (b : ℕ) → IsInstance i → AreDuals i.n p → IsBoundOf i p b → IsAccepted i (text (certificate_of p b)) b
written_is_accepted i p b is d r =
    let n = i.n in
    let few = is.few in
    let size : length p ≡ n = d.all in
    let c = certificate_of p b in
    let form : HasForm n c = record {
      fit = (subst (λ k. fits n (size_line k) ≡ true) (sym size) (size_fits n few), (bound_fits n b (small_bound i p b is r), lines_fit n 1 p (omega arith) (omega arith) few d.sizes));
      rise = cities_rise n 1 p (omega arith);
    } in
    let again : duals_from (written_duals 1 p) 1 n ≡ p = subst (λ k. duals_from (written_duals 1 p) 1 k ≡ p) size (duals_again 1 p) in
    (c, record { whole = refl; form = form; size = size }, refl, (r.value, subst (λ ps. IsHeldKarp i ps r.value) (sym again) r.value_is, r.proved))
