-- Prices, potentials and their sizes.
use Rattle.std.proofs.Common.{◌≡◌, ◌≢◌, ℕ, suc, ◌+◌, ◌*◌, ◌<◌, ◌≤◌, Bool, true, false, cond, not, List, [], ◌∷◌, ◌++◌, length, get_or, drop, ℤ, pos, negsuc, ◌+ℤ◌, ◌*ℤ◌, ◌≤ℤ◌, sym, ap, subst, ◌∙◌, arith, ⊎_elim}
use Rattle.std.specs.Int.{int_max}
use Rattle.std.proofs.lemmas.Int.{ints, clamps}
use Rattle.std.proofs.Math.IntN.{pos-*ℤ-pos, negsuc-*ℤ-pos}
use Rattle.std.proofs.Math.Nat.{mul-le-mul}
use Rattle.std.proofs.lemmas.Bool.{cases_lt}
use Rattle.std.proofs.lemmas.Bool.Decides.{nat_tests}
use Rattle.std.proofs.lemmas.List.{drop_more, length-append, get_or_append_left}
use Rattle.std.proofs.Math.Seq.{get_or-append_seam}
use Rattle.tspdef.specs.Sets.{has}
use Rattle.tspdef.specs.Cuts.{coefficient}
use Rattle.lpcheck.specs.Rows.{cities_of_each, coef, signed, price}
use Rattle.lpcheck.specs.Rests.{AreDuals}
use Rattle.lpcheck.specs.declared.row.Row.{Row}
use Rattle.simplex.specs.Lp.{Program, IsAnswer, duals_in}
use Rattle.simplex.specs.declared.answer.LpAnswer.{LpAnswer}
use Rattle.simplex.specs.declared.answer.LpAnswer.TheVariants.{Solved, Rough}
use Rattle.std.specs.Prelude.{Option}
use Rattle.tspdef.specs.Bounds.{scale}
use Rattle.tspdef.specs.Paths.{Condition}
use Rattle.tspdef.specs.Instances.{Instance, dist}
use Rattle.nodelp.specs.Node.{IsClean}
use Rattle.nodelp.specs.Duals.{newest_duals}
use Rattle.nodelp.specs.Pricing.{IsPassed, ArePotentials}
use Rattle.nodelp.specs.Potentials.{is_single, holders, weight, potential}

pub known : {A : Type 0} → (xs : List A) (i : ℕ) (x : A) → x ≡ get_or xs i x → i < length xs → drop i xs ≡ x ∷ drop (i + 1) xs
known {A} xs i x is inside = drop_more xs i x inside ∙ ap (λ (q : A). q ∷ drop (i + 1) xs) (sym is)

-- ---- one more row

pub price_more : (rows : List Row) (ys : List ℤ) (i : ℕ) (r : Row) (y : ℤ) (u v : ℕ) → r ≡ get_or rows i r → i < length rows → i < length ys
    → price (drop i rows) (drop i ys) u v ≡ signed r.sense (get_or ys i y) *ℤ pos (coef r u v) +ℤ price (drop (i + 1) rows) (drop (i + 1) ys) u v
price_more rows ys i r y u v is in_rows in_ys =
    ap (λ (rs : List Row). price rs (drop i ys) u v) (known rows i r is in_rows)
    ∙ ap (λ (zs : List ℤ). price (r ∷ drop (i + 1) rows) zs u v) (drop_more ys i y in_ys)

pub potential_more : (rows : List Row) (ys : List ℤ) (i : ℕ) (r : Row) (y : ℤ) (v : ℕ) → r ≡ get_or rows i r → i < length rows → i < length ys
    → potential (drop i rows) (drop i ys) v ≡ weight r (get_or ys i y) *ℤ pos (holders (cities_of_each r.sets.items) v) +ℤ potential (drop (i + 1) rows) (drop (i + 1) ys) v
potential_more rows ys i r y v is in_rows in_ys =
    ap (λ (rs : List Row). potential rs (drop i ys) v) (known rows i r is in_rows)
    ∙ ap (λ (zs : List ℤ). potential (r ∷ drop (i + 1) rows) zs v) (drop_more ys i y in_ys)

-- the duals of a clean program are those of its rows
answer_duals : (p : Program) (a : LpAnswer) → IsAnswer p.n p.rows p.cols a → AreDuals p.rows (duals_in a)
answer_duals p (Solved x duals gap) answer = answer.parts.duals
answer_duals p (Rough x duals fault gap) answer = answer.parts.duals

pub clean_duals : (p : Program) → IsClean p → AreDuals p.rows (newest_duals p.last)
clean_duals p clean = subst (λ (o : Option LpAnswer). AreDuals p.rows (newest_duals o)) (sym clean.answer.1) (answer_duals p clean.answer.0 clean.answer.2)

-- ---- what a row takes off at most

holds : List ℕ → ℕ → ℕ
holds s v = cond (has s v) 1 0

crossed_once : (a b : Bool) → cond (cond a (not b) b) 1 0 ≤ cond a 1 0 + cond b 1 0
crossed_once true true = omega arith
crossed_once true false = omega arith
crossed_once false true = omega arith
crossed_once false false = omega arith

crossed_most : (ss : List (List ℕ)) (u v : ℕ) → coefficient ss u v ≤ holders ss u + holders ss v
crossed_most [] u v = omega arith
crossed_most (s ∷ ss) u v = let h = crossed_once (has s u) (has s v) in let m = crossed_most ss u v in omega arith

-- a number times a count is no more than a greater number, not negative, times two counts whose sum is no less
more_off : (s w : ℤ) (c h k : ℕ) → s ≤ℤ w → pos 0 ≤ℤ w → c ≤ h + k → (s *ℤ pos c) ≤ℤ (w *ℤ pos h +ℤ w *ℤ pos k)
more_off s (negsuc b) c h k l n m = absurd (omega (arith, ints))
more_off (pos a) (pos b) c h k l n m =
    let a_small : a ≤ b = omega (arith, ints) in
    let size : a * c ≤ b * (h + k) = mul-le-mul a_small m in
    let value = pos-*ℤ-pos a c in
    let first = pos-*ℤ-pos b h in
    let second = pos-*ℤ-pos b k in
    let all : b * (h + k) ≡ b * h + b * k = omega arith in
    omega (arith, ints)
more_off (negsuc a) (pos b) c h k l n m =
    let value = negsuc-*ℤ-pos a c in
    let first = pos-*ℤ-pos b h in
    let second = pos-*ℤ-pos b k in
    omega (arith, ints)

single_count : (a u v : ℕ) → u ≢ v → coefficient ((a ∷ []) ∷ []) u v ≡ holders ((a ∷ []) ∷ []) u + holders ((a ∷ []) ∷ []) v
single_count a u v apart = grind (arith, nat_tests)

exact_off : (s : ℤ) (c h k : ℕ) → c ≡ h + k → (s *ℤ pos c) ≤ℤ (s *ℤ pos h +ℤ s *ℤ pos k)
exact_off (pos a) c h k e =
    let value = pos-*ℤ-pos a c in
    let first = pos-*ℤ-pos a h in
    let second = pos-*ℤ-pos a k in
    let all : a * c ≡ a * h + a * k = ap (λ z. a * z) e ∙ omega arith in
    omega (arith, ints)
exact_off (negsuc a) c h k e =
    let value = negsuc-*ℤ-pos a c in
    let first = negsuc-*ℤ-pos a h in
    let second = negsuc-*ℤ-pos a k in
    let all : suc a * c ≡ suc a * h + suc a * k = ap (λ z. suc a * z) e ∙ omega arith in
    omega (arith, ints)

off_most : (ss : List (List ℕ)) (s : ℤ) (u v : ℕ) → u ≢ v
    → (s *ℤ pos (coefficient ss u v)) ≤ℤ (cond (is_single ss) s (int_max (pos 0) s) *ℤ pos (holders ss u) +ℤ cond (is_single ss) s (int_max (pos 0) s) *ℤ pos (holders ss v))
off_most [] s u v apart = more_off s (int_max (pos 0) s) 0 0 0 (omega (arith, ints, clamps)) (omega (arith, ints, clamps)) (omega arith)
off_most ([] ∷ ss) s u v apart = more_off s (int_max (pos 0) s) _ _ _ (omega (arith, ints, clamps)) (omega (arith, ints, clamps)) (crossed_most ([] ∷ ss) u v)
off_most ((a ∷ []) ∷ []) s u v apart = exact_off s _ _ _ (single_count a u v apart)
off_most ((a ∷ []) ∷ t ∷ ss) s u v apart = more_off s (int_max (pos 0) s) _ _ _ (omega (arith, ints, clamps)) (omega (arith, ints, clamps)) (crossed_most ((a ∷ []) ∷ t ∷ ss) u v)
off_most ((a ∷ b ∷ cs) ∷ ss) s u v apart = more_off s (int_max (pos 0) s) _ _ _ (omega (arith, ints, clamps)) (omega (arith, ints, clamps)) (crossed_most ((a ∷ b ∷ cs) ∷ ss) u v)

-- what the rows take off the cost of a pair is no more than its cities' potentials
pub price_most : (rows : List Row) (ys : List ℤ) (u v : ℕ) → u ≢ v → price rows ys u v ≤ℤ (potential rows ys u +ℤ potential rows ys v)
price_most [] ys u v apart = omega (arith, ints)
price_most (r ∷ rows) [] u v apart = omega (arith, ints)
price_most (r ∷ rows) (y ∷ ys) u v apart =
    let one = off_most (cities_of_each r.sets.items) (signed r.sense y) u v apart in
    let rest = price_most rows ys u v apart in
    omega (arith, ints, one, rest)

-- a pair that the potentials show to be worth no column
pub shown : (i : Instance) (path : List Condition) (p : Program) (ps : List ℤ) (u v : ℕ) → ArePotentials i.n p.rows (newest_duals p.last) ps → u < v → v < i.n
    → (get_or ps u (pos 0) +ℤ get_or ps v (pos 0)) ≤ℤ pos (scale * dist i u v) → IsPassed i path p u v
shown i path p ps u v are low high enough open_pair fresh =
    let most = price_most p.rows (newest_duals p.last) u v (omega (arith, low)) in
    let at_u = are.each u (omega (arith, low, high)) in
    let at_v = are.each v high in
    omega (arith, ints, most, at_u, at_v, enough)

pub potentials_more : (n : ℕ) (rows : List Row) (ys ps new : List ℤ) (y : ℤ) → ArePotentials n rows ys ps → new ≡ ps ++ y ∷ [] → y ≡ potential rows ys n → ArePotentials (n + 1) rows ys new
potentials_more n rows ys ps new y are is value =
    let long = are.long in
    let more = length-append ps (y ∷ []) in
    subst (ArePotentials (n + 1) rows ys) (sym is) (record {
      long = omega (arith, long, more);
      each = λ v inside. ⊎_elim
          (λ (l : v < n). get_or_append_left ps (y ∷ []) (pos 0) v (omega (arith, l, long)) ∙ are.each v l)
          (λ (l : n ≤ v).
          let here : v ≡ length ps = omega (arith, l, long, inside) in
          let same : v ≡ n = omega (arith, l, inside) in
          ap (λ (k : ℕ). get_or (ps ++ y ∷ []) k (pos 0)) here ∙ (get_or-append_seam ps y [] (pos 0) ∙ (value ∙ ap (λ (k : ℕ). potential rows ys k) (sym same))))
          (cases_lt v n);
    })
