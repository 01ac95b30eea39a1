-- The lines of a leaf, at their place or not.
use Rattle.std.proofs.Common.{◌≡◌, ℕ, ◌+◌, ◌-◌, ◌<◌, ◌≤◌, ◌&&◌, Some, None, Result, Ok, Err, IfOk}
use Rattle.std.specs.Prelude.{ℤ, nat_lt, nat_le, ◌==◌}
use Rattle.std.proofs.lemmas.Bool.{and_from, and_parts, cond-true, cond-false, false_from_ne_true, ltb-true, leb-true, eqb-true, lt-ltb, le-leb, eq-eqb}
use Rattle.certdef.specs.Items.{city_line, cut_line, condition_line}
use Rattle.verdict.specs.Forms.{DualsLeft, at_trees, at_duals, duals_then, form_dual}

-- no line of the leaf is left
pub nothing_left : (r k : ℕ) (d : DualsLeft) → d.a ≡ 0 → d.b ≡ 0 → d.c ≡ 0 → duals_then r k d ≡ at_trees r k
nothing_left r k d a b c =
    cond-true (d.a == 0 && (d.b == 0 && d.c == 0)) (at_trees r k) (at_duals r k d)
    (and_from (d.a == 0) (d.b == 0 && d.c == 0) (eq-eqb d.a 0 a) (and_from (d.b == 0) (d.c == 0) (eq-eqb d.b 0 b) (eq-eqb d.c 0 c)))

-- some line is
pub some_left : (r k : ℕ) (d : DualsLeft) → (d.a ≡ 0 → d.b ≡ 0 → d.c ≡ 0 → ⊥) → duals_then r k d ≡ at_duals r k d
some_left r k d some =
    cond-false (d.a == 0 && (d.b == 0 && d.c == 0)) (at_trees r k) (at_duals r k d)
    (false_from_ne_true (d.a == 0 && (d.b == 0 && d.c == 0)) (λ e.
    let p = and_parts (d.a == 0) (d.b == 0 && d.c == 0) e in
    let q = and_parts (d.b == 0) (d.c == 0) p.1 in
    some (eqb-true d.a 0 p.0) (eqb-true d.b 0 q.0) (eqb-true d.c 0 q.1)))

-- ---- the dual of a city

abbrev city_next : DualsLeft → ℕ → DualsLeft
city_next d v = record { a = d.a - 1; b = d.b; c = d.c; city = v + 1; cut = d.cut; depth = d.depth }

pub city_in_place : (r k : ℕ) (d : DualsLeft) (v : ℕ) (w : ℤ) → 0 < d.a → d.city ≤ v → form_dual r k d (city_line v w) ≡ Some (duals_then r k (city_next d v))
city_in_place r k d v w some up =
    cond-true (nat_lt 0 d.a && nat_le d.city v) (Some (duals_then r k (city_next d v))) None (and_from (nat_lt 0 d.a) (nat_le d.city v) (lt-ltb 0 d.a some) (le-leb d.city v up))

pub city_misplaced : (r k : ℕ) (d : DualsLeft) (v : ℕ) (w : ℤ) → (0 < d.a → d.city ≤ v → ⊥) → form_dual r k d (city_line v w) ≡ None
city_misplaced r k d v w not =
    cond-false (nat_lt 0 d.a && nat_le d.city v) (Some (duals_then r k (city_next d v))) None
    (false_from_ne_true (nat_lt 0 d.a && nat_le d.city v) (λ e. let p = and_parts (nat_lt 0 d.a) (nat_le d.city v) e in not (ltb-true 0 d.a p.0) (leb-true d.city v p.1)))

-- ---- the dual of a cut

abbrev cut_next : DualsLeft → ℕ → DualsLeft
cut_next d v = record { a = d.a; b = d.b - 1; c = d.c; city = d.city; cut = v + 1; depth = d.depth }

pub cut_in_place : (r k : ℕ) (d : DualsLeft) (v w : ℕ) → d.a ≡ 0 → 0 < d.b → d.cut ≤ v → v ≤ k → form_dual r k d (cut_line v w) ≡ Some (duals_then r k (cut_next d v))
cut_in_place r k d v w none some up within =
    cond-true (d.a == 0 && (nat_lt 0 d.b && (nat_le d.cut v && nat_le v k))) (Some (duals_then r k (cut_next d v))) None
    (and_from (d.a == 0) (nat_lt 0 d.b && (nat_le d.cut v && nat_le v k)) (eq-eqb d.a 0 none)
    (and_from (nat_lt 0 d.b) (nat_le d.cut v && nat_le v k) (lt-ltb 0 d.b some) (and_from (nat_le d.cut v) (nat_le v k) (le-leb d.cut v up) (le-leb v k within))))

pub cut_misplaced : (r k : ℕ) (d : DualsLeft) (v w : ℕ) → (d.a ≡ 0 → 0 < d.b → d.cut ≤ v → v ≤ k → ⊥) → form_dual r k d (cut_line v w) ≡ None
cut_misplaced r k d v w not =
    cond-false (d.a == 0 && (nat_lt 0 d.b && (nat_le d.cut v && nat_le v k))) (Some (duals_then r k (cut_next d v))) None
    (false_from_ne_true (d.a == 0 && (nat_lt 0 d.b && (nat_le d.cut v && nat_le v k))) (λ e.
    let p = and_parts (d.a == 0) (nat_lt 0 d.b && (nat_le d.cut v && nat_le v k)) e in
    let q = and_parts (nat_lt 0 d.b) (nat_le d.cut v && nat_le v k) p.1 in
    let s = and_parts (nat_le d.cut v) (nat_le v k) q.1 in
    not (eqb-true d.a 0 p.0) (ltb-true 0 d.b q.0) (leb-true d.cut v s.0) (leb-true v k s.1)))

-- ---- the dual of a condition

abbrev condition_next : DualsLeft → ℕ → DualsLeft
condition_next d v = record { a = d.a; b = d.b; c = d.c - 1; city = d.city; cut = d.cut; depth = v + 1 }

pub condition_in_place : (r k : ℕ) (d : DualsLeft) (v w : ℕ) → d.a ≡ 0 → d.b ≡ 0 → 0 < d.c → d.depth ≤ v → form_dual r k d (condition_line v w) ≡ Some (duals_then r k (condition_next d v))
condition_in_place r k d v w none nor some up =
    cond-true (d.a == 0 && (d.b == 0 && (nat_lt 0 d.c && nat_le d.depth v))) (Some (duals_then r k (condition_next d v))) None
    (and_from (d.a == 0) (d.b == 0 && (nat_lt 0 d.c && nat_le d.depth v)) (eq-eqb d.a 0 none)
    (and_from (d.b == 0) (nat_lt 0 d.c && nat_le d.depth v) (eq-eqb d.b 0 nor) (and_from (nat_lt 0 d.c) (nat_le d.depth v) (lt-ltb 0 d.c some) (le-leb d.depth v up))))

pub condition_misplaced : (r k : ℕ) (d : DualsLeft) (v w : ℕ) → (d.a ≡ 0 → d.b ≡ 0 → 0 < d.c → d.depth ≤ v → ⊥) → form_dual r k d (condition_line v w) ≡ None
condition_misplaced r k d v w not =
    cond-false (d.a == 0 && (d.b == 0 && (nat_lt 0 d.c && nat_le d.depth v))) (Some (duals_then r k (condition_next d v))) None
    (false_from_ne_true (d.a == 0 && (d.b == 0 && (nat_lt 0 d.c && nat_le d.depth v))) (λ e.
    let p = and_parts (d.a == 0) (d.b == 0 && (nat_lt 0 d.c && nat_le d.depth v)) e in
    let q = and_parts (d.b == 0) (nat_lt 0 d.c && nat_le d.depth v) p.1 in
    let s = and_parts (nat_lt 0 d.c) (nat_le d.depth v) q.1 in
    not (eqb-true d.a 0 p.0) (eqb-true d.b 0 q.0) (ltb-true 0 d.c s.0) (leb-true d.depth v s.1)))

-- ---- whatever the dual is

pub at_dual : {T E X : Type 0} (P : T → X → Type 0) (r : Result T E) (x : X) → IfOk r (λ t. (y : X) → P t y) → IfOk r (λ t. P t x)
at_dual P (Ok t) x h = h x
at_dual P (Err e) x h = tt
