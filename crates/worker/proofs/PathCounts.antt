-- How many pairs a path leaves undecided, and so how many conditions it has at most.
use Rattle.std.proofs.Common.{◌≡◌, ℕ, zero, suc, ◌+◌, ◌-◌, ◌*◌, ◌<◌, ◌≤◌, Bool, true, false, cond, ◌||◌, ◌==◌, List, [], ◌∷◌, ◌++◌, length, refl, sym, subst, arith, ◌⊎◌, inl, inr, ⊎_elim}
use Rattle.std.proofs.lemmas.Bool.{cases_eq, eq-eqb}
use Rattle.std.proofs.Math.Nat.{mul-le-mul}
use Rattle.tspdef.specs.Tours.{joins}
use Rattle.tspdef.specs.Paths.{Condition, fixed, absent, present, two, four, is_absent, is_present, is_decided, ContinuesPath, IsPath}
use Rattle.worker.specs.Works.{cliques, PathsAreShort}

-- how many pairs of v and a lower city are not decided
abbrev pub open_below : (ℕ → ℕ → Bool) → ℕ → ℕ → ℕ
open_below d zero v = 0
open_below d (suc u) v = cond (d u v) 0 1 + open_below d u v

-- how many pairs of n cities
abbrev pub open_pairs : (ℕ → ℕ → Bool) → ℕ → ℕ
open_pairs d zero = 0
open_pairs d (suc v) = open_below d v v + open_pairs d v

-- no more than there are
one_more : (b : Bool) (k u : ℕ) → k ≤ u → cond b 0 1 + k ≤ suc u
one_more true k u le = omega arith
one_more false k u le = omega arith

below_few : (d : ℕ → ℕ → Bool) (u v : ℕ) → open_below d u v ≤ u
below_few d zero v = omega arith
below_few d (suc u) v = one_more (d u v) (open_below d u v) u (below_few d u v)

-- twice n (n - 1) / 2 at most
pub pairs_most : (d : ℕ → ℕ → Bool) (n : ℕ) → 2 * open_pairs d n + n ≤ n * n
pairs_most d zero = omega arith
pairs_most d (suc v) = let row = below_few d v v in let rest = pairs_most d v in omega arith

-- what is decided stays so
abbrev pub Keeps : (ℕ → ℕ → Bool) → (ℕ → ℕ → Bool) → Type 0
Keeps d e = (u v : ℕ) → d u v ≡ true → e u v ≡ true

no_fewer : (b c : Bool) (j k : ℕ) → (b ≡ true → c ≡ true) → k ≤ j → cond c 0 1 + k ≤ cond b 0 1 + j
no_fewer true true j k keep le = omega arith
no_fewer true false j k keep le = let bad = keep refl in absurd cc
no_fewer false true j k keep le = omega arith
no_fewer false false j k keep le = omega arith

below_falls : (d e : ℕ → ℕ → Bool) → Keeps d e → (u v : ℕ) → open_below e u v ≤ open_below d u v
below_falls d e keep zero v = omega arith
below_falls d e keep (suc u) v = no_fewer (d u v) (e u v) (open_below d u v) (open_below e u v) (keep u v) (below_falls d e keep u v)

pub pairs_fall : (d e : ℕ → ℕ → Bool) → Keeps d e → (n : ℕ) → open_pairs e n ≤ open_pairs d n
pairs_fall d e keep zero = omega arith
pairs_fall d e keep (suc v) = let a = below_falls d e keep v v in let b = pairs_fall d e keep v in omega arith

at_or_below : (a u : ℕ) → a < suc u → (a ≡ u) ⊎ (a < u)
at_or_below a u less = ⊎_elim (λ (e : a ≡ u). inl e) (λ (e : a ≡ u → ⊥). inr (omega arith)) (cases_eq a u)

-- and a pair that was not decided, and now is, is one less
below_drops : (d e : ℕ → ℕ → Bool) → Keeps d e → (a u v : ℕ) → a < u → d a v ≡ false → e a v ≡ true → open_below e u v + 1 ≤ open_below d u v
below_drops d e keep a zero v less was is = absurd (omega arith)
below_drops d e keep a (suc u) v less was is = elim (at_or_below a u less) [
  | inl same ↦ let rest = below_falls d e keep u v in let p : d u v ≡ false = rw (sym same) was in let q : e u v ≡ true = rw (sym same) is in rw p (rw q (omega arith))
  | inr lower ↦ let ih = below_drops d e keep a u v lower was is in let step = no_fewer (d u v) (e u v) (open_below d u v) (open_below e u v + 1) (keep u v) ih in omega arith
]

pub pairs_drop : (d e : ℕ → ℕ → Bool) → Keeps d e → (a b n : ℕ) → a < b → b < n → d a b ≡ false → e a b ≡ true → open_pairs e n + 1 ≤ open_pairs d n
pairs_drop d e keep a b zero less within was is = absurd (omega arith)
pairs_drop d e keep a b (suc v) less within was is = elim (at_or_below b v within) [
  | inl same ↦ let rest = pairs_fall d e keep v in let row = below_drops d e keep a v v (subst (λ (x : ℕ). a < x) same less) (subst (λ (x : ℕ). d a x ≡ false) same was) (subst (λ (x : ℕ). e a x ≡ true) same is) in omega arith
  | inr lower ↦ let ih = pairs_drop d e keep a b v less lower was is in let row = below_falls d e keep v v in omega arith
]

-- ---- paths

or_true : (a : Bool) → a || true ≡ true
or_true true = refl
or_true false = refl

or_either : (a b : Bool) → a || b ≡ true → (a ≡ true) ⊎ (b ≡ true)
or_either true b e = inl refl
or_either false b e = inr e

absent_stays : (path : List Condition) (c : Condition) (u v : ℕ) → is_absent path u v ≡ true → is_absent (path ++ c ∷ []) u v ≡ true
absent_stays [] c u v e = absurd cc
absent_stays (absent a b ∷ path) c u v e = elim (or_either (joins u v (a, b)) (is_absent path u v) e) [
  | inl p ↦ rw p refl
  | inr q ↦ rw (absent_stays path c u v q) (or_true (joins u v (a, b)))
]
absent_stays (fixed a b ∷ path) c u v e = absent_stays path c u v e
absent_stays (present a b ∷ path) c u v e = absent_stays path c u v e
absent_stays (two s ∷ path) c u v e = absent_stays path c u v e
absent_stays (four s ∷ path) c u v e = absent_stays path c u v e

present_stays : (path : List Condition) (c : Condition) (u v : ℕ) → is_present path u v ≡ true → is_present (path ++ c ∷ []) u v ≡ true
present_stays [] c u v e = absurd cc
present_stays (fixed a b ∷ path) c u v e = elim (or_either (joins u v (a, b)) (is_present path u v) e) [
  | inl p ↦ rw p refl
  | inr q ↦ rw (present_stays path c u v q) (or_true (joins u v (a, b)))
]
present_stays (absent a b ∷ path) c u v e = present_stays path c u v e
present_stays (present a b ∷ path) c u v e = elim (or_either (joins u v (a, b)) (is_present path u v) e) [
  | inl p ↦ rw p refl
  | inr q ↦ rw (present_stays path c u v q) (or_true (joins u v (a, b)))
]
present_stays (two s ∷ path) c u v e = present_stays path c u v e
present_stays (four s ∷ path) c u v e = present_stays path c u v e

pub decided_stays : (path : List Condition) (c : Condition) → Keeps (is_decided path) (is_decided (path ++ c ∷ []))
decided_stays path c u v e = elim (or_either (is_absent path u v) (is_present path u v) e) [
  | inl p ↦ rw (absent_stays path c u v p) refl
  | inr q ↦ rw (present_stays path c u v q) (or_true (is_absent (path ++ c ∷ []) u v))
]

eqb-same : (u : ℕ) → (u == u) ≡ true
eqb-same u = eq-eqb u u refl

joins_itself : (u v : ℕ) → joins u v (u, v) ≡ true
joins_itself u v = rw (eqb-same u) (rw (eqb-same v) refl)

absent_last : (path : List Condition) (u v : ℕ) → is_absent (path ++ absent u v ∷ []) u v ≡ true
absent_last [] u v = rw (joins_itself u v) refl
absent_last (absent a b ∷ path) u v = rw (absent_last path u v) (or_true (joins u v (a, b)))
absent_last (fixed a b ∷ path) u v = absent_last path u v
absent_last (present a b ∷ path) u v = absent_last path u v
absent_last (two s ∷ path) u v = absent_last path u v
absent_last (four s ∷ path) u v = absent_last path u v

present_last : (path : List Condition) (u v : ℕ) → is_present (path ++ present u v ∷ []) u v ≡ true
present_last [] u v = rw (joins_itself u v) refl
present_last (fixed a b ∷ path) u v = rw (present_last path u v) (or_true (joins u v (a, b)))
present_last (absent a b ∷ path) u v = present_last path u v
present_last (present a b ∷ path) u v = rw (present_last path u v) (or_true (joins u v (a, b)))
present_last (two s ∷ path) u v = present_last path u v
present_last (four s ∷ path) u v = present_last path u v

pub decided_absent : (path : List Condition) (u v : ℕ) → is_decided (path ++ absent u v ∷ []) u v ≡ true
decided_absent path u v = rw (absent_last path u v) refl

pub decided_present : (path : List Condition) (u v : ℕ) → is_decided (path ++ present u v ∷ []) u v ≡ true
decided_present path u v = rw (present_last path u v) (or_true (is_absent (path ++ present u v ∷ []) u v))

fixed_last : (path : List Condition) (u v : ℕ) → is_present (path ++ fixed u v ∷ []) u v ≡ true
fixed_last [] u v = rw (joins_itself u v) refl
fixed_last (fixed a b ∷ path) u v = rw (fixed_last path u v) (or_true (joins u v (a, b)))
fixed_last (absent a b ∷ path) u v = fixed_last path u v
fixed_last (present a b ∷ path) u v = rw (fixed_last path u v) (or_true (joins u v (a, b)))
fixed_last (two s ∷ path) u v = fixed_last path u v
fixed_last (four s ∷ path) u v = fixed_last path u v

decided_fixed : (path : List Condition) (u v : ℕ) → is_decided (path ++ fixed u v ∷ []) u v ≡ true
decided_fixed path u v = rw (fixed_last path u v) (or_true (is_absent (path ++ fixed u v ∷ []) u v))

-- ---- the law

-- what may still come on a path
rest_is_short : (n : ℕ) (done rest : List Condition) → ContinuesPath n done rest → length rest ≤ cliques rest + open_pairs (is_decided done) n
rest_is_short n done [] on = omega arith
rest_is_short n done (fixed u v ∷ rest) on =
    let less = pairs_drop (is_decided done) (is_decided (done ++ fixed u v ∷ [])) (decided_stays done (fixed u v)) u v n on.0.0.0.0 on.0.0.0.1 on.0.0.1 (decided_fixed done u v) in
    let ih = rest_is_short n (done ++ fixed u v ∷ []) rest on.1 in
    omega arith
rest_is_short n done (absent u v ∷ rest) on =
    let less = pairs_drop (is_decided done) (is_decided (done ++ absent u v ∷ [])) (decided_stays done (absent u v)) u v n on.0.0.0 on.0.0.1 on.0.1 (decided_absent done u v) in
    let ih = rest_is_short n (done ++ absent u v ∷ []) rest on.1 in
    omega arith
rest_is_short n done (present u v ∷ rest) on =
    let less = pairs_drop (is_decided done) (is_decided (done ++ present u v ∷ [])) (decided_stays done (present u v)) u v n on.0.0.0 on.0.0.1 on.0.1 (decided_present done u v) in
    let ih = rest_is_short n (done ++ present u v ∷ []) rest on.1 in
    omega arith
rest_is_short n done (two s ∷ rest) on =
    let no_more = pairs_fall (is_decided done) (is_decided (done ++ two s ∷ [])) (decided_stays done (two s)) n in
    let ih = rest_is_short n (done ++ two s ∷ []) rest on.1 in
    omega arith
rest_is_short n done (four s ∷ rest) on =
    let no_more = pairs_fall (is_decided done) (is_decided (done ++ four s ∷ [])) (decided_stays done (four s)) n in
    let ih = rest_is_short n (done ++ four s ∷ []) rest on.1 in
    omega arith

twice : (n k l m : ℕ) → l ≤ m + k → 2 * k + n ≤ n * n → 2 * l ≤ 2 * m + n * (n - 1)
twice zero k l m le most = omega arith
twice (suc n) k l m le most = let e : suc n - 1 ≡ n = omega arith in rw e (omega arith)

path_pairs : (n : ℕ) (path : List Condition) → IsPath n path → 2 * length path ≤ 2 * cliques path + n * (n - 1)
path_pairs n path is = twice n (open_pairs (is_decided []) n) (length path) (cliques path) (rest_is_short n [] path is) (pairs_most (is_decided []) n)

path_few : (n : ℕ) (path : List Condition) → n ≤ 2000 → IsPath n path → cliques path ≤ 2097152 → length path ≤ 4194304
path_few n path few is some =
    let least : n - 1 ≤ 1999 = omega arith in
    let pairs : n * (n - 1) ≤ 2000 * 1999 = mul-le-mul few least in
    let all = path_pairs n path is in
    omega arith

pub paths_are_short : PathsAreShort
paths_are_short = record { pairs = path_pairs; few = path_few }
