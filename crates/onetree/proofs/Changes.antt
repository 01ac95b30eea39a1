-- One dual is changed: what becomes of sums, weights and values.
use Rattle.std.proofs.Common.{◌≡◌, ℕ, zero, suc, ◌+◌, ◌-◌, ◌*◌, ◌^◌, ◌<◌, ◌≤◌, Bool, true, false, cond, eqb, List, [], ◌∷◌, length, get_or, set, refl, sym, ap, subst, ◌∙◌, arith, ⊎_elim, ◌⊎◌, replicate, inr}
use Rattle.std.specs.Prelude.{IsTrue, ℤ, pos, negsuc, neg_ℤ, nat_abs, ◌+ℤ◌, ◌≤ℤ◌, ◌<ℤ◌}
use Rattle.std.specs.List.{AllByRecursion}
use Rattle.std.proofs.lemmas.Int.{ints, to_z-of_z}
use mir.Syntax.{w64}
use mir.Val.{SFits, to_z, of_z}
use Rattle.std.proofs.lemmas.List.{get_or-set_same, get_or-set_other, length-set, length-replicate}
use Rattle.std.proofs.lemmas.Bool.{cases_Bool, cases_eq, cond-true, cond-false, eq-eqb, ne_eqb}
use Rattle.std.proofs.Math.Nat.{mul-le-mul_right, pow-le-pow_right}
use Rattle.tspdef.specs.Sums.{sum_below}
use Rattle.tspdef.specs.Instances.{Instance}
use Rattle.tspdef.specs.Bounds.{scale}
use Rattle.tspdef.proofs.SumLemmas.{sum_below-same, sum_below-add, sum_below-at, sum_below-zero}
use Rattle.onetree.specs.OneTrees.{is_end, degree, IsPair, IsOneTree, IsLightest, IsHeldKarp, weight, dual_of, reduced, AreDuals}
use Rattle.onetree.specs.Ascents.{least_gain, zeros, moved, changed, IsStill, HasValue, AreAtRest, AreRaised, Reaches}
use Rattle.onetree.proofs.Tours.{held_karp_is_one}

-- ---- duals

-- what is added to the dual of each city
abbrev added : ℕ → ℤ → ℕ → ℤ
added c x v = cond (eqb c v) x (pos 0)

pub dual_changed : (p : List ℤ) (c v : ℕ) (x : ℤ) → c < length p → dual_of (changed p c x) v ≡ dual_of p v +ℤ added c x v
dual_changed p c v x l = ⊎_elim
    (λ e. let a : get_or (set p c (dual_of p c +ℤ x)) c (pos 0) ≡ dual_of p c +ℤ x = get_or-set_same p c _ (pos 0) l in
    let b : added c x c ≡ x = cond-true _ _ _ (eq-eqb c c refl) in
    subst (λ k. dual_of (changed p c x) k ≡ dual_of p k +ℤ added c x k) e (omega (arith, ints)))
    (λ e. let a : get_or (set p c (dual_of p c +ℤ x)) v (pos 0) ≡ dual_of p v = get_or-set_other p c v _ (pos 0) (λ f. e (sym f)) in
    let b : added c x v ≡ pos 0 = cond-false _ _ _ (ne_eqb c v e) in
    omega (arith, ints))
    (cases_eq c v)

pub sum_changed : (p : List ℤ) (n c : ℕ) (x : ℤ) → length p ≡ n → c < n → sum_below (dual_of (changed p c x)) n ≡ sum_below (dual_of p) n +ℤ x
sum_changed p n c x e l =
    sum_below-same _ _ n (λ k h. dual_changed p c k x (omega arith))
    ∙ (sum_below-add (dual_of p) (added c x) n
    ∙ ap (λ y. sum_below (dual_of p) n +ℤ y) (sum_below-at (λ k. x) c n l))

sizes_set : (p : List ℤ) (c : ℕ) (y : ℤ) → nat_abs y ≤ 2 ^ 62 → AllByRecursion (λ y. nat_abs y ≤ 2 ^ 62) p → AllByRecursion (λ y. nat_abs y ≤ 2 ^ 62) (set p c y)
sizes_set [] c y h a = tt
sizes_set (q ∷ p) zero y h a = (h, a.1)
sizes_set (q ∷ p) (suc c) y h a = (a.0, sizes_set p c y h a.1)

pub size_at : (p : List ℤ) (c : ℕ) → AllByRecursion (λ y. nat_abs y ≤ 2 ^ 62) p → nat_abs (dual_of p c) ≤ 2 ^ 62
size_at [] c a = omega arith
size_at (q ∷ p) zero a = a.0
size_at (q ∷ p) (suc c) a = size_at p c a.1

pub duals_set : (n : ℕ) (p : List ℤ) (c : ℕ) (y : ℤ) → nat_abs y ≤ 2 ^ 62 → AreDuals n p → AreDuals n (set p c y)
duals_set n p c y h d = record { all = length-set _ _ _ ∙ d.all; sizes = sizes_set p c y h d.sizes }

pub set_again : (p : List ℤ) (c : ℕ) (y : ℤ) → c < length p → set (set p c y) c (dual_of p c) ≡ p
set_again [] c y l = absurd (omega arith)
set_again (q ∷ p) zero y l = refl
set_again (q ∷ p) (suc c) y l = ap (λ ps. q ∷ ps) (set_again p c y (omega arith))

pub zeros_are_duals : (n : ℕ) → AreDuals n (zeros n)
zeros_are_duals n = record { all = length-replicate n (pos 0); sizes = each n } where
  each : (k : ℕ) → AllByRecursion (λ y. nat_abs y ≤ 2 ^ 62) (replicate k (pos 0))
  each zero = tt
  each (suc k) = (omega arith, each k)

-- ---- weights

-- a pair that meets the city or does not
one_end : (c : ℕ) (x : ℤ) (e : ℕ × ℕ) → (e.0 ≡ e.1 → ⊥) → added c x e.0 +ℤ added c x e.1 ≡ cond (is_end c e) x (pos 0)
one_end c x e ne = ⊎_elim
    (λ h. let a = eq-eqb c e.0 h in let b = eq-eqb e.0 c (sym h) in let d = ne_eqb c e.1 (λ f. ne (sym h ∙ f)) in rw (a, b, d) (omega (arith, ints)))
    (λ h. let a = ne_eqb c e.0 h in let b = ne_eqb e.0 c (λ f. h (sym f)) in ⊎_elim
    (λ f. let d = eq-eqb c e.1 f in let g = eq-eqb e.1 c (sym f) in rw (a, b, d, g) (omega (arith, ints)))
    (λ f. let d = ne_eqb c e.1 f in let g = ne_eqb e.1 c (λ h. f (sym h)) in rw (a, b, d, g) (omega (arith, ints)))
    (cases_eq c e.1))
    (cases_eq c e.0)

-- what the pairs lose where the dual of a city rises by m, as often as they meet it
pub weight_up : (i : Instance) (p : List ℤ) (c m : ℕ) (es : List (ℕ × ℕ)) → c < length p → AllByRecursion (IsPair i.n) es
    → weight (reduced i (changed p c (pos m))) es +ℤ pos (m * degree c es) ≡ weight (reduced i p) es
weight_up i p c m [] l w = omega (arith, ints)
weight_up i p c m (e ∷ es) l w =
    let ih = weight_up i p c m es l w.1 in
    let a = dual_changed p c e.0 (pos m) l in
    let b = dual_changed p c e.1 (pos m) l in
    let t = one_end c (pos m) e w.0.2 in
    ⊎_elim
    (λ h. let u : cond (is_end c e) (pos m) (pos 0) ≡ pos m = cond-true _ _ _ h in
    let v : cond {A = ℕ} (is_end c e) 1 0 ≡ 1 = cond-true _ _ _ h in
    let d : m * (cond {A = ℕ} (is_end c e) 1 0 + degree c es) ≡ m + m * degree c es = rw v (omega arith) in
    omega (arith, ints))
    (λ h. let u : cond (is_end c e) (pos m) (pos 0) ≡ pos 0 = cond-false _ _ _ h in
    let v : cond {A = ℕ} (is_end c e) 1 0 ≡ 0 = cond-false _ _ _ h in
    let d : m * (cond {A = ℕ} (is_end c e) 1 0 + degree c es) ≡ m * degree c es = rw v (omega arith) in
    omega (arith, ints))
    (cases_Bool (is_end c e))

-- what they gain where it falls by m
pub weight_down : (i : Instance) (p : List ℤ) (c m : ℕ) (es : List (ℕ × ℕ)) → c < length p → AllByRecursion (IsPair i.n) es
    → weight (reduced i (changed p c (neg_ℤ (pos m)))) es ≡ weight (reduced i p) es +ℤ pos (m * degree c es)
weight_down i p c m [] l w = omega (arith, ints)
weight_down i p c m (e ∷ es) l w =
    let ih = weight_down i p c m es l w.1 in
    let a = dual_changed p c e.0 (neg_ℤ (pos m)) l in
    let b = dual_changed p c e.1 (neg_ℤ (pos m)) l in
    let t = one_end c (neg_ℤ (pos m)) e w.0.2 in
    ⊎_elim
    (λ h. let u : cond (is_end c e) (neg_ℤ (pos m)) (pos 0) ≡ neg_ℤ (pos m) = cond-true _ _ _ h in
    let v : cond {A = ℕ} (is_end c e) 1 0 ≡ 1 = cond-true _ _ _ h in
    let d : m * (cond {A = ℕ} (is_end c e) 1 0 + degree c es) ≡ m + m * degree c es = rw v (omega arith) in
    omega (arith, ints))
    (λ h. let u : cond (is_end c e) (neg_ℤ (pos m)) (pos 0) ≡ pos 0 = cond-false _ _ _ h in
    let v : cond {A = ℕ} (is_end c e) 1 0 ≡ 0 = cond-false _ _ _ h in
    let d : m * (cond {A = ℕ} (is_end c e) 1 0 + degree c es) ≡ m * degree c es = rw v (omega arith) in
    omega (arith, ints))
    (cases_Bool (is_end c e))

-- ---- changes that raise nothing

-- A one-tree of this weight and degree keeps the value of the changed duals low, where the dual rises by 2^10 and so by more.
pub still_up : (i : Instance) (p : List ℤ) (h w : ℤ) (c : ℕ) (es : List (ℕ × ℕ)) → AreDuals i.n p → c < i.n → IsOneTree i.n es
    → weight (reduced i p) es ≡ w → 2 ≤ degree c es
    → (w +ℤ sum_below (dual_of p) i.n +ℤ sum_below (dual_of p) i.n +ℤ pos (2 * 1024)) <ℤ (h +ℤ pos least_gain +ℤ pos (1024 * degree c es))
    → IsStill i p h c true
still_up i p h w c es d l t we two low k j ten forty sizes (v, least, is) =
    let m = 2 ^ k in
    let long : c < length p = let a = d.all in omega arith in
    let s = sum_changed p i.n c (pos m) d.all l in
    let e = weight_up i p c m es long t.within in
    let b = least.1 es t in
    let more = degree c es - 2 in
    let split : degree c es ≡ 2 + more = omega arith in
    let big : 2 ^ 10 ≤ m = pow-le-pow_right (omega arith) ten in
    let prod : 1024 * more ≤ m * more = mul-le-mul_right more big in
    let all : m * degree c es ≡ 2 * m + m * more = ap (λ x. m * x) split ∙ omega arith in
    omega (arith, ints)

pub still_down : (i : Instance) (p : List ℤ) (h w : ℤ) (c : ℕ) (es : List (ℕ × ℕ)) → AreDuals i.n p → c < i.n → IsOneTree i.n es
    → weight (reduced i p) es ≡ w → degree c es ≤ 2
    → (w +ℤ sum_below (dual_of p) i.n +ℤ sum_below (dual_of p) i.n +ℤ pos (1024 * degree c es)) <ℤ (h +ℤ pos least_gain +ℤ pos (2 * 1024))
    → IsStill i p h c false
still_down i p h w c es d l t we two low k j ten forty sizes (v, least, is) =
    let m = 2 ^ k in
    let long : c < length p = let a = d.all in omega arith in
    let s = sum_changed p i.n c (neg_ℤ (pos m)) d.all l in
    let e = weight_down i p c m es long t.within in
    let b = least.1 es t in
    let less = 2 - degree c es in
    let split : degree c es + less ≡ 2 = omega arith in
    let big : 2 ^ 10 ≤ m = pow-le-pow_right (omega arith) ten in
    let prod : 1024 * less ≤ m * less = mul-le-mul_right less big in
    let all : m * degree c es + m * less ≡ 2 * m = omega arith ∙ (ap (λ x. m * x) split ∙ omega arith) in
    omega (arith, ints)

-- where a lightest one-tree meets the city twice or more, or twice or less
pub still_by_tree : (i : Instance) (p : List ℤ) (h w : ℤ) (c : ℕ) (es : List (ℕ × ℕ)) → AreDuals i.n p → c < i.n → IsOneTree i.n es
    → weight (reduced i p) es ≡ w → IsLightest i.n (reduced i p) w → IsHeldKarp i p h → (2 ≤ degree c es → IsStill i p h c true) × (degree c es ≤ 2 → IsStill i p h c false)
still_by_tree i p h w c es d l t we least (v, (other, below), is) =
    let a = least other.0 other.1 in
    let o = other.2 in
    let b = below es t in
    ((λ two. still_up i p h w c es d l t we two (omega (arith, ints))), (λ two. still_down i p h w c es d l t we two (omega (arith, ints))))

-- where a change by 2^10 raises the value by less
pub still_up_by_value : (i : Instance) (p : List ℤ) (h g : ℤ) (c : ℕ) → HasValue i p h → c < i.n → IsHeldKarp i (changed p c (pos 1024)) g → g <ℤ (h +ℤ pos least_gain) → IsStill i p h c true
still_up_by_value i p h g c has l (v, ((es, t, same), least), is) low =
    let long : c < length p = let a = has.duals.all in omega arith in
    let s = sum_changed p i.n c (pos 1024) has.duals.all l in
    let e = weight_up i p c 1024 es long t.within in
    let b = has.value.1.1 es t in
    let f = has.value.2 in
    still_up i p h (weight (reduced i p) es) c es has.duals l t refl (omega (arith, ints)) (omega (arith, ints))

pub still_down_by_value : (i : Instance) (p : List ℤ) (h g : ℤ) (c : ℕ) → HasValue i p h → c < i.n → IsHeldKarp i (changed p c (neg_ℤ (pos 1024))) g → g <ℤ (h +ℤ pos least_gain) → IsStill i p h c false
still_down_by_value i p h g c has l (v, ((es, t, same), least), is) low =
    let long : c < length p = let a = has.duals.all in omega arith in
    let s = sum_changed p i.n c (neg_ℤ (pos 1024)) has.duals.all l in
    let e = weight_down i p c 1024 es long t.within in
    let b = has.value.1.1 es t in
    let f = has.value.2 in
    still_down i p h (weight (reduced i p) es) c es has.duals l t refl (omega (arith, ints)) (omega (arith, ints))

-- where a change by 2^10 leaves the size of duals
sizes_of : (n : ℕ) (p : List ℤ) (c : ℕ) (x : ℤ) → length p ≡ n → c < n → AreDuals n (changed p c x) → nat_abs (dual_of p c +ℤ x) ≤ 2 ^ 62
sizes_of n p c x e l d =
    let a = size_at (changed p c x) c d.sizes in
    let b : get_or (set p c (dual_of p c +ℤ x)) c (pos 0) ≡ dual_of p c +ℤ x = get_or-set_same p c _ (pos 0) (omega arith) in
    subst (λ y. nat_abs y ≤ 2 ^ 62) b a

pub still_outside : (i : Instance) (p : List ℤ) (h : ℤ) (c : ℕ) (up : Bool) → AreDuals i.n p → c < i.n → 2 ^ 62 < nat_abs (dual_of p c +ℤ moved up least_gain) → IsStill i p h c up
still_outside i p h c true d l far k j ten forty sizes is =
    let a = sizes_of i.n p c (pos (2 ^ k)) d.all l sizes in
    let b = size_at p c d.sizes in
    let big : 2 ^ 10 ≤ 2 ^ k = pow-le-pow_right (omega arith) ten in
    absurd (omega (arith, ints))
still_outside i p h c false d l far k j ten forty sizes is =
    let a = sizes_of i.n p c (neg_ℤ (pos (2 ^ k))) d.all l sizes in
    let b = size_at p c d.sizes in
    let big : 2 ^ 10 ≤ 2 ^ k = pow-le-pow_right (omega arith) ten in
    absurd (omega (arith, ints))

-- ---- as the code has them

-- what is read at a place of the list is the dual of the city
pub dual_read : (p : List ℤ) (c : ℕ) (x : ℤ) → c < length p → get_or p c x ≡ dual_of p c
dual_read [] c x l = absurd (omega arith)
dual_read (q ∷ p) zero x l = refl
dual_read (q ∷ p) (suc c) x l = dual_read p c x (omega arith)

-- one dual is set to what it changes to
pub set_is_changed : (p : List ℤ) (c : ℕ) (old new x : ℤ) → old ≡ dual_of p c → new ≡ old +ℤ x → set p c new ≡ changed p c x
set_is_changed p c old new x e f = ap (λ y. set p c y) (f ∙ ap (λ y. y +ℤ x) e)

-- and set back
pub set_back : (p : List ℤ) (c : ℕ) (old new : ℤ) → c < length p → old ≡ dual_of p c → set (set p c new) c old ≡ p
set_back p c old new l e = ap (λ y. set (set p c new) c y) e ∙ set_again p c new l

pub still_by_value : (i : Instance) (p : List ℤ) (h g : ℤ) (c : ℕ) (up : Bool) → HasValue i p h → c < i.n → IsHeldKarp i (changed p c (moved up least_gain)) g → g <ℤ (h +ℤ pos least_gain) → IsStill i p h c up
still_by_value i p h g c true has l is low = still_up_by_value i p h g c has l is low
still_by_value i p h g c false has l is low = still_down_by_value i p h g c has l is low

-- ---- one city more is still

pub stiller : (i : Instance) (p : List ℤ) (h : ℤ) (k : ℕ) → ((c : ℕ) (up : Bool) → c < k → IsStill i p h c up) → IsStill i p h k true → IsStill i p h k false
    → (c : ℕ) (up : Bool) → c < k + 1 → IsStill i p h c up
stiller i p h k before leaf hub c up l = ⊎_elim
    (λ e. subst (λ j. IsStill i p h j up) e (both up))
    (λ e. before c up (omega arith))
    (cases_eq k c)
  where
    both : (b : Bool) → IsStill i p h k b
    both true = leaf
    both false = hub

pub value_as : (i : Instance) (p q : List ℤ) (x y : ℤ) → IsHeldKarp i q y → q ≡ p → x ≡ y → IsHeldKarp i p x
value_as i p q x y h e f = subst (λ ps. IsHeldKarp i ps x) e (subst (λ z. IsHeldKarp i q z) (sym f) h)

pub has_as : (i : Instance) (p q : List ℤ) (x : ℤ) → HasValue i q x → p ≡ q → HasValue i p x
has_as i p q x h e = subst (λ ps. HasValue i ps x) (sym e) h

pub rest_as : (i : Instance) (p q : List ℤ) (h g : ℤ) → p ≡ q → h ≡ g → AreAtRest i q g → AreAtRest i p h
rest_as i p q h g e f r = subst (λ ps. AreAtRest i ps h) (sym e) (subst (λ x. AreAtRest i q x) (sym f) r)

-- a city that a lightest one-tree meets so often, where the direction that may raise the value was tried
pub still_side : (i : Instance) (p q : List ℤ) (h : ℤ) (w : ℤ) (c deg : ℕ) (es : List (ℕ × ℕ)) → HasValue i p h → c < i.n → q ≡ p → deg ≡ degree c es → IsOneTree i.n es
    → w ≡ weight (reduced i q) es → IsLightest i.n (reduced i q) w → (deg < 2 → IsStill i p h c true) → (2 < deg → IsStill i p h c false) → IsStill i p h c true × IsStill i p h c false
still_side i p q h w c deg es has l e d t we least leaf hub =
    let we2 : weight (reduced i p) es ≡ w = sym (we ∙ ap (λ ps. weight (reduced i ps) es) e) in
    let least2 : IsLightest i.n (reduced i p) w = subst (λ ps. IsLightest i.n (reduced i ps) w) e least in
    let both = still_by_tree i p h w c es has.duals l t we2 least2 has.value in
    ((⊎_elim (λ a. leaf a) (λ a. both.0 (omega arith)) (low_or deg)), (⊎_elim (λ a. hub a) (λ a. both.1 (omega arith)) (high_or deg)))
  where
    low_or : (k : ℕ) → (k < 2) ⊎ (2 ≤ k)
    low_or k = grind arith

    high_or : (k : ℕ) → (2 < k) ⊎ (k ≤ 2)
    high_or k = grind arith

fits_small : (y : ℤ) → nat_abs y ≤ 2 ^ 62 → SFits w64 y
fits_small (pos n) h = record { sfits = omega arith }
fits_small (negsuc n) h = record { sfits = omega arith }

-- a dual as it is kept
pub same_dual : (y : ℤ) → nat_abs y ≤ 2 ^ 62 → to_z w64 (of_z w64 y) ≡ y
same_dual y h = to_z-of_z w64 y (fits_small y h)

pub same_read : (p : List ℤ) (n c : ℕ) (old : ℤ) → AreDuals n p → c < n → old ≡ get_or p c old → (old ≡ dual_of p c) × (to_z w64 (of_z w64 old) ≡ old)
same_read p n c old d l e =
    let long : c < length p = let a = d.all in omega arith in
    let f : old ≡ dual_of p c = e ∙ dual_read p c old long in
    (f, same_dual old (subst (λ y. nat_abs y ≤ 2 ^ 62) (sym f) (size_at p c d.sizes)))

pub still_as : (i : Instance) (p q : List ℤ) (h g : ℤ) (c : ℕ) (up : Bool) → p ≡ q → h ≡ g → IsStill i p h c up → IsStill i q g c up
still_as i p q h g c up e f s = subst (λ ps. IsStill i ps g c up) e (subst (λ x. IsStill i p x c up) f s)

pub not_true : (b : Bool) → b ≡ false → IsTrue b → ⊥
not_true b e t = cc

pub is_true : (b : Bool) → b ≡ true → IsTrue b
is_true b e = e

-- a value that rose is no lower
pub reaches_at_rest : (i : Instance) (steps : ℕ) (p : List ℤ) (z x h g : ℤ) (k : ℕ) → z ≡ x → (x +ℤ pos (k * least_gain)) ≤ℤ g → h ≡ g → AreAtRest i p h → Reaches i steps p z h
reaches_at_rest i steps p z x h g k same low e rest = inr ((let a : pos 0 ≤ℤ pos (k * least_gain) = omega (arith, ints) in omega (arith, ints)), rest)

-- ---- the value of all duals 0 is not negative

zero_dual : (n v : ℕ) → dual_of (zeros n) v ≡ pos 0
zero_dual zero v = refl
zero_dual (suc n) zero = refl
zero_dual (suc n) (suc v) = zero_dual n v

zero_weight : (i : Instance) (es : List (ℕ × ℕ)) → pos 0 ≤ℤ weight (reduced i (zeros i.n)) es
zero_weight i [] = omega (arith, ints)
zero_weight i (e ∷ es) =
    let ih = zero_weight i es in
    let a = zero_dual i.n e.0 in
    let b = zero_dual i.n e.1 in
    omega (arith, ints)

zero_value : (i : Instance) (z : ℤ) → IsHeldKarp i (zeros i.n) z → pos 0 ≤ℤ z
zero_value i z (w, ((es, t, same), least), is) =
    let a = zero_weight i es in
    let s = sum_below-same (dual_of (zeros i.n)) (λ k. pos 0) i.n (λ k l. zero_dual i.n k) ∙ sum_below-zero i.n in
    omega (arith, ints)

no_lower : (i : Instance) (steps : ℕ) (p : List ℤ) (z h : ℤ) → Reaches i steps p z h → z ≤ℤ h
no_lower i steps p z h r = ⊎_elim (λ a. let b : pos 0 ≤ℤ pos (steps * least_gain) = omega (arith, ints) in omega (arith, ints)) (λ a. a.0) r

-- so raised duals prove some bound
pub raised_some : (i : Instance) (steps : ℕ) (p : List ℤ) → AreRaised i steps p → (h : ℤ) → IsHeldKarp i p h → neg_ℤ (pos scale) <ℤ h
raised_some i steps p r h is =
    let one = held_karp_is_one i p h r.value is r.value_is in
    let low = no_lower i steps p r.start r.value r.reached in
    let some = zero_value i r.start r.start_is in
    omega (arith, ints)
