-- Whether an odd number of entries above a half cross a set: sums of sets, complements and sets of nothing.
use Rattle.std.proofs.Common.{◌≡◌, ℕ, ◌<◌, Bool, true, false, not, ◌&&◌, ◌||◌, List, [], ◌∷◌, refl, sym, ap, ◌∙◌}
use Rattle.std.specs.List.{AllByRecursion}
use Rattle.cyc.specs.declared.frac.Entry.{Entry}
use Rattle.cyc.specs.Frac.{IsEntry}
use Rattle.sepodd.specs.Folding.{is_over, differ, is_odd}

-- sums of sums
medial : (a b c d : Bool) → differ (differ a b) (differ c d) ≡ differ (differ a c) (differ b d)
medial true true true true = refl
medial true true true false = refl
medial true true false true = refl
medial true true false false = refl
medial true false true true = refl
medial true false true false = refl
medial true false false true = refl
medial true false false false = refl
medial false true true true = refl
medial false true true false = refl
medial false true false true = refl
medial false true false false = refl
medial false false true true = refl
medial false false true false = refl
medial false false false true = refl
medial false false false false = refl

pub differ_self : (a : Bool) → differ a a ≡ false
differ_self true = refl
differ_self false = refl

pub differ_none : (a : Bool) → differ a false ≡ a
differ_none true = refl
differ_none false = refl

pub differ_assoc : (a b c : Bool) → differ (differ a b) c ≡ differ a (differ b c)
differ_assoc true true true = refl
differ_assoc true true false = refl
differ_assoc true false true = refl
differ_assoc true false false = refl
differ_assoc false b c = refl

sum_step : (o pu qu pv qv ip iq : Bool) → differ (o && differ (differ pu qu) (differ pv qv)) (differ ip iq) ≡ differ (differ (o && differ pu pv) ip) (differ (o && differ qu qv) iq)
sum_step true pu qu pv qv ip iq = ap (λ z. differ z (differ ip iq)) (medial pu qu pv qv) ∙ medial (differ pu pv) (differ qu qv) ip iq
sum_step false pu qu pv qv ip iq = refl

same_step : (o pu pv qu qv ip iq : Bool) → pu ≡ qu → pv ≡ qv → ip ≡ iq → differ (o && differ pu pv) ip ≡ differ (o && differ qu qv) iq
same_step o pu pv qu qv ip iq u v i = ap (λ z. differ (o && differ z pv) ip) u ∙ ap (λ z. differ (o && differ qu z) ip) v ∙ ap (λ z. differ (o && differ qu qv) z) i

-- it is told by the cities below n
pub odd_same : (n : ℕ) (es : List Entry) (p q : ℕ → Bool) → AllByRecursion (IsEntry n) es → ((k : ℕ) → k < n → p k ≡ q k) → is_odd es p ≡ is_odd es q
odd_same n [] p q a e = refl
odd_same n (w ∷ es) p q a e = same_step (is_over w.x) (p w.u) (p w.v) (q w.u) (q w.v) (is_odd es p) (is_odd es q) (e w.u a.0.u_below) (e w.v a.0.v_below) (odd_same n es p q a.1 e)

-- of a set of the cities that are in exactly one of two
pub odd_sum : (n : ℕ) (es : List Entry) (p q r : ℕ → Bool) → AllByRecursion (IsEntry n) es → ((k : ℕ) → k < n → r k ≡ differ (p k) (q k)) → is_odd es r ≡ differ (is_odd es p) (is_odd es q)
odd_sum n [] p q r a e = refl
odd_sum n (w ∷ es) p q r a e =
    same_step (is_over w.x) (r w.u) (r w.v) (differ (p w.u) (q w.u)) (differ (p w.v) (q w.v)) (is_odd es r) (differ (is_odd es p) (is_odd es q)) (e w.u a.0.u_below) (e w.v a.0.v_below) (odd_sum n es p q r a.1 e)
    ∙ sum_step (is_over w.x) (p w.u) (q w.u) (p w.v) (q w.v) (is_odd es p) (is_odd es q)

-- of no city
pub odd_none : (n : ℕ) (es : List Entry) (p : ℕ → Bool) → AllByRecursion (IsEntry n) es → ((k : ℕ) → k < n → p k ≡ false) → is_odd es p ≡ false
odd_none n es p a e = odd_sum n es p p p a (λ k h. e k h ∙ sym (differ_self (p k))) ∙ differ_self (is_odd es p)

not_step : (o pu pv ip iq : Bool) → ip ≡ iq → differ (o && differ (not pu) (not pv)) ip ≡ differ (o && differ pu pv) iq
not_step o true true ip iq i = ap (λ z. differ (o && false) z) i
not_step o true false ip iq i = ap (λ z. differ (o && true) z) i
not_step o false true ip iq i = ap (λ z. differ (o && true) z) i
not_step o false false ip iq i = ap (λ z. differ (o && false) z) i

-- of all other cities
pub odd_not : (es : List Entry) (p : ℕ → Bool) → is_odd es (λ k. not (p k)) ≡ is_odd es p
odd_not [] p = refl
odd_not (w ∷ es) p = not_step (is_over w.x) (p w.u) (p w.v) (is_odd es (λ k. not (p k))) (is_odd es p) (odd_not es p)

both_case : (a b : Bool) → differ a b ≡ differ (a && b) (a || b)
both_case true true = refl
both_case true false = refl
both_case false true = refl
both_case false false = refl

-- of what is in both and of what is in one
pub odd_meet_join : (n : ℕ) (es : List Entry) (p q : ℕ → Bool) → AllByRecursion (IsEntry n) es
    → differ (is_odd es (λ k. p k && q k)) (is_odd es (λ k. p k || q k)) ≡ differ (is_odd es p) (is_odd es q)
odd_meet_join n es p q a =
    sym (odd_sum n es (λ k. p k && q k) (λ k. p k || q k) (λ k. differ (p k) (q k)) a (λ k h. both_case (p k) (q k)))
    ∙ odd_sum n es p q (λ k. differ (p k) (q k)) a (λ k h. refl)

parts_case : (a b : Bool) → a ≡ differ (a && b) (a && not b)
parts_case true true = refl
parts_case true false = refl
parts_case false true = refl
parts_case false false = refl

-- of what is in a set and of what is not
pub odd_parts : (n : ℕ) (es : List Entry) (p q : ℕ → Bool) → AllByRecursion (IsEntry n) es
    → is_odd es p ≡ differ (is_odd es (λ k. p k && q k)) (is_odd es (λ k. p k && not (q k)))
odd_parts n es p q a = odd_sum n es (λ k. p k && q k) (λ k. p k && not (q k)) p a (λ k h. parts_case (p k) (q k))
