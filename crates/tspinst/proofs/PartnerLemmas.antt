-- Each city's partners, with a pair more.
use Rattle.std.proofs.Common.{◌≡◌, ◌≢◌, ℕ, ◌+◌, ◌<◌, ◌≤◌, ◌⊎◌, inl, inr, Bool, true, false, cond, ltb, ◌==◌, ◌||◌, ◌&&◌, List, [], ◌∷◌, length, get_or, set, refl, sym, ◌∙◌, ap, arith, get_or-set_other, length-set}
use Rattle.std.specs.List.{AllByRecursion}
use Rattle.std.proofs.lemmas.Bool.{ne_eqb, cases_lt}
use Rattle.std.proofs.lemmas.Bool.Decides.{eqb_tells, nat_tests}
use Rattle.std.proofs.lemmas.Grind.{get_or-set_at}
use Rattle.tspdef.specs.Tours.{has_step, joins}
use Rattle.tspdef.specs.Fixed.{pairs_at}
use Rattle.tspinst.specs.Fixings.{with_pair, partners_at, is_partner, with_partner, partners_of, TellPartners, ArePartners}
use Rattle.tspinst.proofs.TableLemmas.{same_eqb}
use Rattle.tspinst.proofs.PairLemmas.{pairs_at_with, has_step_with}

-- no pair reaches beyond the cities
pub none_beyond : (n : ℕ) (pairs : List (ℕ × ℕ)) (u v : ℕ) → AllByRecursion (λ p. (p.0 < p.1) × (p.1 < n)) pairs → n ≤ v → has_step pairs u v ≡ false
none_beyond n [] u v all l = refl
none_beyond n (p ∷ ps) u v all l =
    let a = all.0.0 in let b = all.0.1 in
    let x : (p.1 == v) ≡ false = ne_eqb p.1 v (λ e. let f = e in omega arith) in
    let y : (p.0 == v) ≡ false = ne_eqb p.0 v (λ e. let f = e in omega arith) in
    rw (x, y, none_beyond n ps u v all.1 l) (off (p.0 == u) (p.1 == u))
  where
    off : (a b : Bool) → (((a && false) || (false && b)) || false) ≡ false
    off true b = refl
    off false b = refl

-- partners tell of all numbers, cities or not
pub tells_all : (n : ℕ) (pairs partners : List (ℕ × ℕ)) → AllByRecursion (λ p. (p.0 < p.1) × (p.1 < n)) pairs → TellPartners n pairs partners → (u v : ℕ) → (ltb v n && is_partner (partners_at n partners u) v) ≡ has_step pairs u v
tells_all n pairs partners below told u v = elim (cases_lt v n) [
  | inl l ↦ let x : ltb v n ≡ true = grind (arith, nat_tests) in rw x (sym (told u v l))
  | inr g ↦ let x : ltb v n ≡ false = grind (arith, nat_tests) in rw x (sym (none_beyond n pairs u v below g))
]

module _ (n : ℕ) where
  one_more_partner : (p : ℕ × ℕ) (c y : ℕ) → y < n → partners_of n p ≤ 1 → is_partner (with_partner n p c) y ≡ ((c == y) || is_partner p y)
  one_more_partner (a, b) c y l few = elim (eqb_tells a n) [
    | inl at ↦ let e : (a == y) ≡ false = ne_eqb a y (λ e. let x = at.1 in omega arith) in rw (at.0, e) refl
    | inr off ↦ elim (eqb_tells b n) [
      | inl at ↦ let e : (b == y) ≡ false = ne_eqb b y (λ e. let x = at.1 in omega arith) in rw (off.0, e) (turned (a == y) (c == y))
      | inr at ↦ absurd (let k : 2 ≤ 1 = rw (off.0, at.0) at few in omega arith)
    ]
  ]
    where
      turned : (p q : Bool) → (p || q) ≡ (q || (p || false))
      turned true true = refl
      turned true false = refl
      turned false true = refl
      turned false false = refl

  one_more_count : (p : ℕ × ℕ) (c : ℕ) → c < n → partners_of n p ≤ 1 → partners_of n (with_partner n p c) ≡ 1 + partners_of n p
  one_more_count (a, b) c l few =
      let e : (c == n) ≡ false = ne_eqb c n (λ e. let x = e in omega arith) in
      elim (eqb_tells a n) [
        | inl at ↦ rw (at.0, e) (omega arith)
        | inr off ↦ elim (eqb_tells b n) [
          | inl at ↦ let w : with_partner n (a, b) c ≡ (a, c) = rw off.0 refl in rw (w, off.0, e, at.0) (omega arith)
          | inr at ↦ absurd (let k : 2 ≤ 1 = rw (off.0, at.0) at few in omega arith)
        ]
      ]

  module _ (pairs partners : List (ℕ × ℕ)) (u v : ℕ) (told : ArePartners n pairs partners) (lu : u < n) (lv : v < n) (apart : u ≢ v) (few_u : pairs_at pairs u < 2) (few_v : pairs_at pairs v < 2) where
    abbrev once : List (ℕ × ℕ)
    once = set partners u (with_partner n (partners_at n partners u) v)

    abbrev twice : List (ℕ × ℕ)
    twice = set once v (with_partner n (partners_at n once v) u)

    long : length once ≡ n
    long = length-set partners u (with_partner n (partners_at n partners u) v) ∙ told.all

    once_v : partners_at n once v ≡ partners_at n partners v
    once_v = get_or-set_other partners u v (with_partner n (partners_at n partners u) v) (n, n) (λ e. apart (sym e))

    twice_v : partners_at n twice v ≡ with_partner n (partners_at n partners v) u
    twice_v = get_or-set_at once v v (with_partner n (partners_at n once v) u) (n, n) refl (rw long lv) ∙ ap (λ (p : ℕ × ℕ). with_partner n p u) once_v

    twice_u : partners_at n twice u ≡ with_partner n (partners_at n partners u) v
    twice_u = get_or-set_other once v u (with_partner n (partners_at n once v) u) (n, n) apart ∙ get_or-set_at partners u u (with_partner n (partners_at n partners u) v) (n, n) refl (rw told.all lu)

    twice_other : (x : ℕ) → x ≢ u → x ≢ v → partners_at n twice x ≡ partners_at n partners x
    twice_other x a b = get_or-set_other once v x (with_partner n (partners_at n once v) u) (n, n) b ∙ get_or-set_other partners u x (with_partner n (partners_at n partners u) v) (n, n) a

    few_at_u : partners_of n (partners_at n partners u) ≤ 1
    few_at_u = let e = told.count u lu in omega arith

    few_at_v : partners_of n (partners_at n partners v) ≤ 1
    few_at_v = let e = told.count v lv in omega arith

    u_not_v : (u == v) ≡ false
    u_not_v = ne_eqb u v apart

    v_not_u : (v == u) ≡ false
    v_not_u = ne_eqb v u (λ e. apart (sym e))

    tell_after : (x y : ℕ) → y < n → has_step (with_pair (u, v) pairs) x y ≡ is_partner (partners_at n twice x) y
    tell_after x y l = has_step_with (u, v) pairs x y ∙ elim (eqb_tells x u) [
      | inl at ↦ rw (at.1, twice_u, one_more_partner (partners_at n partners u) v y l few_at_u, told.tell u y l, same_eqb u, v_not_u) (first (v == y) (u == y) (is_partner (partners_at n partners u) y))
      | inr off ↦ elim (eqb_tells x v) [
        | inl at ↦ rw (at.1, twice_v, one_more_partner (partners_at n partners v) u y l few_at_v, told.tell v y l, same_eqb v, u_not_v) (second (v == y) (u == y) (is_partner (partners_at n partners v) y))
        | inr at ↦
            let a : (u == x) ≡ false = ne_eqb u x (λ e. off.1 (sym e)) in
            let b : (v == x) ≡ false = ne_eqb v x (λ e. at.1 (sym e)) in
            rw (twice_other x off.1 at.1, told.tell x y l, a, b) (neither (u == y) (is_partner (partners_at n partners x) y))
      ]
    ]
      where
        first : (a b r : Bool) → (((true && a) || (b && false)) || r) ≡ (a || r)
        first true b r = refl
        first false true r = refl
        first false false r = refl

        second : (a b r : Bool) → (((false && a) || (b && true)) || r) ≡ (b || r)
        second a true r = refl
        second a false r = refl

        neither : (b r : Bool) → (((false && b) || (b && false)) || r) ≡ r
        neither true r = refl
        neither false r = refl

    count_after : (x : ℕ) → x < n → pairs_at (with_pair (u, v) pairs) x ≡ partners_of n (partners_at n twice x)
    count_after x l = pairs_at_with (u, v) pairs x ∙ elim (eqb_tells x u) [
      | inl at ↦ rw (at.1, twice_u, one_more_count (partners_at n partners u) v lv few_at_u, same_eqb u) (let e = told.count u lu in omega arith)
      | inr off ↦ elim (eqb_tells x v) [
        | inl at ↦ rw (at.1, twice_v, one_more_count (partners_at n partners v) u lu few_at_v, u_not_v, same_eqb v) (let e = told.count v lv in omega arith)
        | inr at ↦
            let a : (u == x) ≡ false = ne_eqb u x (λ e. off.1 (sym e)) in
            let b : (v == x) ≡ false = ne_eqb v x (λ e. at.1 (sym e)) in
            rw (twice_other x off.1 at.1, a, b) (let e = told.count x l in omega arith)
      ]
    ]

    pub partners_with : ArePartners n (with_pair (u, v) pairs) twice
    partners_with = record {
      all = length-set once v (with_partner n (partners_at n once v) u) ∙ long;
      tell = tell_after;
      count = count_after;
    }

    pub few_with : ((c : ℕ) → pairs_at pairs c ≤ 2) → (c : ℕ) → pairs_at (with_pair (u, v) pairs) c ≤ 2
    few_with few c = rw (pairs_at_with (u, v) pairs c) (elim (eqb_tells u c) [
      | inl at ↦ rw at.0 (let e : pairs_at pairs c < 2 = rw (← at.1) few_u in omega arith)
      | inr off ↦ elim (eqb_tells v c) [
        | inl at ↦ rw (off.0, at.0) (let e : pairs_at pairs c < 2 = rw (← at.1) few_v in omega arith)
        | inr at ↦ rw (off.0, at.0) (let e = few c in omega arith)
      ]
    ])
