use Rattle.std.proofs.Common.{◌≡◌, ℕ, zero, suc, ◌+◌, ◌<◌, ◌≤◌, Bool, true, false, cond, eqb, not, ◌||◌, ◌&&◌, List, [], ◌∷◌, ◌++◌, length, refl, sym, ◌∙◌, ap, subst, arith, ◌⊎◌, inl, inr, ⊎_elim}
use Rattle.std.specs.Prelude.{ℤ, ◌+ℤ◌, ◌≤ℤ◌}
use Rattle.std.specs.List.{AllByRecursion}
use Rattle.std.proofs.lemmas.Int.{ints}
use Rattle.std.proofs.lemmas.Bool.{cases_Bool, cases_lt, or_cases, or_left, or_right, cond-true, cond-false, eq-eqb, ne_eqb, eqb-true, and_parts, and_from, and_left, and_right, false_from_ne_true}
use Rattle.tspdef.specs.Tours.{crosses, crossings}
use Rattle.onetree.specs.OneTrees.{weight}
use Rattle.onetree.specs.Growing.{IsInner, with_city, ConnectsFrom}

-- ---- a pair that crosses

pub crossings-append : (q : ℕ → Bool) (es fs : List (ℕ × ℕ)) → crossings q (es ++ fs) ≡ crossings q es + crossings q fs
crossings-append q [] fs = omega arith
crossings-append q (e ∷ es) fs = let ih = crossings-append q es fs in omega arith

-- a pair of a list that crosses the set, with those before it and behind it
record Crossing (q : ℕ → Bool) (es : List (ℕ × ℕ)) : Type 0 where
  pub front : List (ℕ × ℕ)
  pub pair : ℕ × ℕ
  pub back : List (ℕ × ℕ)
  pub whole : es ≡ front ++ pair ∷ back
  pub crossed : crosses q pair ≡ true

crossing_pair : (q : ℕ → Bool) (es : List (ℕ × ℕ)) → (crossings q es ≡ 0 → ⊥) → Crossing q es
crossing_pair q [] h = absurd (h refl)
crossing_pair q (e ∷ es) h = ⊎_elim
    (λ j. record { front = []; pair = e; back = es; whole = refl; crossed = j })
    (λ j. let none : cond {A = ℕ} (crosses q e) 1 0 ≡ 0 = cond-false _ _ _ j in
    let r = crossing_pair q es (λ z. h (omega arith)) in
    record { front = e ∷ r.front; pair = r.pair; back = r.back; whole = ap (λ fs. e ∷ fs) r.whole; crossed = r.crossed })
    (cases_Bool (crosses q e))

-- ---- the pairs with both ends in a set

abbrev inner : (ℕ → Bool) → List (ℕ × ℕ) → List (ℕ × ℕ)
inner r [] = []
inner r (e ∷ es) = cond (r e.0 && r e.1) (e ∷ inner r es) (inner r es)

inner_more : (q r t : ℕ → Bool) → ((k : ℕ) → r k ≡ true → t k ≡ true) → (es : List (ℕ × ℕ)) → crossings q (inner r es) ≤ crossings q (inner t es)
inner_more q r t h [] = omega arith
inner_more q r t h (e ∷ es) =
    let ih = inner_more q r t h es in
    ⊎_elim
    (λ j. let p = and_parts _ _ j in
    let a = ap (crossings q) (cond-true (r e.0 && r e.1) (e ∷ inner r es) (inner r es) j) in
    let b = ap (crossings q) (cond-true (t e.0 && t e.1) (e ∷ inner t es) (inner t es) (and_from _ _ (h e.0 p.0) (h e.1 p.1))) in
    omega arith)
    (λ j. let a = ap (crossings q) (cond-false (r e.0 && r e.1) (e ∷ inner r es) (inner r es) j) in
    ⊎_elim
    (λ k. let b = ap (crossings q) (cond-true (t e.0 && t e.1) (e ∷ inner t es) (inner t es) k) in omega arith)
    (λ k. let b = ap (crossings q) (cond-false (t e.0 && t e.1) (e ∷ inner t es) (inner t es) k) in omega arith)
    (cases_Bool (t e.0 && t e.1)))
    (cases_Bool (r e.0 && r e.1))

inner_all : (q r : ℕ → Bool) (es : List (ℕ × ℕ)) → crossings q (inner r es) ≤ crossings q es
inner_all q r [] = omega arith
inner_all q r (e ∷ es) =
    let ih = inner_all q r es in
    ⊎_elim
    (λ j. let a = ap (crossings q) (cond-true (r e.0 && r e.1) (e ∷ inner r es) (inner r es) j) in omega arith)
    (λ j. let a = ap (crossings q) (cond-false (r e.0 && r e.1) (e ∷ inner r es) (inner r es) j) in omega arith)
    (cases_Bool (r e.0 && r e.1))

-- a pair that is not in the set counts for nothing
inner_without : (q r : ℕ → Bool) (front : List (ℕ × ℕ)) (f : ℕ × ℕ) (back : List (ℕ × ℕ)) → (r f.0 && r f.1) ≡ false
    → crossings q (inner r (front ++ f ∷ back)) ≡ crossings q (inner r (front ++ back))
inner_without q r [] f back h = ap (crossings q) (cond-false (r f.0 && r f.1) (f ∷ inner r back) (inner r back) h)
inner_without q r (e ∷ es) f back h =
    let ih = inner_without q r es f back h in
    ⊎_elim
    (λ j. let a = ap (crossings q) (cond-true (r e.0 && r e.1) (e ∷ inner r (es ++ f ∷ back)) (inner r (es ++ f ∷ back)) j) in
    let b = ap (crossings q) (cond-true (r e.0 && r e.1) (e ∷ inner r (es ++ back)) (inner r (es ++ back)) j) in omega arith)
    (λ j. let a = ap (crossings q) (cond-false (r e.0 && r e.1) (e ∷ inner r (es ++ f ∷ back)) (inner r (es ++ f ∷ back)) j) in
    let b = ap (crossings q) (cond-false (r e.0 && r e.1) (e ∷ inner r (es ++ back)) (inner r (es ++ back)) j) in omega arith)
    (cases_Bool (r e.0 && r e.1))

-- a pair in the set counts
inner_at : (q r : ℕ → Bool) (front : List (ℕ × ℕ)) (f : ℕ × ℕ) (back : List (ℕ × ℕ)) → (r f.0 && r f.1) ≡ true
    → cond {A = ℕ} (crosses q f) 1 0 ≤ crossings q (inner r (front ++ f ∷ back))
inner_at q r [] f back h = let a = ap (crossings q) (cond-true (r f.0 && r f.1) (f ∷ inner r back) (inner r back) h) in omega arith
inner_at q r (e ∷ es) f back h =
    let ih = inner_at q r es f back h in
    ⊎_elim
    (λ j. let a = ap (crossings q) (cond-true (r e.0 && r e.1) (e ∷ inner r (es ++ f ∷ back)) (inner r (es ++ f ∷ back)) j) in omega arith)
    (λ j. let a = ap (crossings q) (cond-false (r e.0 && r e.1) (e ∷ inner r (es ++ f ∷ back)) (inner r (es ++ f ∷ back)) j) in omega arith)
    (cases_Bool (r e.0 && r e.1))

-- ---- how many cities are outside a set

abbrev outside : (ℕ → Bool) → ℕ → ℕ
outside r zero = 0
outside r (suc n) = cond (r n) 0 1 + outside r n

outside_beyond : (r : ℕ → Bool) (z n : ℕ) → n ≤ z → outside (with_city r z) n ≡ outside r n
outside_beyond r z zero h = refl
outside_beyond r z (suc n) h =
    let ih = outside_beyond r z n (omega arith) in
    let here : with_city r z n ≡ r n = ap (λ b. b || r n) (ne_eqb z n (omega arith)) in
    let same : cond {A = ℕ} (with_city r z n) 0 1 ≡ cond (r n) 0 1 = ap (λ b. cond {A = ℕ} b 0 1) here in
    omega arith

outside_less : (r : ℕ → Bool) (z n : ℕ) → z < n → r z ≡ false → outside (with_city r z) n + 1 ≡ outside r n
outside_less r z zero h e = absurd (omega arith)
outside_less r z (suc n) h e = ⊎_elim
    (λ l. let ih = outside_less r z n l e in
    let here : with_city r z n ≡ r n = ap (λ b. b || r n) (ne_eqb z n (omega arith)) in
    let same : cond {A = ℕ} (with_city r z n) 0 1 ≡ cond (r n) 0 1 = ap (λ b. cond {A = ℕ} b 0 1) here in
    omega arith)
    (λ l. let is : z ≡ n = omega arith in
    let rest = outside_beyond r z n (omega arith) in
    let now : cond {A = ℕ} (with_city r z n) 0 1 ≡ 0 = cond-true _ _ _ (or_left _ _ (eq-eqb z n is)) in
    let was : cond {A = ℕ} (r n) 0 1 ≡ 1 = cond-false _ _ _ (subst (λ k. r k ≡ false) is e) in
    omega arith)
    (cases_lt z n)

-- ---- the exchange

-- a set that grows from b through pairs, and keeps out of s
record IsPart (n : ℕ) (s : ℕ → Bool) (es : List (ℕ × ℕ)) (b : ℕ) (r : ℕ → Bool) : Type 0 where
  pub here : r b ≡ true
  pub out : (k : ℕ) → r k ≡ true → s k ≡ false
  pub joined : (q : ℕ → Bool) → crossings q (inner r es) ≡ 0 → (k : ℕ) → r k ≡ true → q k ≡ q b

-- a pair from the set to the part, with the others
record Link (n : ℕ) (s : ℕ → Bool) (es : List (ℕ × ℕ)) (b : ℕ) : Type 0 where
  pub part : ℕ → Bool
  pub is_part : IsPart n s es b part
  pub front : List (ℕ × ℕ)
  pub pair : ℕ × ℕ
  pub back : List (ℕ × ℕ)
  pub whole : es ≡ front ++ pair ∷ back
  pub ends : ((s pair.0 ≡ true) × (part pair.1 ≡ true)) ⊎ ((part pair.0 ≡ true) × (s pair.1 ≡ true))

inner_pair : (n : ℕ) (front : List (ℕ × ℕ)) (f : ℕ × ℕ) (back : List (ℕ × ℕ)) → AllByRecursion (IsInner n) (front ++ f ∷ back) → IsInner n f
inner_pair n [] f back w = w.0
inner_pair n (e ∷ es) f back w = inner_pair n es f back w.1

others : (n : ℕ) (front : List (ℕ × ℕ)) (f : ℕ × ℕ) (back : List (ℕ × ℕ)) → AllByRecursion (IsInner n) (front ++ f ∷ back) → AllByRecursion (IsInner n) (front ++ back)
others n [] f back w = w.1
others n (e ∷ es) f back w = (w.0, others n es f back w.1)

crossed_ends : (x y : Bool) → cond x (not y) y ≡ true → ((x ≡ true) × (y ≡ false)) ⊎ ((x ≡ false) × (y ≡ true))
crossed_ends true true h = cc
crossed_ends true false h = inl (refl, refl)
crossed_ends false true h = inr (refl, refl)
crossed_ends false false h = cc

same_ends : (x y : Bool) → cond x (not y) y ≡ false → x ≡ y
same_ends true true h = refl
same_ends true false h = cc
same_ends false true h = cc
same_ends false false h = refl

same_sides : (x y : Bool) → x ≡ y → cond x (not y) y ≡ false
same_sides true true h = refl
same_sides true false h = cc
same_sides false true h = cc
same_sides false false h = refl

pub uncrossed : (q : ℕ → Bool) (f : ℕ × ℕ) → cond {A = ℕ} (crosses q f) 1 0 ≡ 0 → q f.0 ≡ q f.1
uncrossed q f h = same_ends (q f.0) (q f.1) (false_from_ne_true _ (λ e. let g : cond {A = ℕ} (crosses q f) 1 0 ≡ 1 = cond-true _ _ _ e in omega arith))

-- the part with one more city, which a pair joins to it
part_more : (n : ℕ) (s : ℕ → Bool) (es : List (ℕ × ℕ)) (b : ℕ) (r : ℕ → Bool) (front : List (ℕ × ℕ)) (f : ℕ × ℕ) (back : List (ℕ × ℕ)) (x z : ℕ)
    → IsPart n s es b r → es ≡ front ++ f ∷ back → r x ≡ true → s z ≡ false → ((f.0 ≡ x) × (f.1 ≡ z)) ⊎ ((f.0 ≡ z) × (f.1 ≡ x)) → IsPart n s es b (with_city r z)
part_more n s es b r front f back x z p whole rx sz ends =
    let t = with_city r z in
    let tx : t x ≡ true = or_right _ _ rx in
    let tz : t z ≡ true = or_left _ _ (eq-eqb z z refl) in
    let both : (t f.0 && t f.1) ≡ true = ⊎_elim (λ h. and_from _ _ (ap t h.0 ∙ tx) (ap t h.1 ∙ tz)) (λ h. and_from _ _ (ap t h.0 ∙ tz) (ap t h.1 ∙ tx)) ends in
    record {
      here = or_right _ _ p.here;
      out = λ k h. ⊎_elim (λ e. subst (λ m. s m ≡ false) (eqb-true z k e) sz) (λ e. p.out k e) (or_cases (eqb z k) (r k) h);
      joined = λ q none k h.
          let less = inner_more q r t (λ m e. or_right _ _ e) es in
          let old = p.joined q (omega arith) in
          let at = inner_at q t front f back both in
          let there : crossings q (inner t (front ++ f ∷ back)) ≡ 0 = subst (λ fs. crossings q (inner t fs) ≡ 0) whole none in
          let over = uncrossed q f (omega arith) in
          let link : q x ≡ q z = ⊎_elim (λ e. ap q (sym e.0) ∙ over ∙ ap q e.1) (λ e. ap q (sym e.1) ∙ sym over ∙ ap q e.0) ends in
          ⊎_elim (λ e. ap q (sym (eqb-true z k e)) ∙ sym link ∙ old x rx) (λ e. old k e) (or_cases (eqb z k) (r k) h);
    }

-- the part can grow
record Growth (n : ℕ) (s : ℕ → Bool) (es : List (ℕ × ℕ)) (b : ℕ) (r : ℕ → Bool) : Type 0 where
  pub city : ℕ
  pub below : city < n
  pub new : r city ≡ false
  pub is_part : IsPart n s es b (with_city r city)

look : (n : ℕ) (s : ℕ → Bool) (es : List (ℕ × ℕ)) (b : ℕ) (r : ℕ → Bool) → 3 ≤ n → AllByRecursion (IsInner n) es → 0 < b → b < n → s 1 ≡ true → ConnectsFrom n s es
    → IsPart n s es b r → Link n s es b ⊎ Growth n s es b r
look n s es b r many w b0 bn root con p =
    let one : r 1 ≡ false = false_from_ne_true _ (λ e. let o = p.out 1 e in cc) in
    let still = λ (x : ℕ) (h : s x ≡ true). false_from_ne_true (r x) (λ e. let o = p.out x e in cc) in
    let c = crossing_pair r es (λ none. let e = con r none (λ x y x0 xn y0 yn sx sy. still x sx ∙ sym (still y sy)) b 1 b0 bn (omega arith) (omega arith) in let h = p.here in cc) in
    let is = inner_pair n c.front c.pair c.back (subst (AllByRecursion (IsInner n)) c.whole w) in
    ⊎_elim
    (λ e. ⊎_elim
    (λ sz. inl (record { part = r; is_part = p; front = c.front; pair = c.pair; back = c.back; whole = c.whole; ends = inr (e.0, sz) }))
    (λ sz. inr (record { city = c.pair.1; below = is.second_in; new = e.1; is_part = part_more n s es b r c.front c.pair c.back c.pair.0 c.pair.1 p c.whole e.0 sz (inl (refl, refl)) }))
    (cases_Bool (s c.pair.1)))
    (λ e. ⊎_elim
    (λ sz. inl (record { part = r; is_part = p; front = c.front; pair = c.pair; back = c.back; whole = c.whole; ends = inl (sz, e.1) }))
    (λ sz. inr (record { city = c.pair.0; below = is.first_in; new = e.0; is_part = part_more n s es b r c.front c.pair c.back c.pair.1 c.pair.0 p c.whole e.1 sz (inr (refl, refl)) }))
    (cases_Bool (s c.pair.0)))
    (crossed_ends (r c.pair.0) (r c.pair.1) c.crossed)

find_link : (fuel n : ℕ) (s : ℕ → Bool) (es : List (ℕ × ℕ)) (b : ℕ) (r : ℕ → Bool) → 3 ≤ n → AllByRecursion (IsInner n) es → 0 < b → b < n → s 1 ≡ true → ConnectsFrom n s es
    → outside r n ≤ fuel → IsPart n s es b r → Link n s es b
find_link zero n s es b r many w b0 bn root con few p = ⊎_elim
    (λ link. link)
    (λ g. let l = outside_less r g.city n g.below g.new in absurd (omega arith))
    (look n s es b r many w b0 bn root con p)
find_link (suc t) n s es b r many w b0 bn root con few p = ⊎_elim
    (λ link. link)
    (λ g. let l = outside_less r g.city n g.below g.new in find_link t n s es b (with_city r g.city) many w b0 bn root con (omega arith) g.is_part)
    (look n s es b r many w b0 bn root con p)

alone : (n : ℕ) (s : ℕ → Bool) (es : List (ℕ × ℕ)) (b : ℕ) → s b ≡ false → IsPart n s es b (λ k. eqb b k)
alone n s es b h = record {
  here = eq-eqb b b refl;
  out = λ k e. subst (λ m. s m ≡ false) (eqb-true b k e) h;
  joined = λ q none k e. ap q (sym (eqb-true b k e));
}

pub weight-append : (cost : ℕ → ℕ → ℤ) (es fs : List (ℕ × ℕ)) → weight cost (es ++ fs) ≡ weight cost es +ℤ weight cost fs
weight-append cost [] fs = omega (arith, ints)
weight-append cost (e ∷ es) fs = let ih = weight-append cost es fs in omega (arith, ints)

length-without : (front : List (ℕ × ℕ)) (f : ℕ × ℕ) (back : List (ℕ × ℕ)) → length (front ++ f ∷ back) ≡ length (front ++ back) + 1
length-without [] f back = omega arith
length-without (e ∷ es) f back = let ih = length-without es f back in omega arith

-- pairs that are left once one is taken out for a lighter one
pub record Left (n : ℕ) (cost : ℕ → ℕ → ℤ) (s : ℕ → Bool) (es : List (ℕ × ℕ)) (a b : ℕ) : Type 0 where
  pub rest : List (ℕ × ℕ)
  pub within : AllByRecursion (IsInner n) rest
  pub all : length rest + 1 ≡ length es
  pub connects : ConnectsFrom n (with_city s b) rest
  pub light : (cost a b +ℤ weight cost rest) ≤ℤ weight cost es

-- Where no pair out of the set is lighter than that from a to b, one of the pairs can go.
pub exchange : (n : ℕ) (cost : ℕ → ℕ → ℤ) (s : ℕ → Bool) (es : List (ℕ × ℕ)) (a b : ℕ) → 3 ≤ n → ((u v : ℕ) → cost u v ≡ cost v u) → AllByRecursion (IsInner n) es → ConnectsFrom n s es
    → s 1 ≡ true → 0 < b → b < n → s b ≡ false
    → ((x y : ℕ) → 0 < x → x < n → 0 < y → y < n → s x ≡ true → s y ≡ false → cost a b ≤ℤ cost x y) → Left n cost s es a b
exchange n cost s es a b many symmetric w con root b0 bn sb least =
    let k = find_link (outside (λ k. eqb b k) n) n s es b (λ k. eqb b k) many w b0 bn root con (omega arith) (alone n s es b sb) in
    let r = k.part in
    let f = k.pair in
    let split = subst (AllByRecursion (IsInner n)) k.whole w in
    let is = inner_pair n k.front f k.back split in
    let no = λ (x : ℕ) (h : s x ≡ true). false_from_ne_true (r x) (λ e. let o = k.is_part.out x e in cc) in
    let out : (r f.0 && r f.1) ≡ false = ⊎_elim (λ e. and_left _ _ (no f.0 e.0)) (λ e. and_right _ _ (no f.1 e.1)) k.ends in
    let long = length-without k.front f k.back in
    let whole_long = ap length k.whole in
    let price : cost a b ≤ℤ cost f.0 f.1 = ⊎_elim
    (λ e. least f.0 f.1 is.first is.first_in is.second is.second_in e.0 (k.is_part.out f.1 e.1))
    (λ e. let g = least f.1 f.0 is.second is.second_in is.first is.first_in e.1 (k.is_part.out f.0 e.0) in let h = symmetric f.1 f.0 in omega (arith, ints))
    k.ends in
    let one = weight-append cost k.front (f ∷ k.back) in
    let two = weight-append cost k.front k.back in
    let heavy = ap (weight cost) k.whole in
    record {
      rest = k.front ++ k.back;
      within = others n k.front f k.back split;
      all = omega arith;
      connects = λ q none flat u v u0 un v0 vn.
          let a1 = inner_all q r (k.front ++ k.back) in
          let a2 = inner_without q r k.front f k.back out in
          let a3 = ap (λ fs. crossings q (inner r fs)) k.whole in
          let part = k.is_part.joined q (omega arith) in
          let home = λ (x : ℕ) (x0 : 0 < x) (xn : x < n) (sx : s x ≡ true). flat x b x0 xn b0 bn (or_right _ _ sx) (or_left _ _ (eq-eqb b b refl)) in
          let over : q f.0 ≡ q f.1 = ⊎_elim
          (λ e. home f.0 is.first is.first_in e.0 ∙ sym (part f.1 e.1))
          (λ e. part f.0 e.0 ∙ sym (home f.1 is.second is.second_in e.1))
          k.ends in
          let still : crosses q f ≡ false = same_sides (q f.0) (q f.1) over in
          let zero_here : cond {A = ℕ} (crosses q f) 1 0 ≡ 0 = cond-false _ _ _ still in
          let c1 = crossings-append q k.front (f ∷ k.back) in
          let c2 = crossings-append q k.front k.back in
          let c3 = ap (crossings q) k.whole in
          con q (omega arith) (λ x y x0 xn y0 yn sx sy. flat x y x0 xn y0 yn (or_right _ _ sx) (or_right _ _ sy)) u v u0 un v0 vn;
      light = omega (arith, ints);
    }
