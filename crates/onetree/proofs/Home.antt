use Rattle.std.proofs.Common.{◌≡◌, ℕ, zero, suc, ◌+◌, ◌<◌, ◌≤◌, Bool, true, false, cond, eqb, List, [], ◌∷◌, ◌++◌, length, refl, sym, ◌∙◌, ap, subst, arith, ⊎_elim}
use Rattle.std.specs.Prelude.{ℤ, pos, ◌+ℤ◌, ◌≤ℤ◌}
use Rattle.std.specs.List.{AllByRecursion}
use Rattle.std.proofs.lemmas.Int.{ints}
use Rattle.std.proofs.lemmas.List.{length-append, append_assoc}
use Rattle.std.proofs.lemmas.Bool.{cases_Bool, cases_eq, cases_lt, or_cases, or_left, or_right, or_from, or_parts, cond-true, cond-false, eq-eqb, ne_eqb, eqb-true, and_left, and_right, and_from}
use Rattle.std.proofs.lemmas.Bool.Decides.{nat_tests}
use Rattle.tspdef.specs.Tours.{joins}
use Rattle.onetree.specs.OneTrees.{is_end, degree, times_joined, elsewhere, IsPair, Connects, IsOneTree, weight, IsLightest}
use Rattle.onetree.specs.Growing.{IsInner, IsSpan, IsLightestSpan, AreBelow, IsNearHome}
use Rattle.onetree.proofs.Exchange.{weight-append}

-- ---- what a one-tree has at city 0, and elsewhere

abbrev home_weight : (ℕ → ℕ → ℤ) → List (ℕ × ℕ) → ℤ
home_weight cost [] = pos 0
home_weight cost (e ∷ es) = cond (is_end 0 e) (cost e.0 e.1) (pos 0) +ℤ home_weight cost es

split_weight : (cost : ℕ → ℕ → ℤ) (es : List (ℕ × ℕ)) → weight cost es ≡ home_weight cost es +ℤ weight cost (elsewhere es)
split_weight cost [] = refl
split_weight cost (e ∷ es) =
    let ih = split_weight cost es in
    ⊎_elim
    (λ j. let a : cond {A = ℤ} (is_end 0 e) (cost e.0 e.1) (pos 0) ≡ cost e.0 e.1 = cond-true _ _ _ j in
    let b = ap (weight cost) (cond-true (is_end 0 e) (elsewhere es) (e ∷ elsewhere es) j) in omega (arith, ints))
    (λ j. let a : cond {A = ℤ} (is_end 0 e) (cost e.0 e.1) (pos 0) ≡ pos 0 = cond-false _ _ _ j in
    let b = ap (weight cost) (cond-false (is_end 0 e) (elsewhere es) (e ∷ elsewhere es) j) in omega (arith, ints))
    (cases_Bool (is_end 0 e))

split_length : (es : List (ℕ × ℕ)) → length (elsewhere es) + degree 0 es ≡ length es
split_length [] = refl
split_length (e ∷ es) =
    let ih = split_length es in
    ⊎_elim
    (λ j. let a : cond {A = ℕ} (is_end 0 e) 1 0 ≡ 1 = cond-true _ _ _ j in
    let b = ap length (cond-true (is_end 0 e) (elsewhere es) (e ∷ elsewhere es) j) in omega arith)
    (λ j. let a : cond {A = ℕ} (is_end 0 e) 1 0 ≡ 0 = cond-false _ _ _ j in
    let b = ap length (cond-false (is_end 0 e) (elsewhere es) (e ∷ elsewhere es) j) in omega arith)
    (cases_Bool (is_end 0 e))

some : (k : ℕ) → eqb k 0 ≡ false → 0 < k
some zero h = cc
some (suc k) h = omega arith

inner_pair : (n : ℕ) (e : ℕ × ℕ) → IsPair n e → is_end 0 e ≡ false → IsInner n e
inner_pair n e p j = let h = or_parts _ _ j in record { first = some e.0 h.0; first_in = p.0; second = some e.1 h.1; second_in = p.1; apart = p.2 }

split_within : (n : ℕ) (es : List (ℕ × ℕ)) → AllByRecursion (IsPair n) es → AllByRecursion (IsInner n) (elsewhere es)
split_within n [] w = tt
split_within n (e ∷ es) w = ⊎_elim
    (λ j. subst (AllByRecursion (IsInner n)) (sym (cond-true (is_end 0 e) (elsewhere es) (e ∷ elsewhere es) j)) (split_within n es w.1))
    (λ j. subst (AllByRecursion (IsInner n)) (sym (cond-false (is_end 0 e) (elsewhere es) (e ∷ elsewhere es) j)) (inner_pair n e w.0 j, split_within n es w.1))
    (cases_Bool (is_end 0 e))

-- the other city of a pair at city 0
record Other (n : ℕ) (cost : ℕ → ℕ → ℤ) (e : ℕ × ℕ) : Type 0 where
  pub city : ℕ
  pub some : 0 < city
  pub below : city < n
  pub same : cost e.0 e.1 ≡ cost 0 city
  pub joined : joins 0 city e ≡ true

other : (n : ℕ) (cost : ℕ → ℕ → ℤ) (e : ℕ × ℕ) → ((u v : ℕ) → cost u v ≡ cost v u) → IsPair n e → is_end 0 e ≡ true → Other n cost e
other n cost e symmetric p j = ⊎_elim
    (λ h. let z = eqb-true e.0 0 h in record {
      city = e.1;
      some = some e.1 (ne_eqb e.1 0 (λ q. p.2 (z ∙ sym q)));
      below = p.1;
      same = ap (λ k. cost k e.1) z;
      joined = or_left _ _ (and_from _ _ h (eq-eqb e.1 e.1 refl));
    })
    (λ h. let z = eqb-true e.1 0 h in record {
      city = e.0;
      some = some e.0 (ne_eqb e.0 0 (λ q. p.2 (q ∙ sym z)));
      below = p.0;
      same = ap (λ k. cost e.0 k) z ∙ symmetric e.0 0;
      joined = or_right _ _ (and_from _ _ (eq-eqb e.0 e.0 refl) h);
    })
    (or_cases (eqb e.0 0) (eqb e.1 0) j)

-- cities a and b are the two nearest to city 0
record AreTwo (n : ℕ) (cost : ℕ → ℕ → ℤ) (a b : ℕ) : Type 0 where
  pub first : (v : ℕ) → 0 < v → v < n → cost 0 a ≤ℤ cost 0 v
  pub second : (v : ℕ) → 0 < v → v < n → (v ≡ a → ⊥) → cost 0 b ≤ℤ cost 0 v

home_none : (cost : ℕ → ℕ → ℤ) (es : List (ℕ × ℕ)) → degree 0 es ≡ 0 → home_weight cost es ≡ pos 0
home_none cost [] d = refl
home_none cost (e ∷ es) d = ⊎_elim
    (λ j. let a : cond {A = ℕ} (is_end 0 e) 1 0 ≡ 1 = cond-true _ _ _ j in absurd (omega arith))
    (λ j. let a : cond {A = ℕ} (is_end 0 e) 1 0 ≡ 0 = cond-false _ _ _ j in
    let b : cond {A = ℤ} (is_end 0 e) (cost e.0 e.1) (pos 0) ≡ pos 0 = cond-false _ _ _ j in
    let ih = home_none cost es (omega arith) in omega (arith, ints))
    (cases_Bool (is_end 0 e))

home_one : (n : ℕ) (cost : ℕ → ℕ → ℤ) (a b : ℕ) (es : List (ℕ × ℕ)) → ((u v : ℕ) → cost u v ≡ cost v u) → AreTwo n cost a b → AllByRecursion (IsPair n) es → degree 0 es ≡ 1 → cost 0 a ≤ℤ home_weight cost es
home_one n cost a b [] symmetric t w d = absurd (omega arith)
home_one n cost a b (e ∷ es) symmetric t w d = ⊎_elim
    (λ j. let c : cond {A = ℕ} (is_end 0 e) 1 0 ≡ 1 = cond-true _ _ _ j in
    let f : cond {A = ℤ} (is_end 0 e) (cost e.0 e.1) (pos 0) ≡ cost e.0 e.1 = cond-true _ _ _ j in
    let rest = home_none cost es (omega arith) in
    let o = other n cost e symmetric w.0 j in
    let low = t.first o.city o.some o.below in
    let s = o.same in omega (arith, ints))
    (λ j. let c : cond {A = ℕ} (is_end 0 e) 1 0 ≡ 0 = cond-false _ _ _ j in
    let f : cond {A = ℤ} (is_end 0 e) (cost e.0 e.1) (pos 0) ≡ pos 0 = cond-false _ _ _ j in
    let ih = home_one n cost a b es symmetric t w.1 (omega arith) in omega (arith, ints))
    (cases_Bool (is_end 0 e))

home_other : (n : ℕ) (cost : ℕ → ℕ → ℤ) (a b : ℕ) (es : List (ℕ × ℕ)) → ((u v : ℕ) → cost u v ≡ cost v u) → AreTwo n cost a b → AllByRecursion (IsPair n) es → degree 0 es ≡ 1 → times_joined 0 a es ≡ 0
    → cost 0 b ≤ℤ home_weight cost es
home_other n cost a b [] symmetric t w d z = absurd (omega arith)
home_other n cost a b (e ∷ es) symmetric t w d z = ⊎_elim
    (λ j. let c : cond {A = ℕ} (is_end 0 e) 1 0 ≡ 1 = cond-true _ _ _ j in
    let f : cond {A = ℤ} (is_end 0 e) (cost e.0 e.1) (pos 0) ≡ cost e.0 e.1 = cond-true _ _ _ j in
    let rest = home_none cost es (omega arith) in
    let o = other n cost e symmetric w.0 j in
    let low = t.second o.city o.some o.below (λ q. let y : cond {A = ℕ} (joins 0 a e) 1 0 ≡ 1 = cond-true _ _ _ (subst (λ k. joins 0 k e ≡ true) q o.joined) in omega arith) in
    let s = o.same in omega (arith, ints))
    (λ j. let c : cond {A = ℕ} (is_end 0 e) 1 0 ≡ 0 = cond-false _ _ _ j in
    let f : cond {A = ℤ} (is_end 0 e) (cost e.0 e.1) (pos 0) ≡ pos 0 = cond-false _ _ _ j in
    let ih = home_other n cost a b es symmetric t w.1 (omega arith) (omega arith) in omega (arith, ints))
    (cases_Bool (is_end 0 e))

home_two : (n : ℕ) (cost : ℕ → ℕ → ℤ) (a b : ℕ) (es : List (ℕ × ℕ)) → ((u v : ℕ) → cost u v ≡ cost v u) → AreTwo n cost a b → AllByRecursion (IsPair n) es → degree 0 es ≡ 2 → times_joined 0 a es ≤ 1
    → (cost 0 a +ℤ cost 0 b) ≤ℤ home_weight cost es
home_two n cost a b [] symmetric t w d z = absurd (omega arith)
home_two n cost a b (e ∷ es) symmetric t w d z = ⊎_elim
    (λ j. let c : cond {A = ℕ} (is_end 0 e) 1 0 ≡ 1 = cond-true _ _ _ j in
    let f : cond {A = ℤ} (is_end 0 e) (cost e.0 e.1) (pos 0) ≡ cost e.0 e.1 = cond-true _ _ _ j in
    let o = other n cost e symmetric w.0 j in
    let s = o.same in
    ⊎_elim
    (λ q. let y : cond {A = ℕ} (joins 0 a e) 1 0 ≡ 1 = cond-true _ _ _ (subst (λ k. joins 0 k e ≡ true) q o.joined) in
    let low = t.first o.city o.some o.below in
    let rest = home_other n cost a b es symmetric t w.1 (omega arith) (omega arith) in omega (arith, ints))
    (λ q. let low = t.second o.city o.some o.below q in
    let rest = home_one n cost a b es symmetric t w.1 (omega arith) in omega (arith, ints))
    (cases_eq o.city a))
    (λ j. let c : cond {A = ℕ} (is_end 0 e) 1 0 ≡ 0 = cond-false _ _ _ j in
    let f : cond {A = ℤ} (is_end 0 e) (cost e.0 e.1) (pos 0) ≡ pos 0 = cond-false _ _ _ j in
    let ih = home_two n cost a b es symmetric t w.1 (omega arith) (omega arith) in omega (arith, ints))
    (cases_Bool (is_end 0 e))

-- no one-tree is lighter than the two least pairs at city 0 and a lightest spanning tree
pub home_is_least : (n : ℕ) (cost : ℕ → ℕ → ℤ) (tree : List (ℕ × ℕ)) (a b : ℕ) → ((u v : ℕ) → cost u v ≡ cost v u) → IsLightestSpan n cost tree
    → ((v : ℕ) → 0 < v → v < n → cost 0 a ≤ℤ cost 0 v) → ((v : ℕ) → 0 < v → v < n → (v ≡ a → ⊥) → cost 0 b ≤ℤ cost 0 v)
    → IsLightest n cost (weight cost (tree ++ (0, a) ∷ (0, b) ∷ []))
home_is_least n cost tree a b symmetric light one two pairs t =
    let parts = split_weight cost pairs in
    let long = split_length pairs in
    let d = t.two in
    let l = t.all in
    let span : IsSpan n (elsewhere pairs) = record { within = split_within n pairs t.within; all = omega arith; spans = t.spans } in
    let low = light.1 (elsewhere pairs) span in
    let home = home_two n cost a b pairs symmetric (record { first = one; second = two }) t.within t.two (t.different a) in
    let sum = weight-append cost tree ((0, a) ∷ (0, b) ∷ []) in
    omega (arith, ints)

-- ---- it is a one-tree

joined_step : (v a b : ℕ) → (a ≡ b → ⊥) → cond {A = ℕ} (joins 0 v (0, a)) 1 0 + (cond {A = ℕ} (joins 0 v (0, b)) 1 0 + 0) ≤ 1
joined_step v a b ne = ⊎_elim
    (λ e. let f : joins 0 v (0, b) ≡ false = grind (arith, nat_tests) in
    let g : cond {A = ℕ} (joins 0 v (0, b)) 1 0 ≡ 0 = cond-false _ _ _ f in at_most (joins 0 v (0, a)) _ g)
    (λ e. let f : joins 0 v (0, a) ≡ false = grind (arith, nat_tests) in
    let g : cond {A = ℕ} (joins 0 v (0, a)) 1 0 ≡ 0 = cond-false _ _ _ f in other_most (joins 0 v (0, b)) _ g)
    (cases_Bool (eqb a v))
  where
    at_most : (x : Bool) (k : ℕ) → k ≡ 0 → cond {A = ℕ} x 1 0 + (k + 0) ≤ 1
    at_most true k h = omega arith
    at_most false k h = omega arith

    other_most : (x : Bool) (k : ℕ) → k ≡ 0 → k + (cond {A = ℕ} x 1 0 + 0) ≤ 1
    other_most true k h = omega arith
    other_most false k h = omega arith

-- ---- lists of inner pairs

away : (e : ℕ × ℕ) → 0 < e.0 → 0 < e.1 → is_end 0 e ≡ false
away e h k = or_from _ _ (ne_eqb e.0 0 (λ q. omega arith)) (ne_eqb e.1 0 (λ q. omega arith))

apart_from : (e : ℕ × ℕ) (v : ℕ) → 0 < e.0 → 0 < e.1 → joins 0 v e ≡ false
apart_from e v h k = or_from _ _ (and_left _ _ (ne_eqb e.0 0 (λ q. omega arith))) (and_right _ _ (ne_eqb e.1 0 (λ q. omega arith)))

inner_degree : (n : ℕ) (es hs : List (ℕ × ℕ)) → AllByRecursion (IsInner n) es → degree 0 (es ++ hs) ≡ degree 0 hs
inner_degree n [] hs w = refl
inner_degree n (e ∷ es) hs w = let ih = inner_degree n es hs w.1 in let a : cond {A = ℕ} (is_end 0 e) 1 0 ≡ 0 = cond-false _ _ _ (away e w.0.first w.0.second) in omega arith

inner_joined : (n v : ℕ) (es hs : List (ℕ × ℕ)) → AllByRecursion (IsInner n) es → times_joined 0 v (es ++ hs) ≡ times_joined 0 v hs
inner_joined n v [] hs w = refl
inner_joined n v (e ∷ es) hs w = let ih = inner_joined n v es hs w.1 in let a : cond {A = ℕ} (joins 0 v e) 1 0 ≡ 0 = cond-false _ _ _ (apart_from e v w.0.first w.0.second) in omega arith

inner_elsewhere : (n a b : ℕ) (es : List (ℕ × ℕ)) → AllByRecursion (IsInner n) es → elsewhere (es ++ (0, a) ∷ (0, b) ∷ []) ≡ es
inner_elsewhere n a b [] w = refl
inner_elsewhere n a b (e ∷ es) w = cond-false (is_end 0 e) _ _ (away e w.0.first w.0.second) ∙ ap (λ fs. e ∷ fs) (inner_elsewhere n a b es w.1)

inner_within : (n a b : ℕ) (es : List (ℕ × ℕ)) → 0 < a → a < n → 0 < b → b < n → AllByRecursion (IsInner n) es → AllByRecursion (IsPair n) (es ++ (0, a) ∷ (0, b) ∷ [])
inner_within n a b [] a0 an b0 bn w = ((omega arith, an, λ e. omega arith), ((omega arith, bn, λ e. omega arith), tt))
inner_within n a b (e ∷ es) a0 an b0 bn w = ((w.0.first_in, w.0.second_in, w.0.apart), inner_within n a b es a0 an b0 bn w.1)

pub home_is_tree : (n : ℕ) (tree : List (ℕ × ℕ)) (a b : ℕ) → IsSpan n tree → 0 < a → a < n → 0 < b → b < n → (a ≡ b → ⊥) → IsOneTree n (tree ++ (0, a) ∷ (0, b) ∷ [])
home_is_tree n tree a b s a0 an b0 bn ne = record {
  within = inner_within n a b tree a0 an b0 bn s.within;
  all = (let l = length-append tree ((0, a) ∷ (0, b) ∷ []) in let k = s.all in omega arith);
  two = inner_degree n tree ((0, a) ∷ (0, b) ∷ []) s.within;
  different = λ v. let e = inner_joined n v tree ((0, a) ∷ (0, b) ∷ []) s.within in let h = joined_step v a b ne in omega arith;
  spans = subst (Connects n) (sym (inner_elsewhere n a b tree s.within)) s.spans;
}

pub pairs_below : (n : ℕ) (es : List (ℕ × ℕ)) → AllByRecursion (IsPair n) es → AreBelow n es
pairs_below n [] w = tt
pairs_below n (e ∷ es) w = ((w.0.0, w.0.1), pairs_below n es w.1)

pub two_pushed : (tree one two : List (ℕ × ℕ)) (x y : ℕ × ℕ) → one ≡ tree ++ x ∷ [] → two ≡ one ++ y ∷ [] → two ≡ tree ++ x ∷ y ∷ []
two_pushed tree one two x y e f = f ∙ ap (λ (es : List (ℕ × ℕ)). es ++ y ∷ []) e ∙ append_assoc tree (x ∷ []) (y ∷ [])

-- ---- the nearest cities to city 0

pub near_new : (n : ℕ) (cost : ℕ → ℕ → ℤ) (but v best : ℕ) → IsNearHome n cost but v best → 0 < v → v < n → (v ≡ but → ⊥) → cost 0 v ≤ℤ cost 0 best → IsNearHome n cost but (v + 1) v
near_new n cost but v best h v0 vn ne l = record {
  some = v0;
  below = vn;
  other = ne;
  least = λ k k0 kv kb. ⊎_elim (λ m. let a = h.least k k0 m kb in omega (arith, ints)) (λ m. let e : v ≡ k = omega arith in let a = ap (cost 0) e in omega (arith, ints)) (cases_lt k v);
}

pub near_kept : (n : ℕ) (cost : ℕ → ℕ → ℤ) (but v best : ℕ) → IsNearHome n cost but v best → ((v ≡ but → ⊥) → cost 0 best ≤ℤ cost 0 v) → IsNearHome n cost but (v + 1) best
near_kept n cost but v best h l = record {
  some = h.some;
  below = h.below;
  other = h.other;
  least = λ k k0 kv kb. ⊎_elim (λ m. h.least k k0 m kb) (λ m. let e : v ≡ k = omega arith in let a = ap (cost 0) e in let b = l (λ q. kb (sym e ∙ q)) in omega (arith, ints)) (cases_lt k v);
}
