use Rattle.std.proofs.Common.{◌≡◌, ℕ, zero, suc, ◌+◌, ◌<◌, ◌≤◌, Bool, true, false, cond, eqb, ◌||◌, List, [], ◌∷◌, ◌++◌, length, get_or, set, drop, Option, Some, None, refl, sym, ◌∙◌, ap, subst, ◌⊎◌, replicate, take, arith, add-one, drop-cons, ⊎_elim}
use Rattle.std.specs.Prelude.{ℤ, pos, ◌+ℤ◌, ◌≤ℤ◌}
use Rattle.std.specs.List.{AllByRecursion}
use Rattle.std.proofs.lemmas.Int.{ints}
use Rattle.std.proofs.lemmas.List.{get_or-set_same, get_or-set_other, length-append, length-set, length-replicate, get_or-replicate}
use Rattle.std.proofs.lemmas.Bool.{cases_eq, cases_lt, or_cases, or_left, or_right, cond-true, cond-false, eq-eqb, ne_eqb, eqb-true}
use Rattle.tspdef.specs.Instances.{Instance}
use Rattle.tspdef.proofs.Duality.{dist-sym}
use Rattle.onetree.specs.OneTrees.{weight, reduced}
use Rattle.onetree.specs.Growing.{IsInner, IsLightestSpan, with_city, marked, unmarked, IsNearest, AreNearest, IsGrowing, IsFront, IsLeastOut}
use Rattle.onetree.proofs.Exchange.{exchange, crossings-append, uncrossed, weight-append}

-- ---- weights

pub drop_weight : (cost : ℕ → ℕ → ℤ) (xs : List (ℕ × ℕ)) (i : ℕ) (d : ℕ × ℕ) → i < length xs
    → weight cost (drop i xs) ≡ cost (get_or xs i d).0 (get_or xs i d).1 +ℤ weight cost (drop (i + 1) xs)
drop_weight cost xs i d l =
    let e : drop (i + 1) xs ≡ drop (suc i) xs = rw add-one refl in
    ap (weight cost) (drop-cons xs i d l) ∙ ap (λ (ys : List (ℕ × ℕ)). cost (get_or xs i d).0 (get_or xs i d).1 +ℤ weight cost ys) (sym e)

pub reduced-sym : (i : Instance) (p : List ℤ) (u v : ℕ) → reduced i p u v ≡ reduced i p v u
reduced-sym i p u v = let e = dist-sym i u v in rw e (omega (arith, ints))

-- ---- marks

pub marked_set : (xs : List Bool) (c k : ℕ) → c < length xs → marked (set xs c true) k ≡ with_city (marked xs) c k
marked_set xs c k l = ⊎_elim
    (λ e. let a : get_or (set xs c true) c false ≡ true = get_or-set_same xs c true false l in
    subst (λ m. marked (set xs c true) m ≡ with_city (marked xs) c m) e (a ∙ sym (or_left _ _ (eq-eqb c c refl))))
    (λ e. let a : get_or (set xs c true) k false ≡ get_or xs k false = get_or-set_other xs c k true false (λ f. e (sym f)) in
    a ∙ ap (λ b. b || get_or xs k false) (sym (ne_eqb c k e)))
    (cases_eq c k)

pub unmarked_set : (xs : List Bool) (c : ℕ) → c < length xs → marked xs c ≡ false → unmarked (set xs c true) + 1 ≡ unmarked xs
unmarked_set [] c l h = absurd (omega arith)
unmarked_set (x ∷ xs) zero l h = let now : cond {A = ℕ} x 0 1 ≡ 1 = cond-false _ _ _ h in omega arith
unmarked_set (x ∷ xs) (suc c) l h = let ih = unmarked_set xs c (omega arith) h in omega arith

pub all_marked : (xs : List Bool) → ((k : ℕ) → k < length xs → marked xs k ≡ true) → unmarked xs ≡ 0
all_marked [] h = refl
all_marked (x ∷ xs) h =
    let ih = all_marked xs (λ k l. h (suc k) (omega arith)) in
    let now : cond {A = ℕ} x 0 1 ≡ 0 = cond-true _ _ _ (h 0 (omega arith)) in
    omega arith

pub none_unmarked : (xs : List Bool) → unmarked xs ≡ 0 → (k : ℕ) → k < length xs → marked xs k ≡ true
none_unmarked [] h k l = absurd (omega arith)
none_unmarked (true ∷ xs) h zero l = refl
none_unmarked (false ∷ xs) h zero l = absurd (omega arith)
none_unmarked (true ∷ xs) h (suc k) l = none_unmarked xs (omega arith) k (omega arith)
none_unmarked (false ∷ xs) h (suc k) l = absurd (omega arith)

-- ---- nearest cities

pub nearest_as : (n : ℕ) (cost : ℕ → ℕ → ℤ) (s t : ℕ → Bool) (v a : ℕ) (w : ℤ) → ((k : ℕ) → t k ≡ s k) → IsNearest n cost s v a w → IsNearest n cost t v a w
nearest_as n cost s t v a w h q = record {
  some = q.some;
  below = q.below;
  inside = h a ∙ q.inside;
  same = q.same;
  least = λ u u0 un tu. q.least u u0 un (sym (h u) ∙ tu);
}

pub nearest_kept : (n : ℕ) (cost : ℕ → ℕ → ℤ) (s : ℕ → Bool) (v a c : ℕ) (w : ℤ) → w ≤ℤ cost c v → IsNearest n cost s v a w → IsNearest n cost (with_city s c) v a w
nearest_kept n cost s v a c w h q = record {
  some = q.some;
  below = q.below;
  inside = or_right _ _ q.inside;
  same = q.same;
  least = λ u u0 un tu. ⊎_elim (λ e. let i = eqb-true c u e in subst (λ k. w ≤ℤ cost k v) i h) (λ e. q.least u u0 un e) (or_cases (eqb c u) (s u) tu);
}

pub nearest_new : (n : ℕ) (cost : ℕ → ℕ → ℤ) (s : ℕ → Bool) (v a c : ℕ) (w x : ℤ) → 0 < c → c < n → x ≡ cost c v → x ≤ℤ w → IsNearest n cost s v a w → IsNearest n cost (with_city s c) v c x
nearest_new n cost s v a c w x c0 cn same h q = record {
  some = c0;
  below = cn;
  inside = or_left _ _ (eq-eqb c c refl);
  same = same;
  least = λ u u0 un tu. ⊎_elim
      (λ e. let i = ap (λ k. cost k v) (eqb-true c u e) in omega (arith, ints))
      (λ e. let l = q.least u u0 un e in omega (arith, ints)) (or_cases (eqb c u) (s u) tu);
}

-- ---- a tree that grows

pub growing_start : (n m : ℕ) (cost : ℕ → ℕ → ℤ) (s : ℕ → Bool) → m + 2 ≡ n → s 1 ≡ true → ((k : ℕ) → 0 < k → s k ≡ true → k ≡ 1) → IsGrowing n cost s m []
growing_start n m cost s h root one = record {
  within = tt;
  all = omega arith;
  root = root;
  joined = λ q none u v u0 un v0 vn su sv. ap q (one u u0 su ∙ sym (one v v0 sv));
  lightest = λ span is. (
    span,
    record {
      within = is.within;
      all = (let l = is.all in omega arith);
      connects = λ q none flat u v u0 un v0 vn. is.spans q none u v u0 un v0 vn;
      light = omega (arith, ints);
    },
  );
}

tree_within : (n : ℕ) (tree : List (ℕ × ℕ)) (e : ℕ × ℕ) → AllByRecursion (IsInner n) tree → IsInner n e → AllByRecursion (IsInner n) (tree ++ e ∷ [])
tree_within n [] e w is = (is, tt)
tree_within n (f ∷ fs) e w is = (w.0, tree_within n fs e w.1 is)

pub growing_step : (n m : ℕ) (cost : ℕ → ℕ → ℤ) (s t : ℕ → Bool) (tree : List (ℕ × ℕ)) (a b : ℕ) → 3 ≤ n → ((u v : ℕ) → cost u v ≡ cost v u) → IsGrowing n cost s (m + 1) tree
    → 0 < a → a < n → s a ≡ true → 0 < b → b < n → s b ≡ false → ((k : ℕ) → t k ≡ with_city s b k)
    → ((x y : ℕ) → 0 < x → x < n → 0 < y → y < n → s x ≡ true → s y ≡ false → cost a b ≤ℤ cost x y)
    → IsGrowing n cost t m (tree ++ (a, b) ∷ [])
growing_step n m cost s t tree a b many symmetric g a0 an sa b0 bn sb same least =
    let to_s = λ (k : ℕ) (h : t k ≡ true). or_cases (eqb b k) (s k) (sym (same k) ∙ h) in
    let heavy = weight-append cost tree ((a, b) ∷ []) in
    let long = length-append tree ((a, b) ∷ []) in
    let all = g.all in
    record {
      within = tree_within n tree (a, b) g.within (record { first = a0; first_in = an; second = b0; second_in = bn; apart = λ e. let h = ap s e in cc });
      all = omega arith;
      root = same 1 ∙ or_right _ _ g.root;
      joined = λ q none u v u0 un v0 vn tu tv.
          let parts = crossings-append q tree ((a, b) ∷ []) in
          let old = g.joined q (omega arith) in
          let link : q a ≡ q b = uncrossed q (a, b) (omega arith) in
          let to_a : (k : ℕ) → 0 < k → k < n → t k ≡ true → q k ≡ q a = λ k k0 kn tk. ⊎_elim
          (λ e. ap q (sym (eqb-true b k e)) ∙ sym link)
          (λ e. old k a k0 kn a0 an e sa) (to_s k tk) in
          to_a u u0 un tu ∙ sym (to_a v v0 vn tv);
      lightest = λ span is.
          let r = g.lightest span is in
          let rest = r.1 in
          let left = exchange n cost s r.0 a b many symmetric rest.within rest.connects g.root b0 bn sb least in
          let one = left.light in
          let two = rest.light in
          let l1 = left.all in
          let l2 = rest.all in (
            left.rest,
            record {
              within = left.within;
              all = omega arith;
              connects = λ q none flat u v u0 un v0 vn. left.connects q none (λ x y x0 xn y0 yn sx sy. flat x y x0 xn y0 yn (same x ∙ sx) (same y ∙ sy)) u v u0 un v0 vn;
              light = omega (arith, ints);
            },
          );
    }

no_pairs : (es : List (ℕ × ℕ)) → length es ≡ 0 → es ≡ []
no_pairs [] h = refl
no_pairs (e ∷ es) h = absurd (omega arith)

pub growing_end : (n : ℕ) (cost : ℕ → ℕ → ℤ) (s : ℕ → Bool) (tree : List (ℕ × ℕ)) → IsGrowing n cost s 0 tree → ((k : ℕ) → k < n → s k ≡ true) → IsLightestSpan n cost tree
growing_end n cost s tree g all = (
  record { within = g.within; all = (let a = g.all in omega arith); spans = λ q none u v u0 un v0 vn. g.joined q none u v u0 un v0 vn (all u un) (all v vn) },
  λ span is.
      let r = g.lightest span is in
      let rest = r.1 in
      let light = rest.light in
      let none = ap (weight cost) (no_pairs r.0 rest.all) in
      omega (arith, ints),
)

-- ---- the least place that is not marked

pub least_none : (inside : List Bool) (least : List ℤ) (v : ℕ) (best : Option ℕ) → marked inside v ≡ true → IsLeastOut inside least v best → IsLeastOut inside least (v + 1) best
least_none inside least v None h is = λ k l. ⊎_elim (λ m. is k m) (λ m. let e : v ≡ k = omega arith in subst (λ c. marked inside c ≡ true) e h) (cases_lt k v)
least_none inside least v (Some c) h is = (
  (let l = is.0 in omega arith),
  is.1,
  λ k l mk. ⊎_elim (λ m. is.2 k m mk) (λ m. let e : v ≡ k = omega arith in let g = subst (λ c. marked inside c ≡ true) e h in cc) (cases_lt k v),
)

pub least_place : (inside : List Bool) (least : List ℤ) (c : ℕ) → IsLeastOut inside least (length inside) (Some c) → c < length inside
least_place inside least c is = is.0

-- ---- writes

pub written : (xs : List ℤ) (f : ℕ → ℤ) (i : ℕ) (x : ℤ) → i < length xs → ((k : ℕ) → k < i → get_or xs k (pos 0) ≡ f k) → x ≡ f i
    → (k : ℕ) → k < i + 1 → get_or (set xs i x) k (pos 0) ≡ f k
written xs f i x l old new k h = ⊎_elim
    (λ m. get_or-set_other xs i k x (pos 0) (λ e. omega arith) ∙ old k m)
    (λ m. let e : i ≡ k = omega arith in subst (λ j. get_or (set xs i x) j (pos 0) ≡ f j) e (get_or-set_same xs i x (pos 0) l ∙ new))
    (cases_lt k i)

pub fresh : (n : ℕ) → unmarked (replicate n false) ≡ n
fresh zero = refl
fresh (suc n) = let ih = fresh n in omega arith

pub two_marked : (xs : List Bool) (n : ℕ) → 3 ≤ n → xs ≡ replicate n false → unmarked (set (set xs 0 true) 1 true) + 2 ≡ n
two_marked xs n h e =
    let all = fresh n in
    let long = length-replicate n false in
    let same = ap unmarked e in
    let size = ap length e in
    let off0 : marked xs 0 ≡ false = ap (λ ys. get_or ys 0 false) e ∙ get_or-replicate n 0 false false (omega arith) in
    let off1 : marked xs 1 ≡ false = ap (λ ys. get_or ys 1 false) e ∙ get_or-replicate n 1 false false (omega arith) in
    let one = unmarked_set xs 0 (omega arith) off0 in
    let kept : marked (set xs 0 true) 1 ≡ false = get_or-set_other xs 0 1 true false (λ e. omega arith) ∙ off1 in
    let l = length-set xs 0 true in
    let two = unmarked_set (set xs 0 true) 1 (omega arith) kept in
    omega arith

pub done_step : (n : ℕ) (cost : ℕ → ℕ → ℤ) (c v : ℕ) (near0 near : List ℕ) (least0 least : List ℤ) (x : ℕ) (w new : ℤ)
    → v < length near → v < length least → 0 < c → c < n → 0 < v → new ≡ cost c v
    → ((get_or least v (pos 0) ≤ℤ new) × (x ≡ get_or near v 0) × (w ≡ get_or least v (pos 0))) ⊎ ((new ≤ℤ get_or least v (pos 0)) × (x ≡ c) × (w ≡ new))
    → ((s : ℕ → Bool) → AreNearest n cost s near0 least0 → (k : ℕ) → 0 < k → k < v → k < n → IsNearest n cost (with_city s c) k (get_or near k 0) (get_or least k (pos 0)))
    → get_or near v 0 ≡ get_or near0 v 0 → get_or least v (pos 0) ≡ get_or least0 v (pos 0)
    → (s : ℕ → Bool) → AreNearest n cost s near0 least0 → (k : ℕ) → 0 < k → k < v + 1 → k < n → IsNearest n cost (with_city s c) k (get_or (set near v x) k 0) (get_or (set least v w) k (pos 0))
done_step n cost c v near0 near least0 least x w new vn vl c0 cn v0 is choice done at_near at_least s old k k0 kv kn = ⊎_elim
    (λ m. let e1 = get_or-set_other near v k x 0 (λ e. omega arith) in let e2 = get_or-set_other least v k w (pos 0) (λ e. omega arith) in
    both k (get_or near k 0) (get_or least k (pos 0)) _ _ (sym e1) (sym e2) (done s old k k0 m kn))
    (λ m. let e : v ≡ k = omega arith in
    let vb : v < n = omega arith in
    let was : IsNearest n cost s v (get_or near v 0) (get_or least v (pos 0)) = place v _ _ _ _ (sym at_near) (sym at_least) (old v v0 vb) in
    let now : IsNearest n cost (with_city s c) v x w = ⊎_elim
    (λ h. both v (get_or near v 0) (get_or least v (pos 0)) x w (sym h.1) (sym h.2) (nearest_kept n cost s v (get_or near v 0) c (get_or least v (pos 0)) (let a = h.0 in omega (arith, ints)) was))
    (λ h. both v c new x w (sym h.1) (sym h.2) (nearest_new n cost s v (get_or near v 0) c (get_or least v (pos 0)) new c0 cn is h.0 was))
    choice in
    let there : IsNearest n cost (with_city s c) v (get_or (set near v x) v 0) (get_or (set least v w) v (pos 0)) =
    both v x w _ _ (sym (get_or-set_same near v x 0 vn)) (sym (get_or-set_same least v w (pos 0) vl)) now in
    subst (λ j. IsNearest n cost (with_city s c) j (get_or (set near v x) j 0) (get_or (set least v w) j (pos 0))) e there)
    (cases_lt k v)
  where
    both : (j a : ℕ) (b : ℤ) (a2 : ℕ) (b2 : ℤ) → a ≡ a2 → b ≡ b2 → IsNearest n cost (with_city s c) j a b → IsNearest n cost (with_city s c) j a2 b2
    both j a b a2 b2 e f h = subst (λ z. IsNearest n cost (with_city s c) j a2 z) f (subst (λ y. IsNearest n cost (with_city s c) j y b) e h)

    place : (j a : ℕ) (b : ℤ) (a2 : ℕ) (b2 : ℤ) → a ≡ a2 → b ≡ b2 → IsNearest n cost s j a b → IsNearest n cost s j a2 b2
    place j a b a2 b2 e f h = subst (λ z. IsNearest n cost s j a2 z) f (subst (λ y. IsNearest n cost s j y b) e h)

-- ---- a step

city_some : (inside : List Bool) (c : ℕ) → marked inside 0 ≡ true → marked inside c ≡ false → 0 < c
city_some inside zero h e = cc
city_some inside (suc c) h e = omega arith

pub step_grows : (n : ℕ) (cost : ℕ → ℕ → ℤ) (inside : List Bool) (near : List ℕ) (least : List ℤ) (c : ℕ) (tree : List (ℕ × ℕ)) → ((u v : ℕ) → cost u v ≡ cost v u)
    → IsFront n cost inside near least → IsLeastOut inside least (length inside) (Some c) → IsGrowing n cost (marked inside) (unmarked inside) tree
    → IsGrowing n cost (marked (set inside c true)) (unmarked (set inside c true)) (tree ++ (get_or near c 0, c) ∷ [])
step_grows n cost inside near least c tree symmetric f is g =
    let m = f.marks in
    let cl : c < length inside = is.0 in
    let cn : c < n = omega arith in
    let c0 = city_some inside c f.home is.1 in
    let q = f.nearest c c0 cn in
    let less = unmarked_set inside c cl is.1 in
    growing_step n (unmarked (set inside c true)) cost (marked inside) (marked (set inside c true)) tree (get_or near c 0) c f.many symmetric
    (subst (λ k. IsGrowing n cost (marked inside) k tree) (sym less) g) q.some q.below q.inside c0 cn is.1 (λ k. marked_set inside c k cl)
    (λ x y x0 xn y0 yn sx sy.
    let r = f.nearest y y0 yn in
    let a = is.2 y (omega arith) sy in
    let b = r.least x x0 xn sx in
    let d = q.same in
    omega (arith, ints))

pub step_front : (n : ℕ) (cost : ℕ → ℕ → ℤ) (inside : List Bool) (near near2 : List ℕ) (least least2 : List ℤ) (c : ℕ) → IsFront n cost inside near least → c < length inside
    → length near2 ≡ n → length least2 ≡ n → AreNearest n cost (with_city (marked inside) c) near2 least2 → IsFront n cost (set inside c true) near2 least2
step_front n cost inside near near2 least least2 c f cl a b h = record {
  many = f.many;
  few = f.few;
  marks = length-set inside c true ∙ f.marks;
  cities = a;
  costs = b;
  home = marked_set inside c 0 cl ∙ or_right _ _ f.home;
  root = marked_set inside c 1 cl ∙ or_right _ _ f.root;
  nearest = λ v v0 vn. nearest_as n cost (with_city (marked inside) c) (marked (set inside c true)) v _ _ (λ k. marked_set inside c k cl) (h v v0 vn);
}

pub step_city : (n : ℕ) (cost : ℕ → ℕ → ℤ) (inside : List Bool) (near : List ℕ) (least : List ℤ) (c : ℕ) → IsFront n cost inside near least → IsLeastOut inside least (length inside) (Some c) → (0 < c) × (c < n)
step_city n cost inside near least c f is = (city_some inside c f.home is.1, let l = is.0 in let m = f.marks in omega arith)

taken : {A : Type 0} (xs zs : List A) → take (length xs) (xs ++ zs) ≡ xs
taken [] zs = refl
taken (x ∷ xs) zs = ap (λ ys. x ∷ ys) (taken xs zs)

taken_at : {A : Type 0} (m : ℕ) (xs zs : List A) → length xs ≡ m → xs ≡ take m (xs ++ zs)
taken_at m xs zs e = subst (λ k. xs ≡ take k (xs ++ zs)) e (sym (taken xs zs))

pub front_written : (n : ℕ) (cost : ℕ → ℕ → ℤ) (inside : List Bool) (near rest : List ℕ) (least others : List ℤ) (m k : ℕ) → length near ≡ m → length least ≡ k
    → IsFront n cost inside near least → IsFront n cost inside (take m (near ++ rest)) (take k (least ++ others))
front_written n cost inside near rest least others m k e f h =
    subst (λ xs. IsFront n cost inside xs (take k (least ++ others))) (taken_at m near rest e)
    (subst (λ ys. IsFront n cost inside near ys) (taken_at k least others f) h)

pub step_pair : (n : ℕ) (cost : ℕ → ℕ → ℤ) (inside : List Bool) (near : List ℕ) (least : List ℤ) (c from : ℕ) (tree : List (ℕ × ℕ)) → ((u v : ℕ) → cost u v ≡ cost v u)
    → IsFront n cost inside near least → IsLeastOut inside least (length inside) (Some c) → get_or near c 0 ≡ from → IsGrowing n cost (marked inside) (unmarked inside) tree
    → IsGrowing n cost (marked (set inside c true)) (unmarked (set inside c true)) (tree ++ (from, c) ∷ [])
step_pair n cost inside near least c from tree symmetric f is e g =
    subst (λ k. IsGrowing n cost (marked (set inside c true)) (unmarked (set inside c true)) (tree ++ (k, c) ∷ [])) e (step_grows n cost inside near least c tree symmetric f is g)

pub span_end : (n : ℕ) (cost : ℕ → ℕ → ℤ) (inside : List Bool) (tree : List (ℕ × ℕ)) → length inside ≡ n → unmarked inside ≡ 0 → IsGrowing n cost (marked inside) (unmarked inside) tree → IsLightestSpan n cost tree
span_end n cost inside tree l z g = growing_end n cost (marked inside) tree (subst (λ m. IsGrowing n cost (marked inside) m tree) z g) (λ k h. none_unmarked inside z k (omega arith))
