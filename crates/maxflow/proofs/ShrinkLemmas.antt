-- Merging two tied groups loses no least set.
use Rattle.std.proofs.Common.{◌≡◌, ℕ, zero, suc, ◌+◌, ◌*◌, ◌<◌, ◌≤◌, ◌⊎◌, ◌%◌, ◌^◌, Bool, true, false, not, cond, ◌==◌, List, [], ◌∷◌, length, get_or, sum_by, inl, inr, refl, sym, ◌∙◌, ap, subst, arith, ⊎_elim}
use Rattle.std.specs.List.{AllByRecursion, sum}
use Rattle.std.proofs.lemmas.Bool.{cases_eq, eqb-true, eq-eqb, ne_eqb, cond-true, cond-false}
use Rattle.std.proofs.lemmas.List.Sums.{sum_by-cons, sum_by-le-sum_by}
use Rattle.tspdef.specs.Sets.{has, IsSet, IsProper}
use Rattle.cyc.specs.CitySet.{Members}
use Rattle.cyc.specs.declared.frac.Entry.{Entry}
use Rattle.cyc.specs.Frac.{IsEntry}
use Rattle.maxflow.specs.declared.shrinking.Shrunk.{Shrunk}
use Rattle.maxflow.specs.Crossings.{crossing_at, crossing, between_at, between}
use Rattle.maxflow.specs.Shrinking.{AreGroups, in_group, IsFirst, AreTied, IsSome, IsMatched, IsCovered, IsWeighed, IsMerge, IsNoHeavier, WasGroup, IsShrinking, merged_to}
use Rattle.maxflow.specs.Merging.{AreDegrees, AreUntiedBelow, IsGroupKept, IsSetKept, IsLighterOf}
use Rattle.maxflow.proofs.SideLemmas.{proper_from}

-- ---- sums over entries

-- the crossing weight is told by the cities below n
pub crossing_within : (n : ℕ) (es : List Entry) (p q : ℕ → Bool) → AllByRecursion (IsEntry n) es → ((k : ℕ) → k < n → p k ≡ q k) → crossing es p ≡ crossing es q
crossing_within n [] p q a e = refl
crossing_within n (w ∷ es) p q a e =
    let ih = crossing_within n es p q a.1 e in
    let u = e w.u a.0.u_below in
    let v = e w.v a.0.v_below in
    let l : crossing (w ∷ es) p ≡ crossing_at p w + crossing es p = sum_by-cons (crossing_at p) w es in
    let r : crossing (w ∷ es) q ≡ crossing_at q w + crossing es q = sum_by-cons (crossing_at q) w es in
    let s : crossing_at p w ≡ crossing_at q w = ap (λ t. cond t (cond (p w.v) 0 w.x) (cond (p w.v) w.x 0)) u ∙ ap (λ t. cond (q w.u) (cond t 0 w.x) (cond t w.x 0)) v in
    cc

-- what crosses, of two ends
abbrev cross : Bool → Bool → ℕ → ℕ
cross p q x = cond p (cond q 0 x) (cond q x 0)

-- what is between, of two ends
abbrev among : Bool → Bool → Bool → Bool → ℕ → ℕ
among au av bu bv x = cond au (cond bv x 0) (cond av (cond bu x 0) 0)

first_moved : (qa qv bv : Bool) (x : ℕ) → (bv ≡ true → qv ≡ not qa) → cross (not qa) qv x + 2 * cond bv x 0 ≤ cross qa qv x + x
first_moved true true true x h = let z : true ≡ false = h refl in absurd cc
first_moved true true false x h = omega arith
first_moved true false true x h = omega arith
first_moved true false false x h = omega arith
first_moved false true true x h = omega arith
first_moved false true false x h = omega arith
first_moved false false true x h = let z : false ≡ true = h refl in absurd cc
first_moved false false false x h = omega arith

second_moved : (qa qu bu : Bool) (x : ℕ) → (bu ≡ true → qu ≡ not qa) → cross qu (not qa) x + 2 * cond bu x 0 ≤ cross qu qa x + x
second_moved true true true x h = let z : true ≡ false = h refl in absurd cc
second_moved true true false x h = omega arith
second_moved true false true x h = omega arith
second_moved true false false x h = omega arith
second_moved false true true x h = omega arith
second_moved false true false x h = omega arith
second_moved false false true x h = let z : false ≡ true = h refl in absurd cc
second_moved false false false x h = omega arith

both_moved : (qa bv : Bool) (x : ℕ) → (bv ≡ true → qa ≡ not qa) → cross (not qa) (not qa) x + 2 * cond bv x 0 ≤ cross qa qa x + 0
both_moved true true x h = let z : true ≡ false = h refl in absurd cc
both_moved true false x h = omega arith
both_moved false true x h = let z : false ≡ true = h refl in absurd cc
both_moved false false x h = omega arith

moved_case : (au av bu bv qu qv qa : Bool) (x : ℕ) → (au ≡ true → qu ≡ qa) → (av ≡ true → qv ≡ qa) → (bu ≡ true → qu ≡ not qa) → (bv ≡ true → qv ≡ not qa)
    → cross (cond au (not qa) qu) (cond av (not qa) qv) x + 2 * among au av bu bv x ≤ cross qu qv x + cross au av x
moved_case true true bu bv qu qv qa x hu hv ku kv =
    let e = hu refl in
    let f = hv refl in
    let z = both_moved qa bv x (λ t. sym f ∙ kv t) in
    rw (e, f) z
moved_case true false bu bv qu qv qa x hu hv ku kv = let e = hu refl in let z = first_moved qa qv bv x kv in rw e z
moved_case false true bu bv qu qv qa x hu hv ku kv = let f = hv refl in let z = second_moved qa qu bu x ku in rw f z
moved_case false false bu bv qu qv qa x hu hv ku kv = omega arith

-- a union of groups with the group a taken to the other side
abbrev pub moved : List ℕ → ℕ → (ℕ → Bool) → ℕ → Bool
moved groups a q k = cond (in_group groups a k) (not (q a)) (q k)

-- the group's members are where its first city is
with_first : (n : ℕ) (groups : List ℕ) (q : ℕ → Bool) (c k : ℕ) → ((j : ℕ) → j < n → q j ≡ q (get_or groups j 0)) → k < n → in_group groups c k ≡ true → q k ≡ q c
with_first n groups q c k whole h t = whole k h ∙ ap q (eqb-true (get_or groups k 0) c t)

-- Two groups that a union parts: with the first taken to the other side, what is between them is crossed no more.
moved_sum : (n : ℕ) (es : List Entry) (groups : List ℕ) (a b : ℕ) (q : ℕ → Bool) → AllByRecursion (IsEntry n) es → ((j : ℕ) → j < n → q j ≡ q (get_or groups j 0)) → q b ≡ not (q a)
    → crossing es (moved groups a q) + 2 * between es (in_group groups a) (in_group groups b) ≤ crossing es q + crossing es (in_group groups a)
moved_sum n [] groups a b q all whole parted = omega arith
moved_sum n (e ∷ es) groups a b q all whole parted =
    let ih = moved_sum n es groups a b q all.1 whole parted in
    let one : crossing_at (moved groups a q) e + 2 * between_at (in_group groups a) (in_group groups b) e ≤ crossing_at q e + crossing_at (in_group groups a) e =
    moved_case (in_group groups a e.u) (in_group groups a e.v) (in_group groups b e.u) (in_group groups b e.v) (q e.u) (q e.v) (q a) e.x
    (with_first n groups q a e.u whole all.0.u_below) (with_first n groups q a e.v whole all.0.v_below)
    (λ t. with_first n groups q b e.u whole all.0.u_below t ∙ parted) (λ t. with_first n groups q b e.v whole all.0.v_below t ∙ parted) in
    let s1 : crossing (e ∷ es) (moved groups a q) ≡ crossing_at (moved groups a q) e + crossing es (moved groups a q) = sum_by-cons (crossing_at (moved groups a q)) e es in
    let s2 : between (e ∷ es) (in_group groups a) (in_group groups b) ≡ between_at (in_group groups a) (in_group groups b) e + between es (in_group groups a) (in_group groups b) = sum_by-cons (between_at (in_group groups a) (in_group groups b)) e es in
    let s3 : crossing (e ∷ es) q ≡ crossing_at q e + crossing es q = sum_by-cons (crossing_at q) e es in
    let s4 : crossing (e ∷ es) (in_group groups a) ≡ crossing_at (in_group groups a) e + crossing es (in_group groups a) = sum_by-cons (crossing_at (in_group groups a)) e es in
    omega (arith, ih, one, s1, s2, s3, s4)

flip_case : (c au av : Bool) (x : ℕ) → cross (cond au c (not c)) (cond av c (not c)) x ≡ cross au av x
flip_case true true true x = refl
flip_case true true false x = refl
flip_case true false true x = refl
flip_case true false false x = refl
flip_case false true true x = refl
flip_case false true false x = refl
flip_case false false true x = refl
flip_case false false false x = refl

-- a set and all other cities are crossed by the same
pub flipped : (es : List Entry) (p : ℕ → Bool) (c : Bool) → crossing es (λ k. cond (p k) c (not c)) ≡ crossing es p
flipped [] p c = refl
flipped (e ∷ es) p c =
    let ih = flipped es p c in
    let one : crossing_at (λ k. cond (p k) c (not c)) e ≡ crossing_at p e = flip_case c (p e.u) (p e.v) e.x in
    let l : crossing (e ∷ es) (λ k. cond (p k) c (not c)) ≡ crossing_at (λ k. cond (p k) c (not c)) e + crossing es (λ k. cond (p k) c (not c)) = sum_by-cons (crossing_at (λ k. cond (p k) c (not c))) e es in
    let r : crossing (e ∷ es) p ≡ crossing_at p e + crossing es p = sum_by-cons (crossing_at p) e es in
    omega (arith, ih, one, l, r)

among_case : (au av bu bv : Bool) (x : ℕ) → (au ≡ true → bu ≡ false) → (av ≡ true → bv ≡ false) → among au av bu bv x ≤ cross au av x
among_case true true bu bv x h k = let z = k refl in rw z (omega arith)
among_case true false bu true x h k = omega arith
among_case true false bu false x h k = omega arith
among_case false true true bv x h k = omega arith
among_case false true false bv x h k = omega arith
among_case false false bu bv x h k = omega arith

other_group : (groups : List ℕ) (a b k : ℕ) → (b ≡ a → ⊥) → in_group groups a k ≡ true → in_group groups b k ≡ false
other_group groups a b k ne t = ne_eqb (get_or groups k 0) b (λ e. ne (sym e ∙ eqb-true (get_or groups k 0) a t))

-- what is between two groups crosses the one
pub between_less : (es : List Entry) (groups : List ℕ) (a b : ℕ) → (b ≡ a → ⊥) → between es (in_group groups a) (in_group groups b) ≤ crossing es (in_group groups a)
between_less es groups a b ne = sum_by-le-sum_by (between_at (in_group groups a) (in_group groups b)) (crossing_at (in_group groups a)) es
    (λ e. among_case (in_group groups a e.u) (in_group groups a e.v) (in_group groups b e.u) (in_group groups b e.v) e.x
    (other_group groups a b e.u ne) (other_group groups a b e.v ne))

among_turned : (au av bu bv : Bool) (x : ℕ) → (au ≡ true → bu ≡ false) → (av ≡ true → bv ≡ false) → among au av bu bv x ≡ among bu bv au av x
among_turned true true bu bv x h k = let y = h refl in let z = k refl in rw (y, z) refl
among_turned true false bu true x h k = let y = h refl in rw y refl
among_turned true false bu false x h k = let y = h refl in rw y refl
among_turned false true true bv x h k = refl
among_turned false true false bv x h k = let z = k refl in rw z refl
among_turned false false true bv x h k = refl
among_turned false false false true x h k = refl
among_turned false false false false x h k = refl

-- what is between two groups, from either side
pub between_turned : (es : List Entry) (groups : List ℕ) (a b : ℕ) → (b ≡ a → ⊥) → between es (in_group groups a) (in_group groups b) ≡ between es (in_group groups b) (in_group groups a)
between_turned [] groups a b ne = refl
between_turned (e ∷ es) groups a b ne =
    let ih = between_turned es groups a b ne in
    let one : between_at (in_group groups a) (in_group groups b) e ≡ between_at (in_group groups b) (in_group groups a) e =
    among_turned (in_group groups a e.u) (in_group groups a e.v) (in_group groups b e.u) (in_group groups b e.v) e.x (other_group groups a b e.u ne) (other_group groups a b e.v ne) in
    let l : between (e ∷ es) (in_group groups a) (in_group groups b) ≡ between_at (in_group groups a) (in_group groups b) e + between es (in_group groups a) (in_group groups b) = sum_by-cons (between_at (in_group groups a) (in_group groups b)) e es in
    let r : between (e ∷ es) (in_group groups b) (in_group groups a) ≡ between_at (in_group groups b) (in_group groups a) e + between es (in_group groups b) (in_group groups a) = sum_by-cons (between_at (in_group groups b) (in_group groups a)) e es in
    omega (arith, ih, one, l, r)

pub tied_turned : (es : List Entry) (groups : List ℕ) (a b : ℕ) → (b ≡ a → ⊥) → AreTied es groups a b → AreTied es groups b a
tied_turned es groups a b ne t =
    let e = between_turned es groups a b ne in
    let one = t.one in
    let other = t.other in
    record { one = omega (arith, e, other); other = omega (arith, e, one) }

-- what is between two sets is told by the cities below n
between_within : (n : ℕ) (es : List Entry) (p q s t : ℕ → Bool) → AllByRecursion (IsEntry n) es → ((k : ℕ) → k < n → p k ≡ q k) → ((k : ℕ) → k < n → s k ≡ t k) → between es p s ≡ between es q t
between_within n [] p q s t a e f = refl
between_within n (w ∷ es) p q s t a e f =
    let ih = between_within n es p q s t a.1 e f in
    let one : between_at p s w ≡ between_at q t w =
    ap (λ i. cond i (cond (s w.v) w.x 0) (cond (p w.v) (cond (s w.u) w.x 0) 0)) (e w.u a.0.u_below)
    ∙ ap (λ i. cond (q w.u) (cond i w.x 0) (cond (p w.v) (cond (s w.u) w.x 0) 0)) (f w.v a.0.v_below)
    ∙ ap (λ i. cond (q w.u) (cond (t w.v) w.x 0) (cond i (cond (s w.u) w.x 0) 0)) (e w.v a.0.v_below)
    ∙ ap (λ i. cond (q w.u) (cond (t w.v) w.x 0) (cond (q w.v) (cond i w.x 0) 0)) (f w.u a.0.u_below) in
    let l : between (w ∷ es) p s ≡ between_at p s w + between es p s = sum_by-cons (between_at p s) w es in
    let r : between (w ∷ es) q t ≡ between_at q t w + between es q t = sum_by-cons (between_at q t) w es in
    omega (arith, ih, one, l, r)

-- a sum modulo 2^64 that is small
pub exact : (value sum : ℕ) → value ≡ sum % 2 ^ 64 → sum < 2 ^ 53 → value ≡ sum
exact value sum e l = omega (arith, e, l)

-- ---- sets of some cities

bool_cases : (b : Bool) → (b ≡ true) ⊎ (b ≡ false)
bool_cases true = inl refl
bool_cases false = inr refl

same_or_not : (b c : Bool) → (b ≡ c) ⊎ (b ≡ not c)
same_or_not true true = inl refl
same_or_not true false = inr refl
same_or_not false true = inr refl
same_or_not false false = inl refl

-- two cities are told apart
some_from : (n i j : ℕ) (p : ℕ → Bool) → i < n → j < n → p i ≡ not (p j) → IsSome n p
some_from n i j p hi hj d = ⊎_elim
    (λ (t : p j ≡ true). record { inside = j; in_below = hj; holds = t; outside = i; out_below = hi; lacks = d ∙ ap not t })
    (λ (f : p j ≡ false). record { inside = i; in_below = hi; holds = d ∙ ap not f; outside = j; out_below = hj; lacks = f })
    (bool_cases (p j))

-- all cities below n are on the one side, or one is on the other
all_or_one : (n : ℕ) (p : ℕ → Bool) (c : Bool) → ((k : ℕ) × ((k < n) × (p k ≡ not c))) ⊎ ((k : ℕ) → k < n → p k ≡ c)
all_or_one zero p c = inr (λ k h. absurd (omega arith))
all_or_one (suc n) p c = ⊎_elim
    (λ (s : p n ≡ c). ⊎_elim
    (λ (f : (k : ℕ) × ((k < n) × (p k ≡ not c))). inl (f.0, (let z = f.1.0 in omega arith, f.1.1)))
    (λ (f : (k : ℕ) → k < n → p k ≡ c). inr (λ k h. ⊎_elim (λ (e : k ≡ n). subst (λ j. p j ≡ c) (sym e) s) (λ (ne : k ≡ n → ⊥). f k (omega arith)) (cases_eq k n)))
    (all_or_one n p c))
    (λ (d : p n ≡ not c). inl (n, (omega arith, d)))
    (same_or_not (p n) c)

-- ---- the merged groups

to_at : (a b k : ℕ) → k ≡ b → merged_to a b k ≡ a
to_at a b k e = cond-true (k == b) a k (eq-eqb k b e)

to_off : (a b k : ℕ) → (k ≡ b → ⊥) → merged_to a b k ≡ k
to_off a b k ne = cond-false (k == b) a k (ne_eqb k b ne)

-- all of the old groups and of the new
pub record AreMerged (n : ℕ) (old now : List ℕ) (a b : ℕ) : Type 0 where
  pub groups : AreGroups n old
  pub first : IsFirst n old a
  pub second : IsFirst n old b
  pub before : a < b
  pub size : length now ≡ n
  pub each : (k : ℕ) → k < n → get_or now k 0 ≡ merged_to a b (get_or old k 0)

pub merged_groups : (n : ℕ) (old now : List ℕ) (a b : ℕ) → AreMerged n old now a b → AreGroups n now
merged_groups n old now a b m = record {
  all = m.size;
  least = λ k h.
      let e = m.each k h in
      let l = m.groups.least k h in
      let s = m.before in
      ⊎_elim
      (λ (q : get_or old k 0 ≡ b). let z = to_at a b (get_or old k 0) q in omega (arith, e, l, s, q, z))
      (λ (q : get_or old k 0 ≡ b → ⊥). let z = to_off a b (get_or old k 0) q in omega (arith, e, l, z))
      (cases_eq (get_or old k 0) b);
  own = λ k h.
      let e = m.each k h in
      let l = m.groups.least k h in
      let s = m.before in
      let o = m.first.own in
      ⊎_elim
      (λ (q : get_or old k 0 ≡ b).
      let z : get_or now k 0 ≡ a = e ∙ to_at a b (get_or old k 0) q in
      let y : get_or now a 0 ≡ a = m.each a m.first.below ∙ to_off a b (get_or old a 0) (λ r. omega (arith, r, o, s)) ∙ o in
      subst (λ i. get_or now i 0 ≡ i) (sym z) y)
      (λ (q : get_or old k 0 ≡ b → ⊥).
      let z : get_or now k 0 ≡ get_or old k 0 = e ∙ to_off a b (get_or old k 0) q in
      let i = m.groups.own k h in
      let y : get_or now (get_or old k 0) 0 ≡ get_or old k 0 =
      m.each (get_or old k 0) (omega (arith, l, h)) ∙ to_off a b (get_or old (get_or old k 0) 0) (λ r. q (sym i ∙ r)) ∙ i in
      subst (λ j. get_or now j 0 ≡ j) (sym z) y)
      (cases_eq (get_or old k 0) b);
}

-- a union of groups that has both or neither is one of the merged groups
whole_still : (n : ℕ) (old now : List ℕ) (a b : ℕ) (q : ℕ → Bool) → AreMerged n old now a b → ((j : ℕ) → j < n → q j ≡ q (get_or old j 0)) → q b ≡ q a
    → (k : ℕ) → k < n → q k ≡ q (get_or now k 0)
whole_still n old now a b q m whole same k h = ⊎_elim
    (λ (e : get_or old k 0 ≡ b). whole k h ∙ ap q e ∙ same ∙ ap q (sym (m.each k h ∙ to_at a b (get_or old k 0) e)))
    (λ (e : get_or old k 0 ≡ b → ⊥). whole k h ∙ ap q (sym (m.each k h ∙ to_off a b (get_or old k 0) e)))
    (cases_eq (get_or old k 0) b)

moved_in : (groups : List ℕ) (a : ℕ) (q : ℕ → Bool) (k : ℕ) → get_or groups k 0 ≡ a → moved groups a q k ≡ not (q a)
moved_in groups a q k e = cond-true (in_group groups a k) (not (q a)) (q k) (eq-eqb (get_or groups k 0) a e)

moved_out : (groups : List ℕ) (a : ℕ) (q : ℕ → Bool) (k : ℕ) → (get_or groups k 0 ≡ a → ⊥) → moved groups a q k ≡ q k
moved_out groups a q k ne = cond-false (in_group groups a k) (not (q a)) (q k) (ne_eqb (get_or groups k 0) a ne)

-- with the first group taken to the second's side it is a union of the merged groups
whole_moved : (n : ℕ) (old now : List ℕ) (a b : ℕ) (q : ℕ → Bool) → AreMerged n old now a b → ((j : ℕ) → j < n → q j ≡ q (get_or old j 0)) → q b ≡ not (q a)
    → (k : ℕ) → k < n → moved old a q k ≡ moved old a q (get_or now k 0)
whole_moved n old now a b q m whole parted k h =
    let s = m.before in
    let o = m.first.own in
    let at_a : moved old a q a ≡ not (q a) = moved_in old a q a o in
    ⊎_elim
    (λ (e : get_or old k 0 ≡ b).
    let l : moved old a q k ≡ not (q a) = moved_out old a q k (λ r. omega (arith, r, e, s)) ∙ whole k h ∙ ap q e ∙ parted in
    let i : get_or now k 0 ≡ a = m.each k h ∙ to_at a b (get_or old k 0) e in
    l ∙ sym (ap (moved old a q) i ∙ at_a))
    (λ (e : get_or old k 0 ≡ b → ⊥).
    let i : get_or now k 0 ≡ get_or old k 0 = m.each k h ∙ to_off a b (get_or old k 0) e in
    ⊎_elim
    (λ (f : get_or old k 0 ≡ a). moved_in old a q k f ∙ sym (ap (moved old a q) (i ∙ f) ∙ at_a))
    (λ (f : get_or old k 0 ≡ a → ⊥).
    let own = m.groups.own k h in
    moved_out old a q k f ∙ whole k h ∙ sym (ap (moved old a q) i ∙ moved_out old a q (get_or old k 0) (λ r. f (sym own ∙ r))))
    (cases_eq (get_or old k 0) a))
    (cases_eq (get_or old k 0) b)

-- where all cities are on the side of the second, the first group alone was parted from them
alone_crossed : (n : ℕ) (es : List Entry) (old : List ℕ) (a : ℕ) (q : ℕ → Bool) → AllByRecursion (IsEntry n) es → ((j : ℕ) → j < n → q j ≡ q (get_or old j 0))
    → ((k : ℕ) → k < n → moved old a q k ≡ not (q a)) → crossing es q ≡ crossing es (in_group old a)
alone_crossed n es old a q all whole flat =
    crossing_within n es q (λ k. cond (in_group old a k) (q a) (not (q a))) all
    (λ k h. ⊎_elim
    (λ (t : in_group old a k ≡ true). with_first n old q a k whole h t ∙ sym (cond-true (in_group old a k) (q a) (not (q a)) t))
    (λ (f : in_group old a k ≡ false). sym (cond-false (in_group old a k) (not (q a)) (q k) f) ∙ flat k h ∙ sym (cond-false (in_group old a k) (q a) (not (q a)) f))
    (bool_cases (in_group old a k)))
    ∙ flipped es (in_group old a) (q a)

at_least : (x y z w : ℕ) → x ≤ y → y ≤ z → z ≤ w → x ≤ w
at_least x y z w a b c = omega arith

no_more_moved : (m d c a : ℕ) → m + 2 * d ≤ c + a → a ≤ 2 * d → m ≤ c
no_more_moved m d c a s t = omega arith

at_most : (x y z : ℕ) → x ≤ y → y ≤ z → x ≤ z
at_most x y z a b = omega arith

-- a set that a union matched is matched by a union of the merged groups, or the first group is as light
match_merged : (n : ℕ) (es : List Entry) (old now : List ℕ) (a b best : ℕ) (p : ℕ → Bool) → AllByRecursion (IsEntry n) es → AreMerged n old now a b → AreTied es old a b
    → best ≤ crossing es (in_group old a) → IsMatched n es old p → (best ≤ crossing es p) ⊎ IsMatched n es now p
match_merged n es old now a b best p all m tied light w =
    let q = w.union in
    ⊎_elim
    (λ (same : q b ≡ q a). inr (record { union = q; some = w.some; whole = whole_still n old now a b q m w.whole same; no_more = w.no_more }))
    (λ (parted : q b ≡ not (q a)).
    let s = m.before in
    let second : moved old a q b ≡ not (q a) = moved_out old a q b (λ r. let o = m.second.own in omega (arith, r, o, s)) ∙ parted in
    ⊎_elim
    (λ (f : (k : ℕ) × ((k < n) × (moved old a q k ≡ not (not (q a))))).
    inr (record {
      union = moved old a q;
      some = some_from n f.0 b (moved old a q) f.1.0 m.second.below (f.1.1 ∙ ap not (sym second));
      whole = whole_moved n old now a b q m w.whole parted;
      no_more = at_most _ _ _ (no_more_moved _ _ _ _ (moved_sum n es old a b q all w.whole parted) tied.one) w.no_more;
    }))
    (λ (flat : (k : ℕ) → k < n → moved old a q k ≡ not (q a)).
    let e = alone_crossed n es old a q all w.whole flat in
    let l = w.no_more in
    inl (omega (arith, e, l, light)))
    (all_or_one n (moved old a q) (not (q a))))
    (same_or_not (q b) (q a))

-- no proper set is lost
pub covers_merged : (n : ℕ) (es : List Entry) (old now : List ℕ) (a b best less : ℕ) → AllByRecursion (IsEntry n) es → AreMerged n old now a b → AreTied es old a b
    → best ≤ crossing es (in_group old a) → less ≤ best → IsCovered n es old best → IsCovered n es now less
covers_merged n es old now a b best less all m tied light l covered = λ p s. ⊎_elim
    (λ (h : best ≤ crossing es p). inl (at_most _ _ _ l h))
    (λ (w : IsMatched n es old p). ⊎_elim
    (λ (h : best ≤ crossing es p). inl (at_most _ _ _ l h))
    (λ (v : IsMatched n es now p). inr v)
    (match_merged n es old now a b best p all m tied light w))
    (covered p s)

-- where each city is alone, each set is a union of groups
pub covers_alone : (n : ℕ) (es : List Entry) (groups : List ℕ) (best : ℕ) → ((k : ℕ) → k < n → get_or groups k 0 ≡ k) → IsCovered n es groups best
covers_alone n es groups best alone = λ p s. inr (record { union = p; some = s; whole = λ k h. ap p (sym (alone k h)); no_more = omega arith })

-- a group that was there before
still_first : (n : ℕ) (old now : List ℕ) (a b c : ℕ) → AreMerged n old now a b → IsFirst n now c → (c ≡ a → ⊥) → (c ≡ b → ⊥) × IsFirst n old c
still_first n old now a b c m f ne =
    let e = m.each c f.below in
    let o = f.own in
    let off : get_or old c 0 ≡ b → ⊥ = λ r. let z = to_at a b (get_or old c 0) r in ne (sym o ∙ e ∙ z) in
    let z = to_off a b (get_or old c 0) off in
    let own : get_or old c 0 ≡ c = sym z ∙ sym e ∙ o in
    (λ r. off (own ∙ r), record { below = f.below; own = own })

same_group : (n : ℕ) (old now : List ℕ) (a b c : ℕ) → AreMerged n old now a b → (c ≡ a → ⊥) → (c ≡ b → ⊥) → (k : ℕ) → k < n → in_group now c k ≡ in_group old c k
same_group n old now a b c m na nb k h =
    let e = m.each k h in
    ⊎_elim
    (λ (r : get_or old k 0 ≡ b).
    ne_eqb (get_or now k 0) c (λ q. na (sym q ∙ e ∙ to_at a b (get_or old k 0) r)) ∙ sym (ne_eqb (get_or old k 0) c (λ q. nb (sym q ∙ r))))
    (λ (r : get_or old k 0 ≡ b → ⊥). ap (λ j. j == c) (e ∙ to_off a b (get_or old k 0) r))
    (cases_eq (get_or old k 0) b)

-- what is no heavier than each old group and the new one is no heavier than each
pub light_merged : (n : ℕ) (es : List Entry) (old now : List ℕ) (a b best less : ℕ) → AllByRecursion (IsEntry n) es → AreMerged n old now a b → less ≤ best
    → ((c d : ℕ) → IsFirst n old c → IsFirst n old d → (c ≡ d → ⊥) → best ≤ crossing es (in_group old c))
    → ((k : ℕ) → k < n → in_group now a k ≡ false → less ≤ crossing es (in_group now a))
    → (c d : ℕ) → IsFirst n now c → IsFirst n now d → (c ≡ d → ⊥) → less ≤ crossing es (in_group now c)
light_merged n es old now a b best less all m l light new c d fc fd ne = ⊎_elim
    (λ (e : c ≡ a). subst (λ j. less ≤ crossing es (in_group now j)) (sym e)
    (new d fd.below (ne_eqb (get_or now d 0) a (λ r. ne (e ∙ sym r ∙ fd.own)))))
    (λ (na : c ≡ a → ⊥).
    let s = still_first n old now a b c m fc na in
    let h = light c a s.1 m.first na in
    let e = crossing_within n es (in_group now c) (in_group old c) all (same_group n old now a b c m na s.0) in
    omega (arith, l, h, e))
    (cases_eq c a)

-- ---- sets of groups

-- a group that lacks a city is proper
pub proper_group : (n : ℕ) (groups : List ℕ) (a k : ℕ) (s : List ℕ) → IsFirst n groups a → k < n → in_group groups a k ≡ false → IsSet n s
    → ((j : ℕ) → j < n → has s j ≡ in_group groups a j) → IsProper n s
proper_group n groups a k s f h lacks set members =
    proper_from n a k s set (members a f.below ∙ eq-eqb (get_or groups a 0) a f.own) h (members k h ∙ lacks)

-- a proper group is crossed by its weight
pub weighed_group : (n : ℕ) (es : List Entry) (groups : List ℕ) (a weight : ℕ) (s : Members) → AllByRecursion (IsEntry n) es → s.n ≡ n → ((j : ℕ) → j < n → has s.cities j ≡ in_group groups a j)
    → IsProper n s.cities → weight ≡ crossing es (in_group groups a) → IsWeighed n es weight s
weighed_group n es groups a weight s all cities members proper w = record {
  cities = cities;
  proper = proper;
  crossed = crossing_within n es (has s.cities) (in_group groups a) all members ∙ sym w;
}

-- two groups that were not merged are tied as they were
tied_before : (n : ℕ) (es : List Entry) (old now : List ℕ) (a b c d : ℕ) → AllByRecursion (IsEntry n) es → AreMerged n old now a b → (c ≡ a → ⊥) → (c ≡ b → ⊥) → (d ≡ a → ⊥) → (d ≡ b → ⊥)
    → AreTied es now c d → AreTied es old c d
tied_before n es old now a b c d all m ca cb da db t =
    let one = t.one in
    let other = t.other in
    let x = crossing_within n es (in_group now c) (in_group old c) all (same_group n old now a b c m ca cb) in
    let y = crossing_within n es (in_group now d) (in_group old d) all (same_group n old now a b d m da db) in
    let z = between_within n es (in_group now c) (in_group old c) (in_group now d) (in_group old d) all (same_group n old now a b c m ca cb) (same_group n old now a b d m da db) in
    record { one = omega (arith, one, x, z); other = omega (arith, other, y, z) }

-- groups that were not tied stay so, but for the merged one
pub untied_merged : (n : ℕ) (es : List Entry) (old now : List ℕ) (a b city but : ℕ) → AllByRecursion (IsEntry n) es → AreMerged n old now a b → (but ≡ a) ⊎ (but ≡ b)
    → AreUntiedBelow n es old city but → AreUntiedBelow n es now city a
untied_merged n es old now a b city but all m either untied = λ c d fc fd before below nc nd tied.
    let s = still_first n old now a b c m fc nc in
    let t = still_first n old now a b d m fd nd in
    let mc : c ≡ but → ⊥ = λ e. ⊎_elim (λ (r : but ≡ a). nc (e ∙ r)) (λ (r : but ≡ b). s.0 (e ∙ r)) either in
    let md : d ≡ but → ⊥ = λ e. ⊎_elim (λ (r : but ≡ a). nd (e ∙ r)) (λ (r : but ≡ b). t.0 (e ∙ r)) either in
    untied c d s.1 t.1 before below mc md (tied_before n es old now a b c d all m nc s.0 nd t.0 tied)

-- the degree of the merged group is new, those of the others stay
pub degrees_merged : (n : ℕ) (es : List Entry) (old now : List ℕ) (a b : ℕ) (before after : List ℕ) → AllByRecursion (IsEntry n) es → AreMerged n old now a b → AreDegrees n es old before
    → get_or after a 0 ≡ crossing es (in_group now a) → ((k : ℕ) → (k ≡ a → ⊥) → get_or after k 0 ≡ get_or before k 0) → AreDegrees n es now after
degrees_merged n es old now a b before after all m degrees here others = λ c f. ⊎_elim
    (λ (e : c ≡ a). subst (λ j. get_or after j 0 ≡ crossing es (in_group now j)) (sym e) here)
    (λ (ne : c ≡ a → ⊥).
    let s = still_first n old now a b c m f ne in
    others c ne ∙ degrees c s.1 ∙ sym (crossing_within n es (in_group now c) (in_group old c) all (same_group n old now a b c m ne s.0)))
    (cases_eq c a)

-- what is no heavier than each of the old groups, and the new one, is no heavier than each that lacks a city
no_heavier_merged : (n : ℕ) (es : List Entry) (old now : List ℕ) (a b best less : ℕ) → AllByRecursion (IsEntry n) es → AreMerged n old now a b → less ≤ best → IsNoHeavier n es best old
    → ((k : ℕ) → k < n → in_group now a k ≡ false → less ≤ crossing es (in_group now a)) → IsNoHeavier n es less now
no_heavier_merged n es old now a b best less all m l heavy new = λ c k f h lacks. ⊎_elim
    (λ (e : c ≡ a). subst (λ j. less ≤ crossing es (in_group now j)) (sym e) (new k h (ap (λ j. in_group now j k) (sym e) ∙ lacks)))
    (λ (ne : c ≡ a → ⊥).
    let s = still_first n old now a b c m f ne in
    let z = heavy c k s.1 h (sym (same_group n old now a b c m ne s.0 k h) ∙ lacks) in
    let e = crossing_within n es (in_group now c) (in_group old c) all (same_group n old now a b c m ne s.0) in
    omega (arith, l, z, e))
    (cases_eq c a)

-- what is less is no heavier than each group of these times
still_no_heavier : (n : ℕ) (es : List Entry) (best less : ℕ) (times : List (List ℕ)) → less ≤ best → AllByRecursion (IsNoHeavier n es best) times → AllByRecursion (IsNoHeavier n es less) times
still_no_heavier n es best less [] l all = tt
still_no_heavier n es best less (groups ∷ times) l all = ((λ a k f h lacks. at_most _ _ _ l (all.0 a k f h lacks)), still_no_heavier n es best less times l all.1)

pub merge_of : (n : ℕ) (es : List Entry) (old now : List ℕ) (a b : ℕ) → AreMerged n old now a b → AreTied es old a b → IsMerge n es old now
merge_of n es old now a b m tied = record { one = a; other = b; first = m.first; second = m.second; before = m.before; tied = tied; size = m.size; each = m.each }

-- the lighter of both is a proper set that is crossed by its weight
weighed_lighter : (n : ℕ) (es : List Entry) (old now : Shrunk) (a weight : ℕ) → AllByRecursion (IsEntry n) es → IsWeighed n es old.best old.set → weight ≡ crossing es (in_group now.groups.items a)
    → IsGroupKept n now.groups.items a weight now.best now.set ⊎ IsSetKept old.best now.best old.set now.set → IsWeighed n es now.best now.set
weighed_lighter n es old now a weight all best w = ⊎_elim
    (λ (g : IsGroupKept n now.groups.items a weight now.best now.set). weighed_group n es now.groups.items a now.best now.set all g.cities g.members g.proper (g.value ∙ w))
    (λ (g : IsSetKept old.best now.best old.set now.set).
    subst (λ v. IsWeighed n es v now.set) (sym g.value) (subst (λ (v : Members). IsWeighed n es old.best v) (sym g.same) best))

-- the lighter of both was a group at some time
was_lighter : (n : ℕ) (old now : Shrunk) (a weight : ℕ) (times : List (List ℕ)) → IsFirst n now.groups.items a → WasGroup n old.set times
    → IsGroupKept n now.groups.items a weight now.best now.set ⊎ IsSetKept old.best now.best old.set now.set → WasGroup n now.set (now.groups.items ∷ times)
was_lighter n old now a weight times first was = ⊎_elim
    (λ (g : IsGroupKept n now.groups.items a weight now.best now.set). inl (record { least = a; first = first; members = g.members }))
    (λ (g : IsSetKept old.best now.best old.set now.set). inr (subst (λ (v : Members). WasGroup n v times) (sym g.same) was))

pub first_merged : (n : ℕ) (old now : List ℕ) (a b : ℕ) → AreMerged n old now a b → IsFirst n now a
first_merged n old now a b m =
    let s = m.before in
    let o = m.first.own in
    record { below = m.first.below; own = m.each a m.first.below ∙ to_off a b (get_or old a 0) (λ r. omega (arith, r, o, s)) ∙ o }

-- the step as a whole
pub shrinks_on : (n : ℕ) (es : List Entry) (old now : Shrunk) (a b weight : ℕ) → AllByRecursion (IsEntry n) es → IsShrinking n es old → AreMerged n old.groups.items now.groups.items a b → AreTied es old.groups.items a b
    → weight ≡ crossing es (in_group now.groups.items a) → IsLighterOf n now.groups.items a weight old.best old.set now.best now.set → IsShrinking n es now
shrinks_on n es old now a b weight all s m tied w lighter =
    let before = m.before in
    let l = lighter.no_more in
    let new : (k : ℕ) → k < n → in_group now.groups.items a k ≡ false → now.best ≤ crossing es (in_group now.groups.items a) = λ k h lacks. (let z = lighter.light k h lacks in omega (arith, z, w)) in
    record {
      groups = merged_groups n old.groups.items now.groups.items a b m;
      best = weighed_lighter n es old now a weight all s.best w lighter.kept;
      run = record {
        earlier = old.groups.items ∷ s.run.earlier;
        reached = (merge_of n es old.groups.items now.groups.items a b m tied, s.run.reached);
        least = (
          no_heavier_merged n es old.groups.items now.groups.items a b old.best now.best all m l s.run.least.0 new,
          still_no_heavier n es old.best now.best (old.groups.items ∷ s.run.earlier) l s.run.least,
        );
        was = was_lighter n old now a weight (old.groups.items ∷ s.run.earlier) (first_merged n old.groups.items now.groups.items a b m) s.run.was lighter.kept;
      };
      cities = λ k h. at_most _ _ _ l (s.cities k h);
      light = light_merged n es old.groups.items now.groups.items a b old.best now.best all m l s.light new;
      covered = covers_merged n es old.groups.items now.groups.items a b old.best now.best all m tied
          (s.light a b m.first m.second (λ (e : a ≡ b). omega (arith, e, before))) l s.covered;
    }

-- ---- the merging comes to an end

sums_no_more : (xs ys : List ℕ) → length xs ≡ length ys → ((k : ℕ) → k < length ys → get_or xs k 0 ≤ get_or ys k 0) → sum_by (λ k. k) xs ≤ sum_by (λ k. k) ys
sums_no_more [] [] l h = omega arith
sums_no_more [] (y ∷ ys) l h = absurd (omega arith)
sums_no_more (x ∷ xs) [] l h = absurd (omega arith)
sums_no_more (x ∷ xs) (y ∷ ys) l h =
    let ih = sums_no_more xs ys (omega arith) (λ k b. h (suc k) (omega arith)) in
    let z : x ≤ y = h 0 (omega arith) in
    let a = sum_by-cons (λ (k : ℕ). k) x xs in
    let b = sum_by-cons (λ (k : ℕ). k) y ys in
    omega (arith, ih, z, a, b)

sums_less : (xs ys : List ℕ) (j : ℕ) → length xs ≡ length ys → ((k : ℕ) → k < length ys → get_or xs k 0 ≤ get_or ys k 0) → j < length ys → get_or xs j 0 < get_or ys j 0
    → sum_by (λ k. k) xs < sum_by (λ k. k) ys
sums_less [] [] j l h i s = absurd (omega arith)
sums_less [] (y ∷ ys) j l h i s = absurd (omega arith)
sums_less (x ∷ xs) [] j l h i s = absurd (omega arith)
sums_less (x ∷ xs) (y ∷ ys) zero l h i s =
    let ih = sums_no_more xs ys (omega arith) (λ k b. h (suc k) (omega arith)) in
    let z : x < y = s in
    let a = sum_by-cons (λ (k : ℕ). k) x xs in
    let b = sum_by-cons (λ (k : ℕ). k) y ys in
    omega (arith, ih, z, a, b)
sums_less (x ∷ xs) (y ∷ ys) (suc j) l h i s =
    let ih = sums_less xs ys j (omega arith) (λ k b. h (suc k) (omega arith)) (omega arith) s in
    let z : x ≤ y = h 0 (omega arith) in
    let a = sum_by-cons (λ (k : ℕ). k) x xs in
    let b = sum_by-cons (λ (k : ℕ). k) y ys in
    omega (arith, ih, z, a, b)

pub merged_less : (n : ℕ) (old now : List ℕ) (a b : ℕ) → AreMerged n old now a b → sum now < sum old
merged_less n old now a b m =
    let lo = m.groups.all in
    let ln = m.size in
    let s = m.before in
    let below = m.second.below in
    let own = m.second.own in
    let at = m.each b below ∙ to_at a b (get_or old b 0) own in
    sums_less now old b (omega (arith, lo, ln))
    (λ k h. let e = m.each k (omega (arith, h, lo)) in ⊎_elim
    (λ (q : get_or old k 0 ≡ b). let z = to_at a b (get_or old k 0) q in omega (arith, e, q, z, s))
    (λ (q : get_or old k 0 ≡ b → ⊥). let z = to_off a b (get_or old k 0) q in omega (arith, e, z))
    (cases_eq (get_or old k 0) b))
    (omega (arith, below, lo)) (omega (arith, at, own, s))

pub groups_alone : (n : ℕ) (groups : List ℕ) → length groups ≡ n → ((k : ℕ) → k < n → get_or groups k 0 ≡ k) → AreGroups n groups
groups_alone n groups size alone = record {
  all = size;
  least = λ k h. let e = alone k h in omega (arith, e);
  own = λ k h. let e = alone k h in subst (λ j. get_or groups j 0 ≡ j) (sym e) e;
}

-- a city but this one
other_city : (n city : ℕ) → 3 ≤ n → (k : ℕ) × ((k < n) × (k ≡ city → ⊥))
other_city n zero many = (1, (omega (arith, many), λ e. omega (arith, e)))
other_city n (suc city) many = (0, (omega (arith, many), λ e. omega (arith, e)))

-- each group is one city: the lightest of them is a least group
pub shrinks_alone : (n : ℕ) (es : List Entry) (s : Shrunk) (degrees : List ℕ) (city : ℕ) → 3 ≤ n → AllByRecursion (IsEntry n) es → length s.groups.items ≡ n
    → ((k : ℕ) → k < n → get_or s.groups.items k 0 ≡ k) → ((k : ℕ) → k < n → get_or degrees k 0 ≡ crossing es (λ j. j == k)) → city < n
    → ((k : ℕ) → k < n → get_or degrees city 0 ≤ get_or degrees k 0) → s.best ≡ get_or degrees city 0 → s.set.n ≡ n → IsSet n s.set.cities
    → ((k : ℕ) → k < n → has s.set.cities k ≡ in_group s.groups.items city k) → IsShrinking n es s
shrinks_alone n es s degrees city many all size alone values inside least best cities set members =
    let groups = s.groups.items in
    let same : (k : ℕ) → crossing es (in_group groups k) ≡ crossing es (λ j. j == k) = λ k. crossing_within n es (in_group groups k) (λ j. j == k) all (λ j h. ap (λ i. i == k) (alone j h)) in
    let first : IsFirst n groups city = record { below = inside; own = alone city inside } in
    let light : (k : ℕ) → k < n → s.best ≤ crossing es (λ j. j == k) = λ k h. (let l = least k h in let e = values k h in omega (arith, l, e, best)) in
    let heavy : (k : ℕ) → k < n → s.best ≤ crossing es (in_group groups k) = λ k h. (let l = light k h in let e = same k in omega (arith, l, e)) in
    let o = other_city n city many in
    let lacks : in_group groups city o.0 ≡ false = ne_eqb (get_or groups o.0 0) city (λ r. o.1.1 (sym (alone o.0 o.1.0) ∙ r)) in
    record {
      groups = groups_alone n groups size alone;
      best = weighed_group n es groups city s.best s.set all cities members (proper_group n groups city o.0 s.set.cities first o.1.0 lacks set members) (best ∙ values city inside ∙ sym (same city));
      run = record {
        earlier = [];
        reached = alone;
        least = ((λ a k f h lacks. heavy a f.below), tt);
        was = inl (record { least = city; first = first; members = members });
      };
      cities = light;
      light = λ a b fa fb ne. heavy a fa.below;
      covered = covers_alone n es groups s.best alone;
    }

-- their degrees
pub degrees_alone : (n : ℕ) (es : List Entry) (groups degrees : List ℕ) → AllByRecursion (IsEntry n) es → ((k : ℕ) → k < n → get_or groups k 0 ≡ k)
    → ((k : ℕ) → k < n → get_or degrees k 0 ≡ crossing es (λ j. j == k)) → AreDegrees n es groups degrees
degrees_alone n es groups degrees all alone values = λ a f.
    values a f.below ∙ sym (crossing_within n es (in_group groups a) (λ j. j == a) all (λ j h. ap (λ i. i == a) (alone j h)))

-- ---- one pass over the cities

-- one city more, where its group is left out
pub untied_but : (n : ℕ) (es : List Entry) (groups : List ℕ) (a : ℕ) → AreUntiedBelow n es groups a n → AreUntiedBelow n es groups (a + 1) a
untied_but n es groups a untied = λ c d fc fd before below nc nd tied.
    let ic = fc.below in
    let id = fd.below in
    untied c d fc fd before (omega (arith, below, nc)) (λ e. omega (arith, e, ic)) (λ e. omega (arith, e, id)) tied

-- the group that was left out is tied to no other
pub untied_with : (n : ℕ) (es : List Entry) (groups : List ℕ) (city at : ℕ) → AreUntiedBelow n es groups city at → ((b : ℕ) → IsFirst n groups b → (b ≡ at → ⊥) → AreTied es groups at b → ⊥)
    → AreUntiedBelow n es groups city n
untied_with n es groups city at untied none = λ c d fc fd before below nc nd tied. ⊎_elim
    (λ (e : c ≡ at). none d fd (λ r. omega (arith, r, e, before)) (subst (λ j. AreTied es groups j d) e tied))
    (λ (mc : c ≡ at → ⊥). ⊎_elim
    (λ (e : d ≡ at). none c fc mc (subst (λ j. AreTied es groups j c) e (tied_turned es groups c d (λ r. omega (arith, r, before)) tied)))
    (λ (md : d ≡ at → ⊥). untied c d fc fd before below mc md tied)
    (cases_eq d at))
    (cases_eq c at)
