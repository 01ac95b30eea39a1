-- a line of the list of cuts, forth and back
use Rattle.std.proofs.Common.{◌≡◌, ℕ, zero, suc, ◌+◌, Bool, true, false, cond, ◌&&◌, List, [], ◌∷◌, ◌++◌, length, map, refl, sym, ap, ◌∙◌, subst, arith, append_assoc}
use Rattle.std.proofs.lemmas.Bool.{and_parts, and_from}
use Rattle.std.specs.List.{flat_map, AllByRecursion}
use Rattle.certdef.specs.Items.{Item, title_line, size_line, length_line, bound_line, tour_line, cuts_line, subtour_line, comb_line, handle_line, tooth_line, odd_line, pair_line, edge_line, clique_line, leaf_line, city_line, cut_line, condition_line, open_line, is_before, pairs_rise_from, pairs_rise}
use Rattle.certdef.specs.Proofs.{Listed, subtour_cut, comb_cut, odd_cut, listed_items, pair_item}
use Rattle.certdef.specs.Accepted.{rises_in_cut}
use Rattle.certdef.specs.Tests.{Tests}
use Rattle.certdef.specs.Verdicts.{Head, Stage, Outcome, go, refused, after, may_follow, with_cut, cuts_on, cut_end, teeth_on, pairs_on, on_cut, on_handle, on_tooth, on_odd_handle, on_pair}
use Rattle.verdict.proofs.Left.{says, Trees, with_cuts, CutsLeft, TeethLeft, HandleLeft, pairs_follow, PairsLeft, OddHandleLeft, Left, LeftOf}

pub append_nil : {X : Type 0} (xs : List X) → xs ++ [] ≡ xs
append_nil [] = refl
append_nil (x ∷ xs) = ap (λ r. x ∷ r) (append_nil xs)

pub empty : {X : Type 0} (xs : List X) → length xs ≡ 0 → xs ≡ []
empty [] e = refl
empty (x ∷ xs) e = absurd (omega arith)

pub after_last : {X : Type 0} (ps : List (ℕ × X)) (p : ℕ × X) → after (ps ++ p ∷ []) ≡ p.0 + 1
after_last [] p = refl
after_last (q ∷ []) p = refl
after_last (q ∷ r ∷ rs) p = after_last (r ∷ rs) p

-- ---- tests

-- a test that passed, or the text would have been refused
pub passed : (j : Tests) (l : ℕ × ℕ) (b : Bool) (s : Stage) (k at : ℕ) (xs : List Item) → LeftOf j l (cond b (go s) (refused k at)) xs → (b ≡ true) × Left j l s xs
passed j l true s k at xs h = (refl, h)
passed j l false s k at xs h = absurd h

pub passed_on : (j : Tests) (l : ℕ × ℕ) (b : Bool) (o : Outcome) (k at : ℕ) (xs : List Item) → LeftOf j l (cond b o (refused k at)) xs → (b ≡ true) × LeftOf j l o xs
passed_on j l true o k at xs h = (refl, h)
passed_on j l false o k at xs h = absurd h

pub avoided : (j : Tests) (l : ℕ × ℕ) (b : Bool) (s : Stage) (k at : ℕ) (xs : List Item) → LeftOf j l (cond b (refused k at) (go s)) xs → (b ≡ false) × Left j l s xs
avoided j l true s k at xs h = absurd h
avoided j l false s k at xs h = (refl, h)

pub passes : (j : Tests) (l : ℕ × ℕ) (b : Bool) (o q : Outcome) (xs : List Item) → b ≡ true → LeftOf j l o xs → LeftOf j l (cond b o q) xs
passes j l true o q xs e h = h
passes j l false o q xs e h = cc

pub avoids : (j : Tests) (l : ℕ × ℕ) (b : Bool) (o q : Outcome) (xs : List Item) → b ≡ false → LeftOf j l q xs → LeftOf j l (cond b o q) xs
avoids j l true o q xs e h = cc
avoids j l false o q xs e h = h

-- ---- the cuts

pub cuts_forth : (j : Tests) (l : ℕ × ℕ) (h : Head) (m : ℕ) (xs : List Item) → says h ≡ l → CutsLeft j h m xs → Left j l (cuts_on j h m) xs
cuts_forth j l h zero xs e c =
    let none = empty c.more c.count in
    let same : xs ≡ c.rest = c.said ∙ ap (λ r. flat_map listed_items r ++ c.rest) none in
    let heads : with_cuts h c.more ≡ h = ap (λ r. record { long = h.long; bound = h.bound; cuts = h.cuts ++ r }) none ∙ ap (λ r. record { long = h.long; bound = h.bound; cuts = r }) (append_nil h.cuts) in
    (e, subst (λ q. Trees j q (j.root ∷ []) xs) heads (subst (λ r. Trees j (with_cuts h c.more) (j.root ∷ []) r) (sym same) c.trees))
cuts_forth j l h (suc m) xs e c = (e, c)

pub cuts_back : (j : Tests) (l : ℕ × ℕ) (h : Head) (m : ℕ) (xs : List Item) → Left j l (cuts_on j h m) xs → (says h ≡ l) × CutsLeft j h m xs
cuts_back j l h zero xs s = (s.0, record { more = []; rest = xs; said = refl; count = refl; pairs = tt; cuts = tt; trees = subst (λ q. Trees j q (j.root ∷ []) xs) (ap (λ r. record { long = h.long; bound = h.bound; cuts = r }) (sym (append_nil h.cuts))) s.1 })
cuts_back j l h (suc m) xs s = s

heads_more : (h : Head) (c : Listed) (cs : List Listed) → with_cuts (with_cut h c) cs ≡ with_cuts h (c ∷ cs)
heads_more h c cs = ap (λ r. record { long = h.long; bound = h.bound; cuts = r }) (append_assoc h.cuts (c ∷ []) cs)

cut_end_forth : (j : Tests) (l : ℕ × ℕ) (at : ℕ) (h : Head) (m : ℕ) (c : Listed) (xs : List Item) → says h ≡ l → j.cut c ≡ true → CutsLeft j (with_cut h c) m xs → LeftOf j l (cut_end j at h m c) xs
cut_end_forth j l at h m c xs e b k = passes j l (j.cut c) (go (cuts_on j (with_cut h c) m)) (refused 5 at) xs b (cuts_forth j l (with_cut h c) m xs e k)

cut_end_back : (j : Tests) (l : ℕ × ℕ) (at : ℕ) (h : Head) (m : ℕ) (c : Listed) (xs : List Item) → LeftOf j l (cut_end j at h m c) xs → (says h ≡ l) × (j.cut c ≡ true) × CutsLeft j (with_cut h c) m xs
cut_end_back j l at h m c xs k =
    let p = passed j l (j.cut c) (cuts_on j (with_cut h c) m) 5 at xs k in
    let q = cuts_back j l (with_cut h c) m xs p.1 in
    (q.0, p.0, q.1)

-- a cut more in front
cuts_more : (j : Tests) (h : Head) (m : ℕ) (c : Listed) (xs ys : List Item) → j.cut c ≡ true → rises_in_cut c ≡ true → ys ≡ listed_items c ++ xs → CutsLeft j (with_cut h c) m xs → CutsLeft j h (suc m) ys
cuts_more j h m c xs ys b r e k = record {
  more = c ∷ k.more;
  rest = k.rest;
  said = e ∙ (ap (λ z. listed_items c ++ z) k.said ∙ sym (append_assoc (listed_items c) (flat_map listed_items k.more) k.rest));
  count = let q = k.count in omega arith;
  pairs = (r, k.pairs);
  cuts = (b, k.cuts);
  trees = subst (λ q. Trees j q (j.root ∷ []) k.rest) (heads_more h c k.more) k.trees;
}

teeth_forth : (j : Tests) (l : ℕ × ℕ) (at : ℕ) (h : Head) (m t : ℕ) (s : List ℕ) (ts : List (List ℕ)) (xs : List Item) → says h ≡ l → TeethLeft j h m t s ts xs → LeftOf j l (teeth_on j at h m t s ts) xs
teeth_forth j l at h m zero s ts xs e k =
    let none = empty k.more k.count in
    let same : xs ≡ k.rest = k.said ∙ ap (λ r. map tooth_line r ++ k.rest) none in
    let all : ts ++ k.more ≡ ts = ap (λ r. ts ++ r) none ∙ append_nil ts in
    cut_end_forth j l at h m (comb_cut s ts) xs e
    (subst (λ r. j.cut (comb_cut s r) ≡ true) all k.cut)
    (subst (λ r. CutsLeft j (with_cut h (comb_cut s ts)) m r) (sym same) (subst (λ r. CutsLeft j (with_cut h (comb_cut s r)) m k.rest) all k.cuts))
teeth_forth j l at h m (suc t) s ts xs e k = (e, k)

teeth_back : (j : Tests) (l : ℕ × ℕ) (at : ℕ) (h : Head) (m t : ℕ) (s : List ℕ) (ts : List (List ℕ)) (xs : List Item) → LeftOf j l (teeth_on j at h m t s ts) xs → (says h ≡ l) × TeethLeft j h m t s ts xs
teeth_back j l at h m zero s ts xs k =
    let q = cut_end_back j l at h m (comb_cut s ts) xs k in (
      q.0,
      record {
        more = [];
        rest = xs;
        said = refl;
        count = refl;
        cut = subst (λ r. j.cut (comb_cut s r) ≡ true) (sym (append_nil ts)) q.1;
        cuts = subst (λ r. CutsLeft j (with_cut h (comb_cut s r)) m xs) (sym (append_nil ts)) q.2;
      },
    )
teeth_back j l at h m (suc t) s ts xs k = k

-- ---- pairs that rise

follow_last : (ps : List (ℕ × ℕ)) (p q : ℕ × ℕ) → may_follow (ps ++ p ∷ []) q ≡ is_before p q
follow_last [] p q = refl
follow_last (r ∷ []) p q = refl
follow_last (r ∷ s ∷ ps) p q = follow_last (s ∷ ps) p q

follow_from : (ps : List (ℕ × ℕ)) (p : ℕ × ℕ) (qs : List (ℕ × ℕ)) → pairs_follow (ps ++ p ∷ []) qs ≡ pairs_rise_from p qs
follow_from ps p [] = refl
follow_from ps p (q ∷ qs) =
    ap (λ b. b && pairs_follow ((ps ++ p ∷ []) ++ q ∷ []) qs) (follow_last ps p q)
    ∙ ap (λ r. is_before p q && r) (follow_from (ps ++ p ∷ []) q qs)

-- pairs that rise behind none
pub follow_first : (qs : List (ℕ × ℕ)) → pairs_follow [] qs ≡ pairs_rise qs
follow_first [] = refl
follow_first (q ∷ qs) = follow_from [] q qs

pairs_forth : (j : Tests) (l : ℕ × ℕ) (at : ℕ) (h : Head) (m t : ℕ) (s : List ℕ) (ps : List (ℕ × ℕ)) (xs : List Item) → says h ≡ l → PairsLeft j h m t s ps xs → LeftOf j l (pairs_on j at h m t s ps) xs
pairs_forth j l at h m zero s ps xs e k =
    let none = empty k.more k.count in
    let same : xs ≡ k.rest = k.said ∙ ap (λ r. map pair_item r ++ k.rest) none in
    let all : ps ++ k.more ≡ ps = ap (λ r. ps ++ r) none ∙ append_nil ps in
    cut_end_forth j l at h m (odd_cut s ps) xs e
    (subst (λ r. j.cut (odd_cut s r) ≡ true) all k.cut)
    (subst (λ r. CutsLeft j (with_cut h (odd_cut s ps)) m r) (sym same) (subst (λ r. CutsLeft j (with_cut h (odd_cut s r)) m k.rest) all k.cuts))
pairs_forth j l at h m (suc t) s ps xs e k = (e, k)

pairs_back : (j : Tests) (l : ℕ × ℕ) (at : ℕ) (h : Head) (m t : ℕ) (s : List ℕ) (ps : List (ℕ × ℕ)) (xs : List Item) → LeftOf j l (pairs_on j at h m t s ps) xs → (says h ≡ l) × PairsLeft j h m t s ps xs
pairs_back j l at h m zero s ps xs k =
    let q = cut_end_back j l at h m (odd_cut s ps) xs k in (
      q.0,
      record {
        more = [];
        rest = xs;
        said = refl;
        count = refl;
        follow = refl;
        cut = subst (λ r. j.cut (odd_cut s r) ≡ true) (sym (append_nil ps)) q.1;
        cuts = subst (λ r. CutsLeft j (with_cut h (odd_cut s r)) m xs) (sym (append_nil ps)) q.2;
      },
    )
pairs_back j l at h m (suc t) s ps xs k = k

-- ---- a line of the list

pub on_cut_forth : (j : Tests) (l : ℕ × ℕ) (h : Head) (m at : ℕ) (x : Item) (xs : List Item) → says h ≡ l → (more : List Listed) (rest : List Item) → x ∷ xs ≡ flat_map listed_items more ++ rest → length more ≡ suc m
    → AllByRecursion (λ c. rises_in_cut c ≡ true) more → AllByRecursion (λ c. j.cut c ≡ true) more → Trees j (with_cuts h more) (j.root ∷ []) rest → LeftOf j l (on_cut j h m at x) xs
on_cut_forth j l h m at x xs e [] rest said n rise cuts trees = absurd (omega arith)
on_cut_forth j l h m at x xs e (subtour_cut s ∷ cs) rest said n rise cuts trees =
    let head : subtour_line s ≡ x = cc in
    subst (λ y. LeftOf j l (on_cut j h m at y) xs) head (cut_end_forth j l at h m (subtour_cut s) xs e cuts.0 (record {
      more = cs;
      rest = rest;
      said = cc;
      count = omega arith;
      pairs = rise.1;
      cuts = cuts.1;
      trees = subst (λ q. Trees j q (j.root ∷ []) rest) (sym (heads_more h (subtour_cut s) cs)) trees;
    }))
on_cut_forth j l h m at x xs e (comb_cut s ts ∷ cs) rest said n rise cuts trees =
    let head : comb_line (length ts) ≡ x = cc in
    subst (λ y. LeftOf j l (on_cut j h m at y) xs) head (
      e,
      record {
        set = s;
        rest = (map tooth_line ts ++ flat_map listed_items cs) ++ rest;
        said = cc;
        teeth = record {
          more = ts;
          rest = flat_map listed_items cs ++ rest;
          said = append_assoc (map tooth_line ts) (flat_map listed_items cs) rest;
          count = refl;
          cut = cuts.0;
          cuts = record {
            more = cs;
            rest = rest;
            said = refl;
            count = omega arith;
            pairs = rise.1;
            cuts = cuts.1;
            trees = subst (λ q. Trees j q (j.root ∷ []) rest) (sym (heads_more h (comb_cut s ts) cs)) trees;
          };
        };
      },
    )
on_cut_forth j l h m at x xs e (odd_cut s ps ∷ cs) rest said n rise cuts trees =
    let head : odd_line (length ps) ≡ x = cc in
    subst (λ y. LeftOf j l (on_cut j h m at y) xs) head (
      e,
      record {
        set = s;
        rest = (map pair_item ps ++ flat_map listed_items cs) ++ rest;
        said = cc;
        pairs = record {
          more = ps;
          rest = flat_map listed_items cs ++ rest;
          said = append_assoc (map pair_item ps) (flat_map listed_items cs) rest;
          count = refl;
          follow = follow_first ps ∙ rise.0;
          cut = cuts.0;
          cuts = record {
            more = cs;
            rest = rest;
            said = refl;
            count = omega arith;
            pairs = rise.1;
            cuts = cuts.1;
            trees = subst (λ q. Trees j q (j.root ∷ []) rest) (sym (heads_more h (odd_cut s ps) cs)) trees;
          };
        };
      },
    )

pub on_cut_back : (j : Tests) (l : ℕ × ℕ) (h : Head) (m at : ℕ) (x : Item) (xs : List Item) → LeftOf j l (on_cut j h m at x) xs → (says h ≡ l) × CutsLeft j h (suc m) (x ∷ xs)
on_cut_back j l h m at (subtour_line q) xs k =
    let b = cut_end_back j l at h m (subtour_cut q) xs k in
    (b.0, cuts_more j h m (subtour_cut q) xs (subtour_line q ∷ xs) b.1 refl refl b.2)
on_cut_back j l h m at (comb_line z) xs (e, w) =
    let t = w.teeth in (
      e,
      cuts_more j h m (comb_cut w.set t.more) t.rest (comb_line z ∷ xs) t.cut refl
          (ap (λ r. comb_line z ∷ r) (w.said ∙ ap (λ r. handle_line w.set ∷ r) t.said) ∙ ap (λ r. comb_line r ∷ handle_line w.set ∷ map tooth_line t.more ++ t.rest) (sym t.count)) t.cuts,
    )
on_cut_back j l h m at (odd_line z) xs (e, w) =
    let t = w.pairs in (
      e,
      cuts_more j h m (odd_cut w.set t.more) t.rest (odd_line z ∷ xs) t.cut (sym (follow_first t.more) ∙ t.follow)
          (ap (λ r. odd_line z ∷ r) (w.said ∙ ap (λ r. handle_line w.set ∷ r) t.said) ∙ ap (λ r. odd_line r ∷ handle_line w.set ∷ map pair_item t.more ++ t.rest) (sym t.count)) t.cuts,
    )
on_cut_back j l h m at (title_line z) xs k = absurd k
on_cut_back j l h m at (size_line z) xs k = absurd k
on_cut_back j l h m at (length_line z) xs k = absurd k
on_cut_back j l h m at (bound_line z) xs k = absurd k
on_cut_back j l h m at (tour_line cs) xs k = absurd k
on_cut_back j l h m at (cuts_line z) xs k = absurd k
on_cut_back j l h m at (handle_line q) xs k = absurd k
on_cut_back j l h m at (tooth_line q) xs k = absurd k
on_cut_back j l h m at (pair_line u v) xs k = absurd k
on_cut_back j l h m at (edge_line u v) xs k = absurd k
on_cut_back j l h m at (clique_line q) xs k = absurd k
on_cut_back j l h m at (leaf_line a b c) xs k = absurd k
on_cut_back j l h m at (city_line v w) xs k = absurd k
on_cut_back j l h m at (cut_line z y) xs k = absurd k
on_cut_back j l h m at (condition_line d z) xs k = absurd k
on_cut_back j l h m at open_line xs k = absurd k

pub on_handle_forth : (j : Tests) (l : ℕ × ℕ) (h : Head) (m from t at : ℕ) (x : Item) (xs : List Item) → says h ≡ l → HandleLeft j h m t (x ∷ xs) → LeftOf j l (on_handle j h m from t at x) xs
on_handle_forth j l h m from t at x xs e k =
    let said = k.said in
    let head : handle_line k.set ≡ x = cc in
    let tail : k.rest ≡ xs = cc in
    subst (λ y. LeftOf j l (on_handle j h m from t at y) xs) head (teeth_forth j l from h m t k.set [] xs e (subst (λ r. TeethLeft j h m t k.set [] r) tail k.teeth))

pub on_handle_back : (j : Tests) (l : ℕ × ℕ) (h : Head) (m from t at : ℕ) (x : Item) (xs : List Item) → LeftOf j l (on_handle j h m from t at x) xs → (says h ≡ l) × HandleLeft j h m t (x ∷ xs)
on_handle_back j l h m from t at (handle_line q) xs k =
    let b = teeth_back j l from h m t q [] xs k in
    (b.0, record { set = q; rest = xs; said = refl; teeth = b.1 })
on_handle_back j l h m from t at (title_line z) xs k = absurd k
on_handle_back j l h m from t at (size_line z) xs k = absurd k
on_handle_back j l h m from t at (length_line z) xs k = absurd k
on_handle_back j l h m from t at (bound_line z) xs k = absurd k
on_handle_back j l h m from t at (tour_line cs) xs k = absurd k
on_handle_back j l h m from t at (cuts_line z) xs k = absurd k
on_handle_back j l h m from t at (subtour_line q) xs k = absurd k
on_handle_back j l h m from t at (comb_line z) xs k = absurd k
on_handle_back j l h m from t at (tooth_line q) xs k = absurd k
on_handle_back j l h m from t at (odd_line z) xs k = absurd k
on_handle_back j l h m from t at (pair_line u v) xs k = absurd k
on_handle_back j l h m from t at (edge_line u v) xs k = absurd k
on_handle_back j l h m from t at (clique_line q) xs k = absurd k
on_handle_back j l h m from t at (leaf_line a b c) xs k = absurd k
on_handle_back j l h m from t at (city_line v w) xs k = absurd k
on_handle_back j l h m from t at (cut_line z y) xs k = absurd k
on_handle_back j l h m from t at (condition_line d z) xs k = absurd k
on_handle_back j l h m from t at open_line xs k = absurd k

pub on_tooth_forth : (j : Tests) (l : ℕ × ℕ) (h : Head) (m from t : ℕ) (s : List ℕ) (ts : List (List ℕ)) (at : ℕ) (x : Item) (xs : List Item) → says h ≡ l → (more : List (List ℕ)) (rest : List Item) → x ∷ xs ≡ map tooth_line more ++ rest → length more ≡ suc t
    → j.cut (comb_cut s (ts ++ more)) ≡ true → CutsLeft j (with_cut h (comb_cut s (ts ++ more))) m rest → LeftOf j l (on_tooth j h m from t s ts at x) xs
on_tooth_forth j l h m from t s ts at x xs e [] rest said n cut cuts = absurd (omega arith)
on_tooth_forth j l h m from t s ts at x xs e (q ∷ qs) rest said n cut cuts =
    let head : tooth_line q ≡ x = cc in
    let all : ts ++ q ∷ qs ≡ (ts ++ q ∷ []) ++ qs = sym (append_assoc ts (q ∷ []) qs) in
    subst (λ y. LeftOf j l (on_tooth j h m from t s ts at y) xs) head (teeth_forth j l from h m t s (ts ++ q ∷ []) xs e (record {
      more = qs;
      rest = rest;
      said = cc;
      count = omega arith;
      cut = subst (λ r. j.cut (comb_cut s r) ≡ true) all cut;
      cuts = subst (λ r. CutsLeft j (with_cut h (comb_cut s r)) m rest) all cuts;
    }))

pub on_tooth_back : (j : Tests) (l : ℕ × ℕ) (h : Head) (m from t : ℕ) (s : List ℕ) (ts : List (List ℕ)) (at : ℕ) (x : Item) (xs : List Item) → LeftOf j l (on_tooth j h m from t s ts at x) xs → (says h ≡ l) × TeethLeft j h m (suc t) s ts (x ∷ xs)
on_tooth_back j l h m from t s ts at (tooth_line q) xs k =
    let b = teeth_back j l from h m t s (ts ++ q ∷ []) xs k in
    let w = b.1 in
    let all : (ts ++ q ∷ []) ++ w.more ≡ ts ++ q ∷ w.more = append_assoc ts (q ∷ []) w.more in (
      b.0,
      record {
        more = q ∷ w.more;
        rest = w.rest;
        said = ap (λ r. tooth_line q ∷ r) w.said;
        count = let n = w.count in omega arith;
        cut = subst (λ r. j.cut (comb_cut s r) ≡ true) all w.cut;
        cuts = subst (λ r. CutsLeft j (with_cut h (comb_cut s r)) m w.rest) all w.cuts;
      },
    )
on_tooth_back j l h m from t s ts at (title_line z) xs k = absurd k
on_tooth_back j l h m from t s ts at (size_line z) xs k = absurd k
on_tooth_back j l h m from t s ts at (length_line z) xs k = absurd k
on_tooth_back j l h m from t s ts at (bound_line z) xs k = absurd k
on_tooth_back j l h m from t s ts at (tour_line cs) xs k = absurd k
on_tooth_back j l h m from t s ts at (cuts_line z) xs k = absurd k
on_tooth_back j l h m from t s ts at (subtour_line q) xs k = absurd k
on_tooth_back j l h m from t s ts at (comb_line z) xs k = absurd k
on_tooth_back j l h m from t s ts at (handle_line q) xs k = absurd k
on_tooth_back j l h m from t s ts at (odd_line z) xs k = absurd k
on_tooth_back j l h m from t s ts at (pair_line u v) xs k = absurd k
on_tooth_back j l h m from t s ts at (edge_line u v) xs k = absurd k
on_tooth_back j l h m from t s ts at (clique_line q) xs k = absurd k
on_tooth_back j l h m from t s ts at (leaf_line a b c) xs k = absurd k
on_tooth_back j l h m from t s ts at (city_line v w) xs k = absurd k
on_tooth_back j l h m from t s ts at (cut_line z y) xs k = absurd k
on_tooth_back j l h m from t s ts at (condition_line d z) xs k = absurd k
on_tooth_back j l h m from t s ts at open_line xs k = absurd k

pub on_odd_handle_forth : (j : Tests) (l : ℕ × ℕ) (h : Head) (m from t at : ℕ) (x : Item) (xs : List Item) → says h ≡ l → OddHandleLeft j h m t (x ∷ xs) → LeftOf j l (on_odd_handle j h m from t at x) xs
on_odd_handle_forth j l h m from t at x xs e k =
    let said = k.said in
    let head : handle_line k.set ≡ x = cc in
    let tail : k.rest ≡ xs = cc in
    subst (λ y. LeftOf j l (on_odd_handle j h m from t at y) xs) head (pairs_forth j l from h m t k.set [] xs e (subst (λ r. PairsLeft j h m t k.set [] r) tail k.pairs))

pub on_odd_handle_back : (j : Tests) (l : ℕ × ℕ) (h : Head) (m from t at : ℕ) (x : Item) (xs : List Item) → LeftOf j l (on_odd_handle j h m from t at x) xs → (says h ≡ l) × OddHandleLeft j h m t (x ∷ xs)
on_odd_handle_back j l h m from t at (handle_line q) xs k =
    let b = pairs_back j l from h m t q [] xs k in
    (b.0, record { set = q; rest = xs; said = refl; pairs = b.1 })
on_odd_handle_back j l h m from t at (title_line z) xs k = absurd k
on_odd_handle_back j l h m from t at (size_line z) xs k = absurd k
on_odd_handle_back j l h m from t at (length_line z) xs k = absurd k
on_odd_handle_back j l h m from t at (bound_line z) xs k = absurd k
on_odd_handle_back j l h m from t at (tour_line cs) xs k = absurd k
on_odd_handle_back j l h m from t at (cuts_line z) xs k = absurd k
on_odd_handle_back j l h m from t at (subtour_line q) xs k = absurd k
on_odd_handle_back j l h m from t at (comb_line z) xs k = absurd k
on_odd_handle_back j l h m from t at (tooth_line q) xs k = absurd k
on_odd_handle_back j l h m from t at (odd_line z) xs k = absurd k
on_odd_handle_back j l h m from t at (pair_line u v) xs k = absurd k
on_odd_handle_back j l h m from t at (edge_line u v) xs k = absurd k
on_odd_handle_back j l h m from t at (clique_line q) xs k = absurd k
on_odd_handle_back j l h m from t at (leaf_line a b c) xs k = absurd k
on_odd_handle_back j l h m from t at (city_line v w) xs k = absurd k
on_odd_handle_back j l h m from t at (cut_line z y) xs k = absurd k
on_odd_handle_back j l h m from t at (condition_line d z) xs k = absurd k
on_odd_handle_back j l h m from t at open_line xs k = absurd k

pub on_pair_forth : (j : Tests) (l : ℕ × ℕ) (h : Head) (m from t : ℕ) (s : List ℕ) (ps : List (ℕ × ℕ)) (at : ℕ) (x : Item) (xs : List Item) → says h ≡ l → (more : List (ℕ × ℕ)) (rest : List Item) → x ∷ xs ≡ map pair_item more ++ rest → length more ≡ suc t
    → pairs_follow ps more ≡ true → j.cut (odd_cut s (ps ++ more)) ≡ true → CutsLeft j (with_cut h (odd_cut s (ps ++ more))) m rest → LeftOf j l (on_pair j h m from t s ps at x) xs
on_pair_forth j l h m from t s ps at x xs e [] rest said n follow cut cuts = absurd (omega arith)
on_pair_forth j l h m from t s ps at x xs e (q ∷ qs) rest said n follow cut cuts =
    let head : pair_line q.0 q.1 ≡ x = cc in
    let all : ps ++ q ∷ qs ≡ (ps ++ q ∷ []) ++ qs = sym (append_assoc ps (q ∷ []) qs) in
    let rise = and_parts (may_follow ps q) (pairs_follow (ps ++ q ∷ []) qs) follow in
    subst (λ y. LeftOf j l (on_pair j h m from t s ps at y) xs) head
    (passes j l (may_follow ps q) (pairs_on j from h m t s (ps ++ q ∷ [])) (refused 1 at) xs rise.0 (pairs_forth j l from h m t s (ps ++ q ∷ []) xs e (record {
      more = qs;
      rest = rest;
      said = cc;
      count = omega arith;
      follow = rise.1;
      cut = subst (λ r. j.cut (odd_cut s r) ≡ true) all cut;
      cuts = subst (λ r. CutsLeft j (with_cut h (odd_cut s r)) m rest) all cuts;
    })))

pub on_pair_back : (j : Tests) (l : ℕ × ℕ) (h : Head) (m from t : ℕ) (s : List ℕ) (ps : List (ℕ × ℕ)) (at : ℕ) (x : Item) (xs : List Item) → LeftOf j l (on_pair j h m from t s ps at x) xs → (says h ≡ l) × PairsLeft j h m (suc t) s ps (x ∷ xs)
on_pair_back j l h m from t s ps at (pair_line u v) xs k =
    let p = passed_on j l (may_follow ps (u, v)) (pairs_on j from h m t s (ps ++ (u, v) ∷ [])) 1 at xs k in
    let b = pairs_back j l from h m t s (ps ++ (u, v) ∷ []) xs p.1 in
    let w = b.1 in
    let all : (ps ++ (u, v) ∷ []) ++ w.more ≡ ps ++ (u, v) ∷ w.more = append_assoc ps ((u, v) ∷ []) w.more in (
      b.0,
      record {
        more = (u, v) ∷ w.more;
        rest = w.rest;
        said = ap (λ r. pair_line u v ∷ r) w.said;
        count = let n = w.count in omega arith;
        follow = and_from (may_follow ps (u, v)) (pairs_follow (ps ++ (u, v) ∷ []) w.more) p.0 w.follow;
        cut = subst (λ r. j.cut (odd_cut s r) ≡ true) all w.cut;
        cuts = subst (λ r. CutsLeft j (with_cut h (odd_cut s r)) m w.rest) all w.cuts;
      },
    )
on_pair_back j l h m from t s ps at (title_line z) xs k = absurd k
on_pair_back j l h m from t s ps at (size_line z) xs k = absurd k
on_pair_back j l h m from t s ps at (length_line z) xs k = absurd k
on_pair_back j l h m from t s ps at (bound_line z) xs k = absurd k
on_pair_back j l h m from t s ps at (tour_line cs) xs k = absurd k
on_pair_back j l h m from t s ps at (cuts_line z) xs k = absurd k
on_pair_back j l h m from t s ps at (subtour_line q) xs k = absurd k
on_pair_back j l h m from t s ps at (comb_line z) xs k = absurd k
on_pair_back j l h m from t s ps at (handle_line q) xs k = absurd k
on_pair_back j l h m from t s ps at (tooth_line q) xs k = absurd k
on_pair_back j l h m from t s ps at (odd_line z) xs k = absurd k
on_pair_back j l h m from t s ps at (edge_line u v) xs k = absurd k
on_pair_back j l h m from t s ps at (clique_line q) xs k = absurd k
on_pair_back j l h m from t s ps at (leaf_line a b c) xs k = absurd k
on_pair_back j l h m from t s ps at (city_line v w) xs k = absurd k
on_pair_back j l h m from t s ps at (cut_line z y) xs k = absurd k
on_pair_back j l h m from t s ps at (condition_line d z) xs k = absurd k
on_pair_back j l h m from t s ps at open_line xs k = absurd k
