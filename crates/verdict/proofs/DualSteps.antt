-- a line of a leaf's duals, forth and back
use Rattle.std.proofs.Common.{◌≡◌, ℕ, zero, suc, ◌+◌, ◌^◌, true, ◌&&◌, List, [], ◌∷◌, ◌++◌, length, map, ℤ, refl, sym, ap, ◌∙◌, subst, arith, append_assoc}
use Rattle.std.specs.Prelude.{nat_le, nat_lt, nat_abs}
use Rattle.std.proofs.lemmas.Bool.{and_parts, and_from, ltb-true, le-leb}
use Rattle.tspdef.specs.Paths.{Condition}
use Rattle.certdef.specs.Items.{Item, title_line, size_line, length_line, bound_line, tour_line, cuts_line, subtour_line, comb_line, handle_line, tooth_line, odd_line, pair_line, edge_line, clique_line, leaf_line, city_line, cut_line, condition_line, open_line, rises, fits, in_bounds, is_dual, longest, line}
use Rattle.certdef.specs.Proofs.{Duals, dual_items, city_item, cut_item, condition_item}
use Rattle.certdef.specs.Accepted.{firsts}
use Rattle.certdef.specs.Tests.{Tests}
use Rattle.certdef.specs.Verdicts.{Head, OpenDuals, wants_trees, wants_duals, go, refused, after, duals_on, with_city, with_cut_dual, with_condition, on_dual}
use Rattle.verdict.proofs.Left.{says, all_named, Trees, joined, GoesOn, DualsLeft, Left, LeftOf}
use Rattle.verdict.proofs.CutSteps.{append_nil, empty, after_last, passed, passed_on, passes}

-- a city line's city is one of the n
city_within : (n v : ℕ) (w : ℤ) → fits n (city_line v w) ≡ true → nat_le v n ≡ true
city_within n v w f =
    let a = and_parts (in_bounds n (city_line v w)) (nat_le (length (line (city_line v w))) longest) f in
    let b = and_parts (nat_lt 0 v && nat_le v n) (is_dual (nat_abs w)) a.0 in
    (and_parts (nat_lt 0 v) (nat_le v n) b.0).1

-- a depth line's depth is below 2 ^ 32
depth_within : (n d z : ℕ) → fits n (condition_line d z) ≡ true → nat_le d (2 ^ 32) ≡ true
depth_within n d z f =
    let a = and_parts (in_bounds n (condition_line d z)) (nat_le (length (line (condition_line d z))) longest) f in
    let b = and_parts (nat_lt 0 d && nat_lt d (2 ^ 32)) (is_dual z) a.0 in
    let c = ltb-true d (2 ^ 32) (and_parts (nat_lt 0 d) (nat_lt d (2 ^ 32)) b.0).1 in
    le-leb d (2 ^ 32) (omega arith)

in_front : (zs : List Item) (x : Item) (bs rest xs : List Item) → zs ≡ [] → xs ≡ (zs ++ bs) ++ rest → x ∷ xs ≡ (zs ++ x ∷ bs) ++ rest
in_front zs x bs rest xs e f = ap (λ r. x ∷ r) (f ∙ ap (λ r. (r ++ bs) ++ rest) e) ∙ ap (λ r. (r ++ x ∷ bs) ++ rest) (sym e)

nil_front : (zs : List Item) (x : Item) (bs : List Item) → zs ≡ [] → x ∷ zs ++ bs ≡ zs ++ x ∷ bs
nil_front zs x bs e = ap (λ r. x ∷ r ++ bs) e ∙ ap (λ r. r ++ x ∷ bs) (sym e)

pub joined_nil : (d e : Duals) → length e.cities ≡ 0 → length e.cuts ≡ 0 → length e.conds ≡ 0 → joined d e ≡ d
joined_nil d e a b c =
    ap (λ r. record { cities = r; cuts = d.cuts ++ e.cuts; conds = d.conds ++ e.conds }) (ap (λ r. d.cities ++ r) (empty e.cities a) ∙ append_nil d.cities)
    ∙ ap (λ r. record { cities = d.cities; cuts = r; conds = d.conds ++ e.conds }) (ap (λ r. d.cuts ++ r) (empty e.cuts b) ∙ append_nil d.cuts)
    ∙ ap (λ r. record { cities = d.cities; cuts = d.cuts; conds = r }) (ap (λ r. d.conds ++ r) (empty e.conds c) ∙ append_nil d.conds)

none_said : (e : Duals) (rest : List Item) → length e.cities ≡ 0 → length e.cuts ≡ 0 → length e.conds ≡ 0 → dual_items e ++ rest ≡ rest
none_said e rest a b c =
    ap (λ r. (map city_item r ++ (map cut_item e.cuts ++ map condition_item e.conds)) ++ rest) (empty e.cities a)
    ∙ ap (λ r. (map cut_item r ++ map condition_item e.conds) ++ rest) (empty e.cuts b)
    ∙ ap (λ r. map condition_item r ++ rest) (empty e.conds c)

nothing : Duals
nothing = record { cities = []; cuts = []; conds = [] }

pub duals_forth : (j : Tests) (l : ℕ × ℕ) (h : Head) (ps : List (List Condition)) (o : OpenDuals) (a b c : ℕ) (xs : List Item) → says h ≡ l → DualsLeft j h ps o a b c xs → LeftOf j l (duals_on j h ps o a b c) xs
duals_forth j l h ps o zero zero zero xs e k =
    passes j l (j.closes h.bound h.cuts o.path o.duals) (go (wants_trees h ps)) (refused 7 o.at) xs
    (subst (λ r. j.closes h.bound h.cuts o.path r ≡ true) (joined_nil o.duals k.more k.cities k.cuts k.conds) k.closed)
    (e, subst (λ r. Trees j h ps r) (sym (k.said ∙ none_said k.more k.rest k.cities k.cuts k.conds)) k.trees)
duals_forth j l h ps o (suc a) b c xs e k = (e, k)
duals_forth j l h ps o zero (suc b) c xs e k = (e, k)
duals_forth j l h ps o zero zero (suc c) xs e k = (e, k)

pub duals_back : (j : Tests) (l : ℕ × ℕ) (h : Head) (ps : List (List Condition)) (o : OpenDuals) (a b c : ℕ) (xs : List Item) → LeftOf j l (duals_on j h ps o a b c) xs → (says h ≡ l) × DualsLeft j h ps o a b c xs
duals_back j l h ps o zero zero zero xs k =
    let p = passed j l (j.closes h.bound h.cuts o.path o.duals) (wants_trees h ps) 7 o.at xs k in (
      p.1.0,
      record {
        more = record { cities = []; cuts = []; conds = [] };
        rest = xs;
        said = refl;
        cities = refl;
        cuts = refl;
        conds = refl;
        order = record { cities = refl; cuts = refl; conds = refl; named = refl };
        closed = subst (λ r. j.closes h.bound h.cuts o.path r ≡ true) (sym (joined_nil o.duals (record { cities = []; cuts = []; conds = [] }) refl refl refl)) p.0;
        trees = p.1.1;
      },
    )
duals_back j l h ps o (suc a) b c xs k = k
duals_back j l h ps o zero (suc b) c xs k = k
duals_back j l h ps o zero zero (suc c) xs k = k

-- numbers rise through the next one
pub rises_next : {X : Type 0} (ps : List (ℕ × X)) (p : ℕ × X) (most : ℕ) (qs : List ℕ) → rises (after ps) most (p.0 ∷ qs) ≡ true → (nat_le (after ps) p.0 ≡ true) × (nat_le p.0 most ≡ true) × (rises (after (ps ++ p ∷ [])) most qs ≡ true)
rises_next ps p most qs e =
    let a = and_parts (nat_le (after ps) p.0 && nat_le p.0 most) (rises (p.0 + 1) most qs) e in
    let b = and_parts (nat_le (after ps) p.0) (nat_le p.0 most) a.0 in
    (b.0, b.1, subst (λ r. rises r most qs ≡ true) (sym (after_last ps p)) a.1)

rises_more : {X : Type 0} (ps : List (ℕ × X)) (p : ℕ × X) (most : ℕ) (qs : List ℕ) → nat_le (after ps) p.0 ≡ true → nat_le p.0 most ≡ true → rises (after (ps ++ p ∷ [])) most qs ≡ true → rises (after ps) most (p.0 ∷ qs) ≡ true
rises_more ps p most qs a b c =
    and_from (nat_le (after ps) p.0 && nat_le p.0 most) (rises (p.0 + 1) most qs) (and_from (nat_le (after ps) p.0) (nat_le p.0 most) a b)
    (subst (λ r. rises r most qs ≡ true) (after_last ps p) c)

on_city_forth : (j : Tests) (l : ℕ × ℕ) (h : Head) (ps : List (List Condition)) (o : OpenDuals) (a b c at : ℕ) (x : Item) (xs : List Item) → says h ≡ l → (cs : List (ℕ × ℤ)) (ys zs : List (ℕ × ℕ)) (rest : List Item)
    → x ∷ xs ≡ (map city_item cs ++ (map cut_item ys ++ map condition_item zs)) ++ rest → length cs ≡ suc a → length ys ≡ b → length zs ≡ c
    → GoesOn j (length h.cuts) o.path o.duals (record { cities = cs; cuts = ys; conds = zs })
    → j.closes h.bound h.cuts o.path (joined o.duals (record { cities = cs; cuts = ys; conds = zs })) ≡ true → Trees j h ps rest
    → LeftOf j l (on_dual j h ps o (suc a) b c at x) xs
on_city_forth j l h ps o a b c at x xs e [] ys zs rest said m n k order priced trees = absurd (omega arith)
on_city_forth j l h ps o a b c at x xs e (p ∷ cs) ys zs rest said m n k order priced trees =
    let head : city_line p.0 p.1 ≡ x = cc in
    let r = rises_next o.duals.cities p j.n (firsts cs) order.cities in
    subst (λ y. LeftOf j l (on_dual j h ps o (suc a) b c at y) xs) head
    (passes j l (nat_le (after o.duals.cities) p.0) (duals_on j h ps (with_city o p.0 p.1) a b c) (refused 1 at) xs r.0
    (duals_forth j l h ps (with_city o p.0 p.1) a b c xs e (record {
      more = record { cities = cs; cuts = ys; conds = zs };
      rest = rest;
      said = cc;
      cities = omega arith;
      cuts = n;
      conds = k;
      order = record { cities = r.2; cuts = order.cuts; conds = order.conds; named = order.named };
      closed = subst (λ q. j.closes h.bound h.cuts o.path (record { cities = q; cuts = o.duals.cuts ++ ys; conds = o.duals.conds ++ zs }) ≡ true) (sym (append_assoc o.duals.cities (p ∷ []) cs)) priced;
      trees = trees;
    })))

on_cut_dual_forth : (j : Tests) (l : ℕ × ℕ) (h : Head) (ps : List (List Condition)) (o : OpenDuals) (b c at : ℕ) (x : Item) (xs : List Item) → says h ≡ l → (cs : List (ℕ × ℤ)) (ys zs : List (ℕ × ℕ)) (rest : List Item)
    → x ∷ xs ≡ (map city_item cs ++ (map cut_item ys ++ map condition_item zs)) ++ rest → length cs ≡ 0 → length ys ≡ suc b → length zs ≡ c
    → GoesOn j (length h.cuts) o.path o.duals (record { cities = cs; cuts = ys; conds = zs })
    → j.closes h.bound h.cuts o.path (joined o.duals (record { cities = cs; cuts = ys; conds = zs })) ≡ true → Trees j h ps rest
    → LeftOf j l (on_dual j h ps o zero (suc b) c at x) xs
on_cut_dual_forth j l h ps o b c at x xs e (q ∷ cs) ys zs rest said m n k order priced trees = absurd (omega arith)
on_cut_dual_forth j l h ps o b c at x xs e [] [] zs rest said m n k order priced trees = absurd (omega arith)
on_cut_dual_forth j l h ps o b c at x xs e [] (p ∷ ys) zs rest said m n k order priced trees =
    let head : cut_line p.0 p.1 ≡ x = cc in
    let r = rises_next o.duals.cuts p (length h.cuts) (firsts ys) order.cuts in
    subst (λ y. LeftOf j l (on_dual j h ps o zero (suc b) c at y) xs) head
    (passes j l (nat_le (after o.duals.cuts) p.0 && nat_le p.0 (length h.cuts)) (duals_on j h ps (with_cut_dual o p.0 p.1) zero b c) (refused 1 at) xs (and_from (nat_le (after o.duals.cuts) p.0) (nat_le p.0 (length h.cuts)) r.0 r.1)
    (duals_forth j l h ps (with_cut_dual o p.0 p.1) zero b c xs e (record {
      more = record { cities = []; cuts = ys; conds = zs };
      rest = rest;
      said = cc;
      cities = refl;
      cuts = omega arith;
      conds = k;
      order = record { cities = order.cities; cuts = r.2; conds = order.conds; named = order.named };
      closed = subst (λ q. j.closes h.bound h.cuts o.path (record { cities = o.duals.cities ++ []; cuts = q; conds = o.duals.conds ++ zs }) ≡ true) (sym (append_assoc o.duals.cuts (p ∷ []) ys)) priced;
      trees = trees;
    })))

on_cond_dual_forth : (j : Tests) (l : ℕ × ℕ) (h : Head) (ps : List (List Condition)) (o : OpenDuals) (c at : ℕ) (x : Item) (xs : List Item) → says h ≡ l → (cs : List (ℕ × ℤ)) (ys zs : List (ℕ × ℕ)) (rest : List Item)
    → x ∷ xs ≡ (map city_item cs ++ (map cut_item ys ++ map condition_item zs)) ++ rest → length cs ≡ 0 → length ys ≡ 0 → length zs ≡ suc c
    → GoesOn j (length h.cuts) o.path o.duals (record { cities = cs; cuts = ys; conds = zs })
    → j.closes h.bound h.cuts o.path (joined o.duals (record { cities = cs; cuts = ys; conds = zs })) ≡ true → Trees j h ps rest
    → LeftOf j l (on_dual j h ps o zero zero (suc c) at x) xs
on_cond_dual_forth j l h ps o c at x xs e (q ∷ cs) ys zs rest said m n k order priced trees = absurd (omega arith)
on_cond_dual_forth j l h ps o c at x xs e [] (q ∷ ys) zs rest said m n k order priced trees = absurd (omega arith)
on_cond_dual_forth j l h ps o c at x xs e [] [] [] rest said m n k order priced trees = absurd (omega arith)
on_cond_dual_forth j l h ps o c at x xs e [] [] (p ∷ zs) rest said m n k order priced trees =
    let head : condition_line p.0 p.1 ≡ x = cc in
    let r = rises_next o.duals.conds p (2 ^ 32) (firsts zs) order.conds in
    let w = and_parts (j.names o.path p.0) (all_named j o.path (firsts zs)) order.named in
    subst (λ y. LeftOf j l (on_dual j h ps o zero zero (suc c) at y) xs) head
    (passes j l (nat_le (after o.duals.conds) p.0 && j.names o.path p.0) (duals_on j h ps (with_condition o p.0 p.1) zero zero c) (refused 1 at) xs
    (and_from (nat_le (after o.duals.conds) p.0) (j.names o.path p.0) r.0 w.0)
    (duals_forth j l h ps (with_condition o p.0 p.1) zero zero c xs e (record {
      more = record { cities = []; cuts = []; conds = zs };
      rest = rest;
      said = cc;
      cities = refl;
      cuts = refl;
      conds = omega arith;
      order = record { cities = order.cities; cuts = order.cuts; conds = r.2; named = w.1 };
      closed = subst (λ q. j.closes h.bound h.cuts o.path (record { cities = o.duals.cities ++ []; cuts = o.duals.cuts ++ []; conds = q }) ≡ true) (sym (append_assoc o.duals.conds (p ∷ []) zs)) priced;
      trees = trees;
    })))

pub on_dual_forth : (j : Tests) (l : ℕ × ℕ) (h : Head) (ps : List (List Condition)) (o : OpenDuals) (a b c at : ℕ) (x : Item) (xs : List Item) → Left j l (wants_duals h ps o a b c) (x ∷ xs) → LeftOf j l (on_dual j h ps o a b c at x) xs
on_dual_forth j l h ps o zero zero zero at x xs k = absurd k
on_dual_forth j l h ps o (suc a) b c at x xs (e, k) = on_city_forth j l h ps o a b c at x xs e k.more.cities k.more.cuts k.more.conds k.rest k.said k.cities k.cuts k.conds k.order k.closed k.trees
on_dual_forth j l h ps o zero (suc b) c at x xs (e, k) = on_cut_dual_forth j l h ps o b c at x xs e k.more.cities k.more.cuts k.more.conds k.rest k.said k.cities k.cuts k.conds k.order k.closed k.trees
on_dual_forth j l h ps o zero zero (suc c) at x xs (e, k) = on_cond_dual_forth j l h ps o c at x xs e k.more.cities k.more.cuts k.more.conds k.rest k.said k.cities k.cuts k.conds k.order k.closed k.trees

on_city_back : (j : Tests) (l : ℕ × ℕ) (h : Head) (ps : List (List Condition)) (o : OpenDuals) (a b c at : ℕ) (x : Item) (xs : List Item) → fits j.n x ≡ true → LeftOf j l (on_dual j h ps o (suc a) b c at x) xs → Left j l (wants_duals h ps o (suc a) b c) (x ∷ xs)
on_city_back j l h ps o a b c at (city_line v w) xs f k =
    let p = passed_on j l (nat_le (after o.duals.cities) v) (duals_on j h ps (with_city o v w) a b c) 1 at xs k in
    let q = duals_back j l h ps (with_city o v w) a b c xs p.1 in
    let d = q.1 in
    let g = d.order in (
      q.0,
      record {
        more = record { cities = (v, w) ∷ d.more.cities; cuts = d.more.cuts; conds = d.more.conds };
        rest = d.rest;
        said = ap (λ r. city_line v w ∷ r) d.said;
        cities = let n = d.cities in omega arith;
        cuts = d.cuts;
        conds = d.conds;
        order = record { cities = rises_more o.duals.cities (v, w) j.n (firsts d.more.cities) p.0 (city_within j.n v w f) g.cities; cuts = g.cuts; conds = g.conds; named = g.named };
        closed = subst (λ q. j.closes h.bound h.cuts o.path (record { cities = q; cuts = o.duals.cuts ++ d.more.cuts; conds = o.duals.conds ++ d.more.conds }) ≡ true) (append_assoc o.duals.cities ((v, w) ∷ []) d.more.cities) d.closed;
        trees = d.trees;
      },
    )
on_city_back j l h ps o a b c at (title_line z) xs f k = absurd k
on_city_back j l h ps o a b c at (size_line z) xs f k = absurd k
on_city_back j l h ps o a b c at (length_line z) xs f k = absurd k
on_city_back j l h ps o a b c at (bound_line z) xs f k = absurd k
on_city_back j l h ps o a b c at (tour_line cs) xs f k = absurd k
on_city_back j l h ps o a b c at (cuts_line z) xs f k = absurd k
on_city_back j l h ps o a b c at (subtour_line q) xs f k = absurd k
on_city_back j l h ps o a b c at (comb_line z) xs f k = absurd k
on_city_back j l h ps o a b c at (handle_line q) xs f k = absurd k
on_city_back j l h ps o a b c at (tooth_line q) xs f k = absurd k
on_city_back j l h ps o a b c at (odd_line z) xs f k = absurd k
on_city_back j l h ps o a b c at (pair_line u v) xs f k = absurd k
on_city_back j l h ps o a b c at (edge_line u v) xs f k = absurd k
on_city_back j l h ps o a b c at (clique_line q) xs f k = absurd k
on_city_back j l h ps o a b c at (leaf_line x y z) xs f k = absurd k
on_city_back j l h ps o a b c at (cut_line y z) xs f k = absurd k
on_city_back j l h ps o a b c at (condition_line y z) xs f k = absurd k
on_city_back j l h ps o a b c at open_line xs f k = absurd k

on_cut_dual_back : (j : Tests) (l : ℕ × ℕ) (h : Head) (ps : List (List Condition)) (o : OpenDuals) (b c at : ℕ) (x : Item) (xs : List Item) → LeftOf j l (on_dual j h ps o zero (suc b) c at x) xs → Left j l (wants_duals h ps o zero (suc b) c) (x ∷ xs)
on_cut_dual_back j l h ps o b c at (cut_line v w) xs k =
    let p = passed_on j l (nat_le (after o.duals.cuts) v && nat_le v (length h.cuts)) (duals_on j h ps (with_cut_dual o v w) zero b c) 1 at xs k in
    let t = and_parts (nat_le (after o.duals.cuts) v) (nat_le v (length h.cuts)) p.0 in
    let q = duals_back j l h ps (with_cut_dual o v w) zero b c xs p.1 in
    let d = q.1 in
    let g = d.order in (
      q.0,
      record {
        more = record { cities = d.more.cities; cuts = (v, w) ∷ d.more.cuts; conds = d.more.conds };
        rest = d.rest;
        said = in_front (map city_item d.more.cities) (cut_line v w) (map cut_item d.more.cuts ++ map condition_item d.more.conds) d.rest xs (ap (map city_item) (empty d.more.cities d.cities)) d.said;
        cities = d.cities;
        cuts = let n = d.cuts in omega arith;
        conds = d.conds;
        order = record { cities = g.cities; cuts = rises_more o.duals.cuts (v, w) (length h.cuts) (firsts d.more.cuts) t.0 t.1 g.cuts; conds = g.conds; named = g.named };
        closed = subst (λ q. j.closes h.bound h.cuts o.path (record { cities = o.duals.cities ++ d.more.cities; cuts = q; conds = o.duals.conds ++ d.more.conds }) ≡ true) (append_assoc o.duals.cuts ((v, w) ∷ []) d.more.cuts) d.closed;
        trees = d.trees;
      },
    )
on_cut_dual_back j l h ps o b c at (title_line z) xs k = absurd k
on_cut_dual_back j l h ps o b c at (size_line z) xs k = absurd k
on_cut_dual_back j l h ps o b c at (length_line z) xs k = absurd k
on_cut_dual_back j l h ps o b c at (bound_line z) xs k = absurd k
on_cut_dual_back j l h ps o b c at (tour_line cs) xs k = absurd k
on_cut_dual_back j l h ps o b c at (cuts_line z) xs k = absurd k
on_cut_dual_back j l h ps o b c at (subtour_line q) xs k = absurd k
on_cut_dual_back j l h ps o b c at (comb_line z) xs k = absurd k
on_cut_dual_back j l h ps o b c at (handle_line q) xs k = absurd k
on_cut_dual_back j l h ps o b c at (tooth_line q) xs k = absurd k
on_cut_dual_back j l h ps o b c at (odd_line z) xs k = absurd k
on_cut_dual_back j l h ps o b c at (pair_line u v) xs k = absurd k
on_cut_dual_back j l h ps o b c at (edge_line u v) xs k = absurd k
on_cut_dual_back j l h ps o b c at (clique_line q) xs k = absurd k
on_cut_dual_back j l h ps o b c at (leaf_line x y z) xs k = absurd k
on_cut_dual_back j l h ps o b c at (city_line v w) xs k = absurd k
on_cut_dual_back j l h ps o b c at (condition_line y z) xs k = absurd k
on_cut_dual_back j l h ps o b c at open_line xs k = absurd k

on_cond_dual_back : (j : Tests) (l : ℕ × ℕ) (h : Head) (ps : List (List Condition)) (o : OpenDuals) (c at : ℕ) (x : Item) (xs : List Item) → fits j.n x ≡ true → LeftOf j l (on_dual j h ps o zero zero (suc c) at x) xs → Left j l (wants_duals h ps o zero zero (suc c)) (x ∷ xs)
on_cond_dual_back j l h ps o c at (condition_line v w) xs f k =
    let p = passed_on j l (nat_le (after o.duals.conds) v && j.names o.path v) (duals_on j h ps (with_condition o v w) zero zero c) 1 at xs k in
    let t = and_parts (nat_le (after o.duals.conds) v) (j.names o.path v) p.0 in
    let q = duals_back j l h ps (with_condition o v w) zero zero c xs p.1 in
    let d = q.1 in
    let g = d.order in (
      q.0,
      record {
        more = record { cities = d.more.cities; cuts = d.more.cuts; conds = (v, w) ∷ d.more.conds };
        rest = d.rest;
        said = in_front (map city_item d.more.cities) (condition_line v w) (map cut_item d.more.cuts ++ map condition_item d.more.conds) d.rest xs (ap (map city_item) (empty d.more.cities d.cities)) d.said
            ∙ ap (λ r. (map city_item d.more.cities ++ r) ++ d.rest) (nil_front (map cut_item d.more.cuts) (condition_line v w) (map condition_item d.more.conds) (ap (map cut_item) (empty d.more.cuts d.cuts)));
        cities = d.cities;
        cuts = d.cuts;
        conds = let n = d.conds in omega arith;
        order = record { cities = g.cities; cuts = g.cuts; conds = rises_more o.duals.conds (v, w) (2 ^ 32) (firsts d.more.conds) t.0 (depth_within j.n v w f) g.conds; named = and_from (j.names o.path v) (all_named j o.path (firsts d.more.conds)) t.1 g.named };
        closed = subst (λ q. j.closes h.bound h.cuts o.path (record { cities = o.duals.cities ++ d.more.cities; cuts = o.duals.cuts ++ d.more.cuts; conds = q }) ≡ true) (append_assoc o.duals.conds ((v, w) ∷ []) d.more.conds) d.closed;
        trees = d.trees;
      },
    )
on_cond_dual_back j l h ps o c at (title_line z) xs f k = absurd k
on_cond_dual_back j l h ps o c at (size_line z) xs f k = absurd k
on_cond_dual_back j l h ps o c at (length_line z) xs f k = absurd k
on_cond_dual_back j l h ps o c at (bound_line z) xs f k = absurd k
on_cond_dual_back j l h ps o c at (tour_line cs) xs f k = absurd k
on_cond_dual_back j l h ps o c at (cuts_line z) xs f k = absurd k
on_cond_dual_back j l h ps o c at (subtour_line q) xs f k = absurd k
on_cond_dual_back j l h ps o c at (comb_line z) xs f k = absurd k
on_cond_dual_back j l h ps o c at (handle_line q) xs f k = absurd k
on_cond_dual_back j l h ps o c at (tooth_line q) xs f k = absurd k
on_cond_dual_back j l h ps o c at (odd_line z) xs f k = absurd k
on_cond_dual_back j l h ps o c at (pair_line u v) xs f k = absurd k
on_cond_dual_back j l h ps o c at (edge_line u v) xs f k = absurd k
on_cond_dual_back j l h ps o c at (clique_line q) xs f k = absurd k
on_cond_dual_back j l h ps o c at (leaf_line x y z) xs f k = absurd k
on_cond_dual_back j l h ps o c at (city_line v w) xs f k = absurd k
on_cond_dual_back j l h ps o c at (cut_line y z) xs f k = absurd k
on_cond_dual_back j l h ps o c at open_line xs f k = absurd k

pub on_dual_back : (j : Tests) (l : ℕ × ℕ) (h : Head) (ps : List (List Condition)) (o : OpenDuals) (a b c at : ℕ) (x : Item) (xs : List Item) → fits j.n x ≡ true → LeftOf j l (on_dual j h ps o a b c at x) xs → Left j l (wants_duals h ps o a b c) (x ∷ xs)
on_dual_back j l h ps o zero zero zero at (title_line z) xs f k = absurd k
on_dual_back j l h ps o zero zero zero at (size_line z) xs f k = absurd k
on_dual_back j l h ps o zero zero zero at (length_line z) xs f k = absurd k
on_dual_back j l h ps o zero zero zero at (bound_line z) xs f k = absurd k
on_dual_back j l h ps o zero zero zero at (tour_line cs) xs f k = absurd k
on_dual_back j l h ps o zero zero zero at (cuts_line z) xs f k = absurd k
on_dual_back j l h ps o zero zero zero at (subtour_line q) xs f k = absurd k
on_dual_back j l h ps o zero zero zero at (comb_line z) xs f k = absurd k
on_dual_back j l h ps o zero zero zero at (handle_line q) xs f k = absurd k
on_dual_back j l h ps o zero zero zero at (tooth_line q) xs f k = absurd k
on_dual_back j l h ps o zero zero zero at (odd_line z) xs f k = absurd k
on_dual_back j l h ps o zero zero zero at (pair_line u v) xs f k = absurd k
on_dual_back j l h ps o zero zero zero at (edge_line u v) xs f k = absurd k
on_dual_back j l h ps o zero zero zero at (clique_line q) xs f k = absurd k
on_dual_back j l h ps o zero zero zero at (leaf_line x y z) xs f k = absurd k
on_dual_back j l h ps o zero zero zero at (city_line v w) xs f k = absurd k
on_dual_back j l h ps o zero zero zero at (cut_line y z) xs f k = absurd k
on_dual_back j l h ps o zero zero zero at (condition_line y z) xs f k = absurd k
on_dual_back j l h ps o zero zero zero at open_line xs f k = absurd k
on_dual_back j l h ps o (suc a) b c at x xs f k = on_city_back j l h ps o a b c at x xs f k
on_dual_back j l h ps o zero (suc b) c at x xs f k = on_cut_dual_back j l h ps o b c at x xs k
on_dual_back j l h ps o zero zero (suc c) at x xs f k = on_cond_dual_back j l h ps o c at x xs f k
