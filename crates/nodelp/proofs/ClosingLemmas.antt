-- Duals in order, and those of them that count.
use Rattle.std.proofs.Common.{◌≡◌, ℕ, zero, suc, ◌+◌, ◌^◌, ◌<◌, ◌≤◌, min, List, [], ◌∷◌, ◌++◌, length, get_or, take, drop, ℤ, pos, nat_abs, Some, refl, sym, ap, subst, ◌∙◌, arith}
use Rattle.std.specs.Prelude.{int_lt, slice_get}
use Rattle.std.specs.List.{AllByRecursion}
use Rattle.std.proofs.lemmas.Bool.{cond_both}
use Rattle.std.proofs.lemmas.List.{map-append, append_assoc, drop_more, length-append}
use Rattle.std.specs.declared.cmp.Ordering.TheVariants.{Less}
use Rattle.tspdef.specs.Cuts.{Cut, cut_cmp, IsCut}
use Rattle.tspdef.specs.Paths.{Condition, fixed, absent, present, two, four, branches, condition_at, IsClique}
use Rattle.tspdef.specs.Closings.{CutsRise, AreRisingCuts, DepthsRise, NamesCliques, Fits}
use Rattle.tspdef.proofs.RootLemmas.{branches_join}
use Rattle.cutform.specs.Order.{ordered_cuts}
use Rattle.branchx.specs.declared.cond.Cond.{Cond}
use Rattle.branchx.specs.Cond.{condition_of, conditions_of}
use Rattle.pricer.specs.Rounds.{positive, rounded}
use Rattle.pricer.proofs.RoundLemmas.{rounded_counts, rounded_sizes, all_first}
use Rattle.lpcheck.specs.declared.row.Row.{Row}
use Rattle.nodelp.specs.Cuts.{AreCutRows}
use Rattle.nodelp.specs.Duals.{dual_at, cut_duals, clique_duals}
use Rattle.nodelp.specs.Shapes.{cliques}

known : {A : Type 0} → (xs : List A) (i : ℕ) (x : A) → x ≡ get_or xs i x → i < length xs → drop i xs ≡ x ∷ drop (i + 1) xs
known {A} xs i x is inside = drop_more xs i x inside ∙ ap (λ (q : A). q ∷ drop (i + 1) xs) (sym is)

-- ---- cuts

rise_from : (c d : Cut) (qs : List (Cut × ℕ)) → cut_cmp c d ≡ Less → CutsRise d qs → CutsRise c qs
rise_from c d [] l r = tt
rise_from c d (q ∷ qs) l r = (ordered_cuts.trans c d q.0 l r.0, r.1)

rise_positive : (c : Cut) (ys : List ℤ) (qs : List (Cut × ℕ)) → CutsRise c qs → CutsRise c (positive (cut_duals ys qs))
rise_positive c ys [] r = tt
rise_positive c ys (q ∷ qs) r =
    let y = dual_at ys q.1 in
    cond_both (int_lt (pos 0) y) ((q.0, min (nat_abs y) (2 ^ 62)) ∷ positive (cut_duals ys qs)) (positive (cut_duals ys qs)) (CutsRise c)
    (λ e. (r.0, rise_positive q.0 ys qs r.1))
    (λ e. rise_from c q.0 (positive (cut_duals ys qs)) r.0 (rise_positive q.0 ys qs r.1))

rising_rise : (c : Cut) (qs : List (Cut × ℕ)) → CutsRise c qs → AreRisingCuts qs
rising_rise c [] r = tt
rising_rise c (q ∷ qs) r = r.1

rising_positive : (ys : List ℤ) (qs : List (Cut × ℕ)) → AreRisingCuts qs → AreRisingCuts (positive (cut_duals ys qs))
rising_positive ys [] r = tt
rising_positive ys (q ∷ qs) r =
    let y = dual_at ys q.1 in
    cond_both (int_lt (pos 0) y) ((q.0, min (nat_abs y) (2 ^ 62)) ∷ positive (cut_duals ys qs)) (positive (cut_duals ys qs)) AreRisingCuts
    (λ e. rise_positive q.0 ys qs r)
    (λ e. rising_rise q.0 (positive (cut_duals ys qs)) (rise_positive q.0 ys qs r))

cuts_positive : (n : ℕ) (ys : List ℤ) (qs : List (Cut × ℕ)) → AllByRecursion (λ q. IsCut n q.0) qs → AllByRecursion (λ q. IsCut n q.0) (positive (cut_duals ys qs))
cuts_positive n ys [] a = tt
cuts_positive n ys (q ∷ qs) a =
    let y = dual_at ys q.1 in
    cond_both (int_lt (pos 0) y) ((q.0, min (nat_abs y) (2 ^ 62)) ∷ positive (cut_duals ys qs)) (positive (cut_duals ys qs)) (AllByRecursion (λ q. IsCut n q.0))
    (λ e. (a.0, cuts_positive n ys qs a.1))
    (λ e. cuts_positive n ys qs a.1)

rise_take : (k : ℕ) (c : Cut) (qs : List (Cut × ℕ)) → CutsRise c qs → CutsRise c (take k qs)
rise_take zero c qs r = tt
rise_take (suc k) c [] r = tt
rise_take (suc k) c (q ∷ qs) r = (r.0, rise_take k q.0 qs r.1)

rising_take : (k : ℕ) (qs : List (Cut × ℕ)) → AreRisingCuts qs → AreRisingCuts (take k qs)
rising_take zero qs r = tt
rising_take (suc k) [] r = tt
rising_take (suc k) (q ∷ qs) r = rise_take k q.0 qs r

-- ---- depths

depths_from : (d e : ℕ) (qs : List (ℕ × ℕ)) → d ≤ e → DepthsRise e qs → DepthsRise d qs
depths_from d e [] l r = tt
depths_from d e (q ∷ qs) l r = let h = r.0 in (omega (arith, l, h), r.1)

depths_take : (k d : ℕ) (qs : List (ℕ × ℕ)) → DepthsRise d qs → DepthsRise d (take k qs)
depths_take zero d qs r = tt
depths_take (suc k) d [] r = tt
depths_take (suc k) d (q ∷ qs) r = (r.0, depths_take k q.0 qs r.1)

one_depth : (d depth : ℕ) (y : ℤ) (qs : List (ℕ × ℤ)) → d < depth → DepthsRise depth (positive qs) → DepthsRise d (positive ((depth, y) ∷ qs))
one_depth d depth y qs l r =
    cond_both (int_lt (pos 0) y) ((depth, min (nat_abs y) (2 ^ 62)) ∷ positive qs) (positive qs) (DepthsRise d)
    (λ e. (l, r))
    (λ e. depths_from d depth (positive qs) (omega (arith, l)) r)

depths_rise : (ys : List ℤ) (d depth row : ℕ) (path : List Condition) → d < depth → DepthsRise d (positive (clique_duals ys depth row path))
depths_rise ys d depth row [] l = tt
depths_rise ys d depth row (fixed u v ∷ path) l = depths_rise ys d depth row path l
depths_rise ys d depth row (absent u v ∷ path) l = depths_rise ys d (depth + 1) row path (omega (arith, l))
depths_rise ys d depth row (present u v ∷ path) l = depths_rise ys d (depth + 1) row path (omega (arith, l))
depths_rise ys d depth row (two s ∷ path) l = one_depth d depth (dual_at ys row) (clique_duals ys (depth + 1) (row + 1) path) l (depths_rise ys depth (depth + 1) (row + 1) path (omega arith))
depths_rise ys d depth row (four s ∷ path) l = one_depth d depth (dual_at ys row) (clique_duals ys (depth + 1) (row + 1) path) l (depths_rise ys depth (depth + 1) (row + 1) path (omega arith))

get_at : (xs ys : List Condition) (y : Condition) (k : ℕ) → k ≡ length xs → slice_get (xs ++ y ∷ ys) k ≡ Some y
get_at [] ys y zero e = refl
get_at [] ys y (suc k) e = absurd (omega arith)
get_at (x ∷ xs) ys y zero e = absurd (omega arith)
get_at (x ∷ xs) ys y (suc k) e = get_at xs ys y k (omega arith)

at_depth : (before path : List Condition) (c : Condition) (depth : ℕ) → depth ≡ length (branches before) + 1 → branches (c ∷ path) ≡ c ∷ branches path → condition_at (before ++ c ∷ path) depth ≡ Some c
at_depth before path c zero e own = absurd (omega arith)
at_depth before path c (suc k) e own =
    ap (λ (l : List Condition). slice_get l k) (branches_join before (c ∷ path) ∙ ap (λ (l : List Condition). branches before ++ l) own)
    ∙ get_at (branches before) (branches path) c k (omega arith)

-- a fixed pair has no depth, and each other condition has one
behind_fixed : (before : List Condition) (u v : ℕ) → length (branches (before ++ fixed u v ∷ [])) ≡ length (branches before)
behind_fixed before u v = ap (λ (l : List Condition). length l) (branches_join before (fixed u v ∷ [])) ∙ (length-append (branches before) [] ∙ omega arith)

behind_other : (before : List Condition) (c : Condition) → branches (c ∷ []) ≡ c ∷ [] → length (branches (before ++ c ∷ [])) ≡ length (branches before) + 1
behind_other before c own = ap (λ (l : List Condition). length l) (branches_join before (c ∷ []) ∙ ap (λ (l : List Condition). branches before ++ l) own) ∙ length-append (branches before) (c ∷ [])

one_named : (path : List Condition) (depth : ℕ) (y : ℤ) (qs : List (ℕ × ℤ)) → IsClique (condition_at path depth) → NamesCliques path (positive qs) → NamesCliques path (positive ((depth, y) ∷ qs))
one_named path depth y qs h r =
    cond_both (int_lt (pos 0) y) ((depth, min (nat_abs y) (2 ^ 62)) ∷ positive qs) (positive qs) (NamesCliques path) (λ e. (h, r)) (λ e. r)

one_on : (before path whole : List Condition) (c : Condition) → whole ≡ before ++ c ∷ path → whole ≡ (before ++ c ∷ []) ++ path
one_on before path whole c is = is ∙ sym (append_assoc before (c ∷ []) path)

next_depth : (before : List Condition) (c : Condition) (depth : ℕ) → branches (c ∷ []) ≡ c ∷ [] → depth ≡ length (branches before) + 1 → depth + 1 ≡ length (branches (before ++ c ∷ [])) + 1
next_depth before c depth own at = let l = behind_other before c own in omega (arith, l, at)

names_from : (ys : List ℤ) (before path whole : List Condition) (depth row : ℕ) → whole ≡ before ++ path → depth ≡ length (branches before) + 1 → NamesCliques whole (positive (clique_duals ys depth row path))
names_from ys before [] whole depth row is at = tt
names_from ys before (fixed u v ∷ path) whole depth row is at =
    names_from ys (before ++ fixed u v ∷ []) path whole depth row (one_on before path whole (fixed u v) is) (let l = behind_fixed before u v in omega (arith, l, at))
names_from ys before (absent u v ∷ path) whole depth row is at =
    names_from ys (before ++ absent u v ∷ []) path whole (depth + 1) row (one_on before path whole (absent u v) is) (next_depth before (absent u v) depth refl at)
names_from ys before (present u v ∷ path) whole depth row is at =
    names_from ys (before ++ present u v ∷ []) path whole (depth + 1) row (one_on before path whole (present u v) is) (next_depth before (present u v) depth refl at)
names_from ys before (two s ∷ path) whole depth row is at =
    let here : condition_at whole depth ≡ Some (two s) = ap (λ (p : List Condition). condition_at p depth) is ∙ at_depth before path (two s) depth at refl in
    one_named whole depth (dual_at ys row) (clique_duals ys (depth + 1) (row + 1) path) (subst IsClique (sym here) tt)
    (names_from ys (before ++ two s ∷ []) path whole (depth + 1) (row + 1) (one_on before path whole (two s) is) (next_depth before (two s) depth refl at))
names_from ys before (four s ∷ path) whole depth row is at =
    let here : condition_at whole depth ≡ Some (four s) = ap (λ (p : List Condition). condition_at p depth) is ∙ at_depth before path (four s) depth at refl in
    one_named whole depth (dual_at ys row) (clique_duals ys (depth + 1) (row + 1) path) (subst IsClique (sym here) tt)
    (names_from ys (before ++ four s ∷ []) path whole (depth + 1) (row + 1) (one_on before path whole (four s) is) (next_depth before (four s) depth refl at))

-- ---- the closing

pub closing_fits : (n : ℕ) (path : List Condition) (rows : List Row) (cuts : List (Cut × ℕ)) (city ys : List ℤ) → AreCutRows n rows cuts → Fits n path (rounded n city (cut_duals ys cuts) (clique_duals ys 1 n path))
closing_fits n path rows cuts city ys are = record {
  counts = rounded_counts n city (cut_duals ys cuts) (clique_duals ys 1 n path);
  sizes = rounded_sizes n city (cut_duals ys cuts) (clique_duals ys 1 n path);
  cuts = record {
    cuts = all_first (λ q. IsCut n q.0) 4096 (positive (cut_duals ys cuts)) (cuts_positive n ys cuts are.each);
    rising = rising_take 4096 (positive (cut_duals ys cuts)) (rising_positive ys cuts are.rising);
  };
  depths = record {
    rising = depths_take 4096 0 (positive (clique_duals ys 1 n path)) (depths_rise ys 0 1 n path (omega arith));
    cliques = all_first (λ q. IsClique (condition_at path q.0)) 4096 (positive (clique_duals ys 1 n path)) (names_from ys [] path path 1 n refl (omega arith));
  };
}

pub cut_duals_push : (ys : List ℤ) (qs : List (Cut × ℕ)) (q : Cut × ℕ) → cut_duals ys (qs ++ q ∷ []) ≡ cut_duals ys qs ++ (q.0, dual_at ys q.1) ∷ []
cut_duals_push ys qs q = map-append (λ (p : Cut × ℕ). (p.0, dual_at ys p.1)) qs (q ∷ [])

-- ---- the duals of one more condition

duals_one : (ys : List ℤ) (d r : ℕ) (c : Condition) (cs : List Condition) → clique_duals ys d r (c ∷ cs) ≡ clique_duals ys d r (c ∷ []) ++ clique_duals ys (d + length (branches (c ∷ []))) (r + cliques (c ∷ [])) cs
duals_one ys d r (fixed u v) cs = let e : r ≡ r + 0 = omega arith in let f : d ≡ d + 0 = omega arith in ap (λ k. clique_duals ys k r cs) f ∙ ap (λ k. clique_duals ys (d + 0) k cs) e
duals_one ys d r (absent u v) cs = let e : r ≡ r + 0 = omega arith in ap (λ k. clique_duals ys (d + 1) k cs) e
duals_one ys d r (present u v) cs = let e : r ≡ r + 0 = omega arith in ap (λ k. clique_duals ys (d + 1) k cs) e
duals_one ys d r (two s) cs = refl
duals_one ys d r (four s) cs = refl

pub duals_more : (ys : List ℤ) (xs : List Cond) (i d r next depth : ℕ) (x : Cond) (old new whole : List (ℕ × ℤ)) → i < length xs → x ≡ get_or xs i x → new ≡ old ++ clique_duals ys d r (condition_of x ∷ []) → next ≡ r + cliques (condition_of x ∷ [])
    → depth ≡ d + length (branches (condition_of x ∷ [])) → old ++ clique_duals ys d r (conditions_of (drop i xs)) ≡ whole → new ++ clique_duals ys depth next (conditions_of (drop (i + 1) xs)) ≡ whole
duals_more ys xs i d r next depth x old new whole inside is new_is next_is depth_is so_far =
    let rest = conditions_of (drop (i + 1) xs) in
    let split : conditions_of (drop i xs) ≡ condition_of x ∷ rest = ap conditions_of (known xs i x is inside) in
    let one = clique_duals ys d r (condition_of x ∷ []) in
    ap (λ (l : List (ℕ × ℤ)). l ++ clique_duals ys depth next rest) new_is
    ∙ (ap (λ k. (old ++ one) ++ clique_duals ys k next rest) depth_is
    ∙ (ap (λ k. (old ++ one) ++ clique_duals ys (d + length (branches (condition_of x ∷ []))) k rest) next_is
    ∙ (append_assoc old one (clique_duals ys (d + length (branches (condition_of x ∷ []))) (r + cliques (condition_of x ∷ [])) rest)
    ∙ (ap (λ (l : List (ℕ × ℤ)). old ++ l) (sym (duals_one ys d r (condition_of x) rest))
    ∙ (ap (λ (p : List Condition). old ++ clique_duals ys d r p) (sym split) ∙ so_far)))))
